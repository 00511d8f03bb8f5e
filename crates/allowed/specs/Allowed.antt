-- Which numbers a row allows. Assumes nothing.
use Rattle.std.specs.Prelude.{Bool, false, List, [], ◌∷◌, ℕ, suc, ◌+◌, ◌-◌, ◌%◌, eqb, ltb, ℤ, pos, negsuc, neg_ℤ}
use Rattle.std.specs.Int.Signed.{le_z, lt_z}
use Rattle.base.specs.Choice.{pick, both, either}
use Rattle.table.specs.Table.{line_at}
use Rattle.table.specs.declared.lines.Allowed.{Allowed}
use Rattle.table.specs.declared.lines.Allowed.TheVariants.{Between, OneOf, BelowLimt, AboveMagn, ByMode, Nothing}
use Rattle.allowed.specs.declared.Bounds.{Bounds}

-- a word of which `half` words stand for the numbers from 0 on, and as many for those below 0: two's complement
unfoldable pub twos : ℕ → ℕ → ℤ
twos half w = pick (ltb w half) (pos w) (negsuc (half + half - suc w))

-- the number of a 16-bit row's word
unfoldable pub integer_of : ℕ → ℤ
integer_of w = twos 0x8000 (w % 0x10000)

-- lo..hi
unfoldable pub within : ℤ → ℤ → ℤ → Bool
within lo hi v = both (le_z lo v) (le_z v hi)

abbrev pub eq_z : ℤ → ℤ → Bool
eq_z (pos a) (pos b) = eqb a b
eq_z (pos a) (negsuc b) = false
eq_z (negsuc a) (pos b) = false
eq_z (negsuc a) (negsuc b) = eqb a b

-- one of these
unfoldable pub member : ℤ → List ℤ → Bool
member v [] = false
member v (a ∷ rest) = either (eq_z v a) (member v rest)

-- "0..I-limt−1", by the word of I-limt
unfoldable pub below_limt : ℕ → ℤ → Bool
below_limt limt v = both (le_z (pos 0) v) (lt_z v (integer_of limt))

-- "I-magn+1..3000", by the word of I-magn
unfoldable pub above_magn : ℕ → ℤ → ℤ → Bool
above_magn magn top v = both (lt_z (integer_of magn) v) (le_z v top)

abbrev pub about : ℕ → ℤ → Bool
about m v = within (neg_ℤ (pos m)) (pos m) v

-- "Setpoint: ±1500 at Mode 0 or 1, ±200 at 2, ±9000 at 3"; at a number that Mode does not allow, none
unfoldable pub at_mode : ℕ → ℤ → Bool
at_mode m v =
    pick (eqb m 0) (about 1500 v)
    (pick (eqb m 1) (about 1500 v) (pick (eqb m 2) (about 200 v) (pick (eqb m 3) (about 9000 v) false)))

-- the same by the word of Mode
unfoldable pub setpoint_allows : ℕ → ℤ → Bool
setpoint_allows mode v = at_mode (mode % 0x10000) v

-- what the column Allowed means
unfoldable pub allows : Allowed → Bounds → ℤ → Bool
allows (Between lo hi) by v = within lo hi v
allows (OneOf a b c d) by v = member v (a ∷ b ∷ c ∷ d ∷ [])
allows BelowLimt by v = below_limt by.limt v
allows (AboveMagn top) by v = above_magn by.magn top v
allows ByMode by v = setpoint_allows by.mode v
allows Nothing by v = false

-- "Rows 320, 321, 120 and 39 are 32 bits, two registers; .. all other rows two's complement": the number that a word stands for is one
-- that the row allows. A word that is wider than the row stands for none.
unfoldable pub allowed_at : ℕ → Bounds → ℕ → Bool
allowed_at row by w =
    pick (eqb (line_at row).registers 2) (allows (line_at row).allowed by (twos 0x80000000 w))
    (pick (ltb w 0x10000) (allows (line_at row).allowed by (twos 0x8000 w)) false)
