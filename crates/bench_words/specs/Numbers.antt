-- Numbers: "Numbers are decimal, with `-` in front if negative" (docs/BENCH.md). Assumes nothing.
use Rattle.std.specs.Prelude.{Bool, true, List, [], ◌∷◌, ℕ, ◌+◌, ◌-◌, ◌*◌, ◌%◌, min, leb, eqb, Option, Some, None}
use Rattle.base.specs.Choice.{pick, both}
use Rattle.hex_pairs.specs.Hex.{is_numeral}

-- decimal digits alone
unfoldable pub all_numerals : List ℕ → Bool
all_numerals [] = true
all_numerals (c ∷ t) = both (is_numeral c) (all_numerals t)

-- what digits come to, behind digits that come to n
unfoldable pub size_from : ℕ → List ℕ → ℕ
size_from n [] = n
size_from n (c ∷ t) = size_from (n * 10 + (c - 0x30)) t

-- sizes from 2^32 on are not told apart
unfoldable pub capped_from : ℕ → List ℕ → Option ℕ
capped_from n digits = pick (all_numerals digits) (Some (min (size_from n digits) 0x100000000)) None

-- the size of decimal digits, one at least
unfoldable pub size_of : List ℕ → Option ℕ
size_of [] = None
size_of (c ∷ t) = capped_from 0 (c ∷ t)

-- a number that is not negative, up to `most`; and a negative one, down to -`below`, in two's complement
abbrev pub plain : ℕ → Option ℕ → Option ℕ
plain most (Some n) = pick (leb n most) (Some n) None
plain most None = None

abbrev pub negative : ℕ → Option ℕ → Option ℕ
negative below (Some n) = pick (leb n below) (Some ((0x100000000 - n) % 0x100000000)) None
negative below None = None

-- the word as a number from -`below` to `most`
unfoldable pub number_of : ℕ → ℕ → List ℕ → Option ℕ
number_of below most [] = None
number_of below most (c ∷ t) = pick (eqb c 0x2D) (negative below (size_of t)) (plain most (size_of (c ∷ t)))

-- its low 16 bits
abbrev pub short_of : Option ℕ → Option ℕ
short_of (Some n) = Some (n % 0x10000)
short_of None = None
