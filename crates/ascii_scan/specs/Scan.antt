-- What a scan makes of one byte. Of what is pending only the count and the last byte are looked at; at CR, and from the 509th digit on, the bytes that the
-- digits spell. Where a beginning is pending, this is document 01's stream call (the law `scan_is`). Any other bits are taken for a beginning by the same
-- count and bytes. Assumes nothing.
use Rattle.std.specs.Prelude.{ℕ, ◌+◌, ◌-◌, ◌*◌, ◌/◌, ◌%◌, min, Bool, false, List, [], ◌∷◌, ◌++◌, length, ◌==◌, nat_lt, slice_index}
use Rattle.base.specs.Choice.{pick, both}
use Rattle.hex_pairs.specs.Hex.{is_hex, digit_of, capital_of}
use Rattle.checks.specs.Lrc.{lrc_of}
use Rattle.pending.specs.declared.Pending.{Pending}
use Rattle.pending.specs.Held.{held, emptied, pushed, began_with}
use Rattle.pending.specs.Scanning.{Feeding}
use Rattle.ascii.specs.Ascii.{bytes_in, right}

-- the last byte pending is CR
unfoldable pub ended : Pending → Bool
ended p = pick (p.len == 0) false (slice_index p.bytes (min p.len 512 - 1) == 0x0D)

-- "k from 3 to 255": where n bytes are pending, `:` and n - 1 digits, a digit goes on freely up to the 508th. The 509th and the 510th can only be the two
-- digits of the LRC, in either letters
unfoldable pub digit_fits : ℕ → ℕ → ℕ → Bool
digit_fits n lrc b = pick (nat_lt n 509) (nat_lt 0 n) (pick (n == 509) (capital_of b == digit_of (lrc / 16)) (both (n == 510) (capital_of b == digit_of (lrc % 16))))

-- "k byte pairs ..": CR goes on where the digits are pairs to their end, and their bytes are right
unfoldable pub cr_fits : ℕ → List ℕ → Bool
cr_fits n bytes = both (n == 2 * length bytes + 1) (right bytes)

-- b goes on, where CR has not come
unfoldable pub goes_on : Pending → ℕ → Bool
goes_on p b = pick (is_hex b) (digit_fits p.len (lrc_of (bytes_in (held p))) b) (both (b == 0x0D) (cr_fits p.len (bytes_in (held p))))

-- a byte that spoils what is pending is looked at again, as a beginning of its own
unfoldable pub again : Pending → ℕ → Pending
again p b = pick (b == 0x3A) (began_with p b) (emptied p)

-- ".. CR LF": after CR only LF goes on, and it ends the message
unfoldable pub ends : Pending → ℕ → Bool
ends p b = both (ended p) (b == 0x0A)

-- what is held then. The LF is not: with it the longest message has 513 bytes
unfoldable pub fed : Pending → ℕ → Pending
fed p b = pick (ended p) (pick (b == 0x0A) p (again p b)) (pick (goes_on p b) (pushed p b) (again p b))

unfoldable pub message_in : Pending → List ℕ
message_in p = held p ++ 0x0A ∷ []

abbrev pub feeding : Feeding
feeding = record { ends = ends; next = fed; message = message_in }
