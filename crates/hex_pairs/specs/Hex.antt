-- Hex digits, and bytes as pairs of them: "Hex is 0-9 A-F", and "Take a-f as well .. We write capitals still" (document 02, request 1). Assumes nothing.
use Rattle.std.specs.Prelude.{ℕ, ◌+◌, ◌-◌, ◌*◌, ◌/◌, ◌%◌, Bool, true, List, [], ◌∷◌, nat_le, nat_lt, Option, Some, None}
use Rattle.base.specs.Choice.{pick, both, either}

-- "0-9"
abbrev pub is_numeral : ℕ → Bool
is_numeral c = both (nat_le 0x30 c) (nat_le c 0x39)

-- "A-F"
abbrev pub is_capital : ℕ → Bool
is_capital c = both (nat_le 0x41 c) (nat_le c 0x46)

-- "Take a-f as well"
abbrev pub is_small : ℕ → Bool
is_small c = both (nat_le 0x61 c) (nat_le c 0x66)

abbrev pub is_letter : ℕ → Bool
is_letter c = either (is_capital c) (is_small c)

-- a character that is a hex digit, and characters that all are
unfoldable pub is_hex : ℕ → Bool
is_hex c = either (is_numeral c) (is_letter c)

unfoldable pub all_hex : List ℕ → Bool
all_hex [] = true
all_hex (c ∷ t) = both (is_hex c) (all_hex t)

-- what a character is worth
unfoldable pub digit_value : ℕ → Option ℕ
digit_value c =
    pick (is_numeral c) (Some (c - 0x30))
    (pick (is_capital c) (Some (c - 0x41 + 10))
    (pick (is_small c) (Some (c - 0x61 + 10)) None))

-- "We write capitals still": the digit of a number, of which only the lowest four bits count
unfoldable pub digit_of : ℕ → ℕ
digit_of n = pick (nat_lt (n % 16) 10) (0x30 + n % 16) (0x41 + (n % 16 - 10))

-- a text in capitals: a-f as A-F, every other character as it is
unfoldable pub capital_of : ℕ → ℕ
capital_of c = pick (is_small c) (c - 0x20) c

unfoldable pub capitals : List ℕ → List ℕ
capitals [] = []
capitals (c ∷ t) = capital_of c ∷ capitals t

abbrev pub joined : Option ℕ → Option ℕ → Option ℕ
joined (Some high) (Some low) = Some (high * 16 + low)
joined (Some high) None = None
joined None low = None

-- the byte that two characters spell
unfoldable pub pair_value : ℕ → ℕ → Option ℕ
pair_value high low = joined (digit_value high) (digit_value low)

-- each byte as two digits
unfoldable pub hex_of : List ℕ → List ℕ
hex_of [] = []
hex_of (b ∷ s) = digit_of (b / 16) ∷ digit_of (b % 16) ∷ hex_of s

abbrev pub spelt : Option ℕ → List ℕ → List ℕ
spelt (Some b) s = b ∷ s
spelt None s = []

-- the bytes that the pairs of a text spell, up to the first pair that spells none; a last character without a partner is no pair
unfoldable pub bytes_of : List ℕ → List ℕ
bytes_of [] = []
bytes_of (c ∷ []) = []
bytes_of (high ∷ low ∷ t) = spelt (pair_value high low) (bytes_of t)
