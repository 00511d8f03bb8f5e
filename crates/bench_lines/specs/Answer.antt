-- The text of answers; in quotes the words of docs/BENCH.md. Assumes nothing.
use Rattle.std.specs.Prelude.{List, [], ◌∷◌, ◌++◌, ℕ, zero, suc, ◌+◌, ◌-◌, ◌/◌, ◌%◌, min, ltb, length}
use Rattle.base.specs.Choice.{pick}
use Rattle.hex_pairs.specs.Hex.{digit_of, hex_of}

-- where a text ends that is put into a buffer at a place: what does not fit is left out
unfoldable pub end_of : List ℕ → ℕ → List ℕ → ℕ
end_of buffer at text = at + min (length text) (length buffer - at)

-- the decimal digits of a number, at most k + 1 of them
unfoldable pub digits_up_to : ℕ → ℕ → List ℕ
digits_up_to zero n = (0x30 + n % 10) ∷ []
digits_up_to (suc k) n = pick (ltb n 10) ((0x30 + n % 10) ∷ []) (digits_up_to k (n / 10) ++ ((0x30 + n % 10) ∷ []))

-- "Numbers are decimal": one of 64 bits has at most 20 digits
unfoldable pub decimal_of : ℕ → List ℕ
decimal_of n = digits_up_to 19 n

-- "with `-` in front if negative": a word in two's complement, one of `all` words
unfoldable pub signed_of : ℕ → ℕ → List ℕ
signed_of all word = pick (ltb word (all / 2)) (decimal_of word) (0x2D ∷ decimal_of (all - word))

-- "HEX is pairs of capital hex digits without spaces"
unfoldable pub pair_of : ℕ → List ℕ
pair_of b = digit_of (b / 16) ∷ digit_of (b % 16) ∷ []

-- "no bytes at all are written `-`"
unfoldable pub shown : List ℕ → List ℕ
shown [] = 0x2D ∷ []
shown (b ∷ s) = hex_of (b ∷ s)
