-- Words and 32-bit values, as bytes of a data unit. Assumes nothing.
use Rattle.std.specs.Prelude.{List, [], ◌∷◌, ◌++◌, ℕ, ◌+◌, ◌*◌, ◌/◌, ◌%◌, get_or}

-- "Words go high byte first": a word's bytes, and the word at a place. Bytes past the end count as 0
unfoldable pub word_bytes : ℕ → List ℕ
word_bytes w = w / 256 ∷ w % 256 ∷ []

unfoldable pub word_at : List ℕ → ℕ → ℕ
word_at s i = 256 * get_or s i 0 + get_or s (i + 1) 0

-- "32-bit values low word first"
unfoldable pub long_bytes : ℕ → List ℕ
long_bytes v = word_bytes (v % 65536) ++ word_bytes (v / 65536)

unfoldable pub long_at : List ℕ → ℕ → ℕ
long_at s i = word_at s i + 65536 * word_at s (i + 2)
