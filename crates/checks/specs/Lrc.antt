-- The longitudinal check of Modbus ASCII. Assumes nothing.
use Rattle.std.specs.Prelude.{ℕ, ◌+◌, ◌-◌, ◌%◌, Bool, List, [], ◌∷◌, ◌==◌}
use mathlib.Core.List.{foldl}

abbrev pub add_byte : ℕ → ℕ → ℕ
add_byte x b = (x + b) % 256

-- the bytes added modulo 256
unfoldable pub sum_of : List ℕ → ℕ
sum_of s = foldl add_byte 0 s

-- the bytes added: `sum_of` is the rest of this modulo 256 (the law `sum_total`)
unfoldable pub total_of : List ℕ → ℕ
total_of [] = 0
total_of (b ∷ s) = b + total_of s

-- "all k bytes, LRC last, add to 0 modulo 256"
unfoldable pub adds_to_zero : List ℕ → Bool
adds_to_zero s = sum_of s == 0

-- the byte that, put last, makes bytes that add to `sum` do so
abbrev pub lrc_after : ℕ → ℕ
lrc_after sum = (256 - sum) % 256

unfoldable pub lrc_of : List ℕ → ℕ
lrc_of s = lrc_after (sum_of s)
