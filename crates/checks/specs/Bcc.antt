-- The block check of NFO serial. Assumes nothing.
use Rattle.std.specs.Prelude.{ℕ, List, bit_xor}
use mathlib.Core.List.{foldl}

-- "BCC is the exclusive-or of all"
unfoldable pub bcc_of : List ℕ → ℕ
bcc_of s = foldl bit_xor 0 s
