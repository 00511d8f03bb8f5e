-- What is known of words. Assumes nothing.
use mathlib.Core.Path.{◌≡◌}
use mathlib.Core.List.{List}
use Prim.Native.Nat.{ℕ, ◌+◌, ◌*◌, ◌/◌, ◌%◌, ◌≤◌}
use native.Mathlib.Omega.{arith}
use lib.ListN.{length, get_or-eq_default}
use Rattle.modbus_words.specs.Words.{word_at, long_at}

-- a word is that of its bytes
pub word_own : (w : ℕ) → 256 * (w / 256) + w % 256 ≡ w
word_own w = omega arith

-- the last register is its own word: past the end both bytes of the next are 0
pub long_last : (s : List ℕ) (i : ℕ) → length s ≤ i + 2 → long_at s i ≡ word_at s i
unfolding long_at word_at
long_last s i h = let g : length s ≤ i + 2 + 1 = omega arith in omega (arith, get_or-eq_default s 0 h, get_or-eq_default s 0 g)
