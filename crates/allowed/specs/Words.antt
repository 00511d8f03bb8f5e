-- What the code asks of a word in the place of the number that it stands for. Assumes nothing.
use Rattle.std.specs.Prelude.{Bool, false, List, [], ◌∷◌, ℕ, ◌+◌, ◌%◌, eqb, ltb, ℤ}
use Rattle.base.specs.Choice.{pick, either}
use Rattle.allowed.specs.Allowed.{twos}

-- a test of numbers, asked of a 16-bit row's word: a wider word stands for no number
unfoldable pub narrow : (ℤ → Bool) → ℕ → Bool
narrow test w = pick (ltb w 0x10000) (test (twos 0x8000 w)) false

-- where a 16-bit row's word stands in the order of the numbers, from −32768 on
unfoldable pub rank_of : ℕ → ℕ
rank_of w = (w % 0x10000 + 0x8000) % 0x10000

-- one of these words
unfoldable pub listed : ℕ → List ℕ → Bool
listed w [] = false
listed w (a ∷ rest) = either (eqb w a) (listed w rest)
