-- The words of a line: "Words are parted by exactly one space; no space stands at the start or the end" (docs/BENCH.md). Assumes nothing.
use Rattle.std.specs.Prelude.{List, [], ◌∷◌, ℕ, zero, suc, ◌+◌, eqb}
use Rattle.base.specs.Choice.{pick}

-- the words of a line, once `words` of them began and `before` is the character in front of what is left
unfoldable pub count_from : ℕ → ℕ → List ℕ → ℕ
count_from words before [] = pick (eqb before 0x20) 0 words
count_from words before (c ∷ t) = pick (eqb c 0x20) (pick (eqb before 0x20) 0 (count_from (words + 1) c t)) (count_from words c t)

-- how many there are, 0 for a line that is no row of words
unfoldable pub word_count : List ℕ → ℕ
word_count line = count_from 1 0x20 line

-- what stands behind the first k spaces
unfoldable pub behind_spaces : ℕ → List ℕ → List ℕ
behind_spaces zero line = line
behind_spaces (suc k) [] = []
behind_spaces (suc k) (c ∷ t) = pick (eqb c 0x20) (behind_spaces k t) (behind_spaces (suc k) t)

-- what stands in front of the first space
unfoldable pub up_to_space : List ℕ → List ℕ
up_to_space [] = []
up_to_space (c ∷ t) = pick (eqb c 0x20) [] (c ∷ up_to_space t)

-- word k, counted from 0; empty where there are fewer
unfoldable pub word_at : ℕ → List ℕ → List ℕ
word_at k line = up_to_space (behind_spaces k line)
