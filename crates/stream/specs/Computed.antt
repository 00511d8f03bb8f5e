-- The left-to-right reading as a function that computes, place by place and not byte by byte. Assumes nothing.
use Rattle.std.specs.Prelude.{Bool, true, false, List, [], ◌∷◌, ◌++◌, ℕ, zero, suc, ◌+◌, length}
use Rattle.base.specs.Choice.{pick}
use Rattle.stream.specs.Format.{Format}
use Rattle.stream.specs.Reading.{Yield, waiting, taking}

-- the shortest message that is p and some of the bytes s; [] where there is none
unfoldable pub found : Format → List ℕ → List ℕ → List ℕ
found F p [] = []
found F p (b ∷ s) = pick (F.formed (p ++ b ∷ [])) (p ++ b ∷ []) (found F (p ++ b ∷ []) s)

-- at place i, with the bytes s left: m is the message found there, or []; v tells whether s could become one; `go k j` passes over k
-- bytes from place j on, and then reads
abbrev pub decide : List ℕ → Bool → ℕ → List ℕ → (ℕ → ℕ → Yield) → Yield
decide (x ∷ m) v i s go = taking i (x ∷ m) (go (length m) (i + 1))
decide [] true i s go = waiting i s
decide [] false i s go = go 0 (i + 1)

-- passes over k bytes, the first of them at place i, and then reads
unfoldable pub read_from : Format → (k i : ℕ) → List ℕ → Yield
read_from F k i [] = waiting i []
read_from F zero i (b ∷ s) = decide (found F [] (b ∷ s)) (F.viable (b ∷ s)) i (b ∷ s) (λ k j. read_from F k j s)
read_from F (suc k) i (b ∷ s) = read_from F k (i + 1) s

-- the reading of a whole stream
unfoldable pub read : Format → List ℕ → Yield
read F s = read_from F 0 0 s
