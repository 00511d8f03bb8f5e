-- The left-to-right reading, as document 01 has it: a relation with one constructor for each clause of the paragraph. Assumes nothing.
use Rattle.std.specs.Prelude.{◌≡◌, true, List, [], ◌∷◌, ◌++◌, ℕ, ◌+◌, length}
use Rattle.stream.specs.Format.{Format, Begins, CouldBecome}

-- a message that is taken: the place where it begins, and its bytes
pub record Taken : Type 0 where
  pub place : ℕ
  pub bytes : List ℕ

-- what a reading yields: the messages taken, in order; the place where the bytes pending begin, and these bytes
pub record Yield : Type 0 where
  pub taken : List Taken
  pub place : ℕ
  pub pending : List ℕ

-- nothing is taken, and p, which begins at place i, is pending
abbrev pub waiting : ℕ → List ℕ → Yield
waiting i p = record { taken = []; place = i; pending = p }

-- the message m, which begins at place i, is taken; then comes what y yields
abbrev pub taking : ℕ → List ℕ → Yield → Yield
taking i m y = record { taken = record { place = i; bytes = m } ∷ y.taken; place = y.place; pending = y.pending }

-- `Reads F i s y`: at place i, with the bytes s left, the reading yields y
pub data Reads (F : Format) : ℕ → List ℕ → Yield → Type 0 where
  -- "At a place: if a well-formed message begins there, it is taken and reading goes on after it"
  takes : {i : ℕ} (m s : List ℕ) {y : Yield} → F.formed m ≡ true → Reads F (i + length m) s y → Reads F i (m ++ s) (taking i m y)
  -- "if the bytes left could still become one, they are pending"
  waits : {i : ℕ} {s : List ℕ} → ¬ Begins F s → CouldBecome F s → Reads F i s (waiting i s)
  -- "else reading goes on one byte later"
  skips : {i b : ℕ} {s : List ℕ} {y : Yield} → ¬ Begins F (b ∷ s) → ¬ CouldBecome F (b ∷ s) → Reads F (i + 1) s y → Reads F i (b ∷ s) y
