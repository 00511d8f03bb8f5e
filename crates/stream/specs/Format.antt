-- A format of messages, as the left-to-right reading sees it: nothing here knows a protocol. Assumes nothing.
use Rattle.std.specs.Prelude.{◌≡◌, ◌↔◌, ◌≢◌, Bool, true, List, [], ◌∷◌, ◌++◌, ℕ}
use Rattle.base.specs.Bytes.{Bytes}

-- the byte that each message begins with; the test of a well-formed message; the test of a beginning
pub record Format : Type 0 where
  pub start : ℕ
  pub formed : List ℕ → Bool
  pub viable : List ℕ → Bool

-- "a well-formed message begins there": the bytes s are a message, and what follows it
abbrev pub Begins : Format → List ℕ → Type 0
Begins F s = (m : List ℕ) × (rest : List ℕ) × (s ≡ m ++ rest) × (F.formed m ≡ true)

-- "the bytes left could still become one": with one byte more at least, they are a well-formed message
abbrev pub CouldBecome : Format → List ℕ → Type 0
CouldBecome F s = (b : ℕ) × (more : List ℕ) × (F.formed (s ++ b ∷ more) ≡ true)

-- no byte of the list is c
abbrev pub Without : ℕ → List ℕ → Type 0
Without c [] = Unit {0}
Without c (x ∷ xs) = (x ≢ c) × Without c xs

-- What the theorem asks of a format.
pub record Lawful (F : Format) : Type 0 where
  -- messages are bytes: so what could still become one could by bytes that come
  pub bytes : (m : List ℕ) → F.formed m ≡ true → Bytes m
  -- there is a message
  pub some_message : CouldBecome F []
  -- the test of a beginning tells what could still become a message, and only that
  pub viable_iff : (s : List ℕ) → (F.viable s ≡ true) ↔ CouldBecome F s
  -- no message is the beginning of another
  pub prefix_free : (m more : List ℕ) → F.formed m ≡ true → F.formed (m ++ more) ≡ true → more ≡ []
  -- each message is the start byte and one byte more at least
  pub begins : (m : List ℕ) → F.formed m ≡ true → (b : ℕ) × (more : List ℕ) × (m ≡ F.start ∷ b ∷ more)
  -- in a beginning the start byte stands first and nowhere else, so in a message it can only come again as the last byte
  pub inner : (x : ℕ) (p : List ℕ) → F.viable (x ∷ p) ≡ true → Without F.start p
