-- What a program does with the bytes of one read: "The caller gives the unused rest again first". Assumes nothing.
use Rattle.std.specs.Prelude.{◌≡◌, List, [], ◌∷◌, ℕ, drop}
use Rattle.base.specs.Buffers.{ascii_least}
use Rattle.card.specs.declared.state.Card.{Card}
use Rattle.receive.specs.Calls.{Course, Calls}
use Rattle.receive.specs.Receive.{received}

-- `EndsAt c s d`: the calls that hand the stream s to the card c, to its last byte, end at the card d
unfoldable pub EndsAt : Card → List ℕ → Card → Type 0
EndsAt c s d = (k : Course) × Calls c s k × (k.card ≡ d)

-- `Handed c s d`: the card c is handed the bytes s, call by call, each with all that the one before did not use, until there are none, with a buffer that is long enough for every
-- protocol; d is the card then. So a frame of Modbus RTU, of which a call uses all, is not cut
pub data Handed : Card → List ℕ → Card → Type 0 where
  over : {c : Card} → Handed c [] c
  call : {c d : Card} (b : ℕ) (s : List ℕ) → Handed (received c (b ∷ s) ascii_least).card (drop (received c (b ∷ s) ascii_least).used (b ∷ s)) d → Handed c (b ∷ s) d

-- `Partly c s d t`: of the bytes s that the card c is handed, some calls were made; d is the card then, and t is what is left to hand to it
pub data Partly : Card → List ℕ → Card → List ℕ → Type 0 where
  none : {c : Card} {s : List ℕ} → Partly c s c s
  after : {c d : Card} {t : List ℕ} (b : ℕ) (s : List ℕ) → Partly (received c (b ∷ s) ascii_least).card (drop (received c (b ∷ s) ascii_least).used (b ∷ s)) d t → Partly c (b ∷ s) d t

-- `Stopped c s d`: what is left where a reply or a line could not be written: d is the card after some of those calls
unfoldable pub Stopped : Card → List ℕ → Card → Type 0
Stopped c s d = (t : List ℕ) × Partly c s d t
