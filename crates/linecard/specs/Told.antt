-- What the host is told of a call on bytes from the line, and of register data. Assumes nothing.
use Rattle.std.specs.Prelude.{◌≡◌, List, [], ◌∷◌, ℕ, length}
use Rattle.base.specs.Buffers.{front}
use Rattle.identity.specs.Identity.{Identity}
use Rattle.card.specs.Outcome.{outcome_number}
use Rattle.card.specs.declared.state.Card.{Card}
use Rattle.turn.specs.Turn.{Received}
use Rattle.turn.specs.declared.Turned.{Turned}
use Rattle.rtu.specs.Rtu.{register_span, register_data}

-- "it tells how many, and the outcome": the bytes used, and the length of the reply
abbrev pub told_of : Received → List ℕ
told_of a = a.used ∷ length a.reply ∷ []

abbrev pub told_in : Turned → List ℕ
told_in t = t.used ∷ t.len ∷ []

-- what a call leaves in the host's memory: the card, the reply buffer, the bytes used and the reply's length; and the outcome's number
pub record Leaves (card : Card) (number : ℕ) (before out told : List ℕ) (a : Received) : Type 0 where
  pub card_left : card ≡ a.card
  pub number_told : number ≡ outcome_number a.outcome
  pub reply_lent : out ≡ front a.reply before
  pub counts_told : told ≡ told_of a

-- the same whatever the identity is, which the call is not lent
abbrev pub LeavesAnyone : (Identity → Card) → ℕ → (before out told : List ℕ) → (Identity → Received) → Type 0
LeavesAnyone card number before out told a = (i : Identity) → Leaves (card i) number before out told (a i)

-- where the register data lies in its frame: its first place, and its length
abbrev pub place_of : List ℕ → List ℕ
place_of frame = (register_span frame).from ∷ length (register_data frame) ∷ []
