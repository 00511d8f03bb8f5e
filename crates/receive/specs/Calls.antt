-- A stream on the line: the calls that a caller makes of it, and what comes of them. Assumes nothing.
use Rattle.std.specs.Prelude.{List, [], ◌∷◌, ◌++◌, ℕ, ◌≤◌, drop}
use Rattle.base.specs.Buffers.{reply_least}
use Rattle.card.specs.State.{protocol_of}
use Rattle.card.specs.declared.state.Card.{Card}
use Rattle.card.specs.declared.outcome.Outcome.{Outcome}
use Rattle.card.specs.declared.outcome.Outcome.TheVariants as Outcomes
use Rattle.turn.specs.Turn.{Received}
use Rattle.receive.specs.Receive.{received}

-- "a reply buffer long enough", by the protocol of the card's port
abbrev pub LongEnough : Card → ℕ → Type 0
LongEnough c room = reply_least (protocol_of c) ≤ room

-- what came of a stream: the outcomes of the messages taken, the joined replies, and the card at the end
pub record Course : Type 0 where
  pub outcomes : List Outcome
  pub replies : List ℕ
  pub card : Card

-- the outcome of a message, where one was taken
abbrev pub outcome_of : Outcome → List Outcome
outcome_of Outcomes.Done = []
outcome_of (Outcomes.Served answer) = Outcomes.Served answer ∷ []
outcome_of Outcomes.ShortBuffer = []
outcome_of Outcomes.BadFrame = []
outcome_of Outcomes.NoSuchEvent = []
outcome_of Outcomes.NothingTaken = []

-- what one call adds in front
abbrev pub adding : Received → Course → Course
adding r k = record { outcomes = outcome_of r.outcome ++ k.outcomes; replies = r.reply ++ k.replies; card = k.card }

-- nothing comes of no bytes
abbrev pub ended : Card → Course
ended c = record { outcomes = []; replies = []; card = c }

-- `Calls c s k`: a caller hands the stream s to the card c in scraps, with reply buffers that are long enough, and k comes of it. "The caller gives the
-- unused rest again first": after a call on the scrap x, what it did not use of x comes before the bytes y that are still to come
pub data Calls : Card → List ℕ → Course → Type 0 where
  over : {c : Card} → Calls c [] (ended c)
  call : {c : Card} (x y : List ℕ) (room : ℕ) {k : Course} → LongEnough c room
      → Calls (received c x room).card (drop (received c x room).used x ++ y) k
      → Calls c (x ++ y) (adding (received c x room) k)
