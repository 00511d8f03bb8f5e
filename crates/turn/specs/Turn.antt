-- What a call hands back: the bytes used, the outcome, the card and the reply. Assumes nothing.
use Rattle.std.specs.Prelude.{List, [], ℕ, length}
use Rattle.identity.specs.Identity.{Identity}
use Rattle.pending.specs.declared.Pending.{Pending}
use Rattle.pending.specs.Scanning.{Scan}
use Rattle.pending.specs.Held.{emptied}
use Rattle.answers.specs.declared.Answer.{Answer}
use Rattle.answers.specs.declared.Answer.TheVariants.{Told, Written, Identified, NotOurs, Refused}
use Rattle.service.specs.Serving.{Served}
use Rattle.port.specs.Port.{Numbers, with_sum}
use Rattle.card.specs.State.{with_pending}
use Rattle.card.specs.declared.state.Card.{Card}
use Rattle.card.specs.declared.outcome.Outcome.{Outcome}
use Rattle.card.specs.declared.outcome.Outcome.TheVariants as Outcomes
use Rattle.turn.specs.declared.Turn.{Turn}

-- what a call names: the card, the outcome, the bytes used, and the reply's bytes
pub record Received : Type 0 where
  pub card : Card
  pub outcome : Outcome
  pub used : ℕ
  pub reply : List ℕ

-- the routine hands back the reply's length in their place
abbrev pub turn_of : Received → Turn
turn_of r = record { card = r.card; outcome = r.outcome; used = r.used; len = length r.reply }

-- "A reply buffer under .. is 10, with no byte used"
abbrev pub too_short : Card → Received
too_short c = record { card = c; outcome = Outcomes.ShortBuffer; used = 0; reply = [] }

-- "15: nothing taken, bytes pending or dropped"
unfoldable pub waiting : Card → Scan → Received
waiting c scan = record { card = with_pending scan.pending c; outcome = Outcomes.NothingTaken; used = scan.used; reply = [] }

-- ---- a message is served
-- "the sum since .. the last taken message of outcome other than 1 or 11": any other restarts it
abbrev pub port_after : Answer → Numbers → Numbers
port_after (Told row word) q = with_sum 0 q
port_after (Written change) q = with_sum 0 q
port_after (Identified part) q = with_sum 0 q
port_after NotOurs q = q
port_after (Refused refusal) q = with_sum 0 q

-- "what is pending after a taken message is empty"; "No message changes the identity"
unfoldable pub card_after : Identity → Pending → Served → Card
card_after i held s = record { port = record { pending = emptied held; numbers = port_after s.answer s.port }; plant = s.plant; identity = i }

-- "Each outcome carries what was done or the reason"
abbrev pub answered : Identity → Pending → ℕ → Served → List ℕ → Received
answered i held used s reply = record { card = card_after i held s; outcome = Outcomes.Served s.answer; used = used; reply = reply }
