-- A call on a frame of Modbus RTU: "An RTU call uses all, save at 10". Assumes nothing.
use Rattle.std.specs.Prelude.{List, [], ℕ, ltb, length, Option}
use Rattle.base.specs.Choice.{pick}
use Rattle.base.specs.Buffers.{rtu_least}
use Rattle.identity.specs.Identity.{Identity}
use Rattle.rtu.specs.Rtu.{frame_holds, address_in, unit_in, rtu_of}
use Rattle.modbus_service.specs.Reply.{sent_by, Exchanged, exchanged}
use Rattle.card.specs.declared.state.Card.{Card}
use Rattle.card.specs.declared.outcome.Outcome.TheVariants as Outcomes
use Rattle.turn.specs.Turn.{Received, too_short, answered}
use Rattle.turn.specs.declared.Turned.{Turned}
use Rattle.modbus.specs.declared.replies.Answer as Units

-- what a frame's data unit comes to, on this card
abbrev pub exchange_on : Card → List ℕ → Exchanged
exchange_on c frame = exchanged c.plant c.port.numbers (address_in frame) (unit_in frame)

-- the reply's frame, from the request's address, of a card with this identity
abbrev pub frame_of : Identity → ℕ → Option Units.Answer → List ℕ
frame_of = sent_by rtu_of

-- "11: RTU length or CRC wrong"
abbrev pub spoilt : Card → ℕ → Received
spoilt c used = record { card = c; outcome = Outcomes.BadFrame; used = used; reply = [] }

-- the same where the card's parts are lent
abbrev pub spoilt_in : ℕ → ℕ → Turned
spoilt_in pending used = record { pending = pending; outcome = Outcomes.BadFrame; used = used; len = 0 }

-- length and CRC are right
abbrev pub taken : Card → List ℕ → Received
taken c frame = answered c.identity c.port.pending (length frame) (exchange_on c frame).served (frame_of c.identity (address_in frame) (exchange_on c frame).reply)

-- "Order: 10 first, in every reply call; .. Modbus 11, 1 by address, .."
unfoldable pub rtu_received : Card → List ℕ → ℕ → Received
rtu_received c frame room = pick (ltb room rtu_least) (too_short c) (pick (frame_holds frame) (taken c frame) (spoilt c (length frame)))
