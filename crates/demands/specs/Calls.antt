-- What the statements speak of: the routines one after another, the calls that a caller makes of a stream, the two protocols that come as one, and the messages of a
-- stream served one after another. Assumes nothing.
use Rattle.std.specs.Prelude.{◌≡◌, Bool, List, [], ◌∷◌, ◌++◌, ℕ, ◌+◌}
use Rattle.stream.specs.Format.{Format}
use Rattle.stream.specs.Reading.{Taken, Yield, Reads}
use Rattle.pending.specs.Held.{empty, held, Sized}
use Rattle.nfo.specs.Message.{nfo}
use Rattle.nfo_parts.specs.Parts.{message_of}
use Rattle.nfo_service.specs.Reply.{replied}
use Rattle.ascii.specs.Ascii.{bytes_in, ascii}
use Rattle.service.specs.Serving.{Served}
use Rattle.drive.specs.declared.events.Measured.{Measured}
use Rattle.card.specs.State.{protocol_of, with_pending, restarted}
use Rattle.card.specs.Events.{fault_raised, cause_ended, din1_set, measured_set, parity_told, ticked}
use Rattle.card.specs.declared.state.Card.{Card}
use Rattle.turn.specs.Turn.{Received, answered}
use Rattle.nfo_port.specs.Receive.{served_by}
use Rattle.ascii_port.specs.Receive.{exchange_on, reply_on}
use Rattle.receive.specs.Receive.{received}
pub use Rattle.receive.specs.Calls.{LongEnough, Course, Calls, over, call, adding, ended}

-- ---- the routines
-- `Step c d`: one routine leads from the card c to the card d: a call on bytes, a restart, or an event of the host, whatever comes of it
pub data Step : Card → Card → Type 0 where
  receive : {c : Card} (bytes : List ℕ) (room : ℕ) → Step c (received c bytes room).card
  restart : {c : Card} → Step c (restarted c)
  raise : {c : Card} (n : ℕ) → Step c (fault_raised n c).card
  end : {c : Card} (n : ℕ) → Step c (cause_ended n c).card
  din1 : {c : Card} (active : Bool) → Step c (din1_set active c).card
  measure : {c : Card} (measured : Measured) → Step c (measured_set measured c).card
  parity : {c : Card} → Step c (parity_told c).card
  tick : {c : Card} (n : ℕ) → Step c (ticked n c).card

-- `Run c d`: any number of them, in any order
pub data Run : Card → Card → Type 0 where
  done : {c : Card} → Run c c
  then : {c d e : Card} → Step c d → Run d e → Run c e

-- ---- the two protocols that come as streams
-- a protocol that comes as a stream: its number in the port, its format, and what a message comes to: what is served, and the reply
pub record Wire : Type 0 where
  pub number : ℕ
  pub format : Format
  pub served : Card → List ℕ → Served
  pub reply : Card → List ℕ → List ℕ

abbrev pub nfo_serial : Wire
nfo_serial =
    record { number = 0; format = nfo; served = λ c m. served_by c (message_of m); reply = λ c m. replied (message_of m) (served_by c (message_of m)).answer }

abbrev pub modbus_ascii : Wire
modbus_ascii = record { number = 2; format = ascii; served = λ c m. (exchange_on c (bytes_in m)).served; reply = λ c m. reply_on c (bytes_in m) }

-- the port is of this protocol
abbrev pub Speaks : Wire → Card → Type 0
Speaks W c = protocol_of c ≡ W.number

-- ---- the bytes pending
-- "with nothing pending before". (Each array of bytes pending has 512 bytes: its type in the code.)
abbrev pub NothingPending : Card → Type 0
NothingPending c = (held c.port.pending ≡ []) × Sized c.port.pending

-- the card but for the bytes pending
abbrev pub besides : Card → Card
besides c = with_pending empty c

-- ---- messages
-- "ENQUIRY, 8 bytes: 04 ADR p×5 05", "ADR is address + 32": of Inv St, `E00E9`
abbrev pub asks_status : ℕ → List ℕ
asks_status address = 0x04 ∷ (address + 32) ∷ 0x45 ∷ 0x30 ∷ 0x30 ∷ 0x45 ∷ 0x39 ∷ 0x05 ∷ []

-- one message of a protocol on a card
abbrev pub message : Wire → Card → List ℕ → Received
message W c m = answered c.identity c.port.pending 0 (W.served c m) (W.reply c m)

-- the messages served one after another
unfoldable pub served_all : Wire → Card → List (List ℕ) → Course
served_all W c [] = ended c
served_all W c (m ∷ ms) = adding (message W c m) (served_all W (message W c m).card ms)

-- the call on these bytes takes the message t first, and the messages ts come after it: so has it the left-to-right reading of what is pending and the bytes
-- behind it
abbrev pub TakesFirst : Wire → Card → List ℕ → Taken → Type 0
TakesFirst W c bytes t = (y : Yield) × (ts : List Taken) × Reads W.format 0 (held c.port.pending ++ bytes) y × (y.taken ≡ t ∷ ts)
