-- Demand 2: "Each message has exactly the effect and reply of document 01. What the master side writes is read by the card as that same request, and each
-- reply is read back as what was answered." The effect is stated in Effects.antt, the rest here. A card is the whole card, with the status word that is kept in it.
-- Assumes nothing.
use Rattle.std.specs.Prelude.{◌≡◌, ◌⊎◌, ◌↔◌, Bool, true, List, [], ◌∷◌, ◌++◌, ℕ, ◌+◌, ◌-◌, ◌*◌, ◌/◌, ◌%◌, ◌<◌, eqb, length, take, drop, get_or, Option, Some, None}
use Rattle.std.specs.Int.Bits.{bit_or}
use Rattle.base.specs.Choice.{pick}
use Rattle.stream.specs.Format.{Format}
use Rattle.stream.specs.Reading.{Taken, Yield, Reads}
use Rattle.table.specs.Table.{line_at}
use Rattle.table.specs.declared.labels.Row.{Row}
use Rattle.answers.specs.declared.Answer.{Answer}
use Rattle.answers.specs.declared.Answer.TheVariants as Answers
use Rattle.answers.specs.Answer.{refusal_number}
use Rattle.nfo_parts.specs.Parts.{message_of}
use Rattle.nfo_parts.specs.declared.message.Message.TheVariants.{Enquiry, Select}
use Rattle.nfo_service.specs.Reply.{adr_in, parameter_in, e_number_in}
use Rattle.modbus_words.specs.Words.{word_at}
use Rattle.modbus.specs.Request.{request_of}
use Rattle.modbus.specs.declared.requests.Request.{Request}
use Rattle.modbus.specs.declared.requests.Request.TheVariants as Requested
use Rattle.rtu.specs.Rtu.{frame_holds, address_in, unit_in, rtu_of, register_data}
use Rattle.ascii.specs.Ascii.{bytes_in, address_among, unit_among, ascii_of}
use Rattle.card.specs.State.{protocol_of}
use Rattle.card.specs.declared.state.Card.{Card}
use Rattle.card.specs.declared.outcome.Outcome.TheVariants as Outcomes
use Rattle.rtu_port.specs.Receive as Rtu
use Rattle.receive.specs.Receive.{received}
use Rattle.master_nfo.specs.Requests.{enquirable, selectable, enquiry_of, select_of}
use Rattle.master_nfo.specs.Replies.{read_of}
use Rattle.master_nfo.specs.declared.replies.Reply as Serial
use Rattle.master_nfo.specs.declared.replies.Reply.TheVariants as Serials
use Rattle.master_request.specs.declared.Ask.{Ask}
use Rattle.master_request.specs.Ask.{sayable, request_unit}
use Rattle.master_request.specs.Said.{request_said, data_said, InWidth}
use Rattle.master_reply.specs.Reply.{heard}
use Rattle.master_reply.specs.Told.{Within}
use Rattle.master_reply.specs.declared.Heard.{Heard}
use Rattle.master_reply.specs.declared.Reply.TheVariants.{Data, One, Many, Exception}
use Rattle.master_rtu.specs.Heard.{rtu_heard}
use Rattle.master_ascii.specs.Heard.{ascii_heard}
use Rattle.demands.specs.Calls.{LongEnough, Wire, nfo_serial, modbus_ascii, Course, Calls, Speaks, NothingPending, besides, message, TakesFirst}
use Rattle.demands.specs.Kept.{Sound}

-- ---- "What the master side writes is read by the card"
-- wherever the message m stands after bytes u that leave nothing pending, it is taken as it is, and what comes behind it is read as if it began there
abbrev pub TakenAfter : Format → List ℕ → Type 0
TakenAfter F m =
    (u v : List ℕ) (y z : Yield) → Reads F 0 u y → y.pending ≡ [] → Reads F (length u + length m) v z
    → Reads F 0 (u ++ (m ++ v)) (record { taken = y.taken ++ record { place = length u; bytes = m } ∷ z.taken; place = z.place; pending = z.pending })

-- alone, on any card with nothing pending: whatever calls a caller makes of it, it is served once, and nothing else is; and the card is then what it leaves
abbrev pub ServedAlone : Wire → List ℕ → Type 0
ServedAlone W m =
    (c : Card) → Speaks W c → NothingPending c → (k : Course) → Calls c m k
    → (k.outcomes ≡ Outcomes.Served (W.served c m).answer ∷ []) × (k.replies ≡ W.reply c m) × (besides k.card ≡ besides (message W c m).card)

abbrev pub ReadAs : Wire → List ℕ → Type 0
ReadAs W m = TakenAfter W.format m × ServedAlone W m

-- a frame is served by the call that is given it
abbrev pub FrameRead : List ℕ → Type 0
FrameRead frame = (c : Card) → protocol_of c ≡ 1 → (room : ℕ) → LongEnough c room → received c frame room ≡ Rtu.taken c frame

-- the bytes that the master writes for what it asks
abbrev pub frame : ℕ → Ask → List ℕ → List ℕ
frame address ask registers = rtu_of address (request_unit ask registers)

abbrev pub text : ℕ → Ask → List ℕ → List ℕ
text address ask registers = ascii_of address (request_unit ask registers)

-- a data unit arrives whole, in every byte, and asks what was said
pub record Arrives (ask : Ask) (registers unit : List ℕ) : Type 0 where
  pub whole : unit ≡ request_unit ask registers
  pub request : request_of unit ≡ request_said ask registers

-- "as that same request": for all that can be said
pub record Requests : Type 0 where
  pub enquiry : (address e : ℕ) → enquirable address ≡ true → e < 65536
      → ReadAs nfo_serial (enquiry_of address e) × (message_of (enquiry_of address e) ≡ Enquiry (address + 32) (Some (record { 0 = e })))
  pub select : (address e word : ℕ) → selectable address ≡ true → e < 65536 → word < 65536
      → ReadAs nfo_serial (select_of address e word) × (message_of (select_of address e word) ≡ Select (address + 32) (Some (record { 0 = e })) (Some word))
  pub rtu : (address : ℕ) (ask : Ask) (registers : List ℕ) → sayable address ask (length registers) ≡ true
      → FrameRead (frame address ask registers)
      × (address_in (frame address ask registers) ≡ address)
      × Arrives ask registers (unit_in (frame address ask registers))
      × (register_data (frame address ask registers) ≡ data_said ask registers)
  pub ascii : (address : ℕ) (ask : Ask) (registers : List ℕ) → sayable address ask (length registers) ≡ true → InWidth ask registers
      → ReadAs modbus_ascii (text address ask registers)
      × (address_among (bytes_in (text address ask registers)) ≡ address)
      × Arrives ask registers (unit_among (bytes_in (text address ask registers)))

-- ---- "The register data of a well-made 06 or 16 (CRC, length and count right, any address) is handed back as a part of the caller's frame"
-- 06, 8 bytes:  address, 06, register, word, CRC
abbrev pub WellMade06 : List ℕ → Type 0
WellMade06 f = (frame_holds f ≡ true) × (get_or f 1 0 ≡ 6) × (length f ≡ 8)

-- 16 of n registers:  address, 16, register, count, byte count, register bytes, CRC
abbrev pub WellMade16 : List ℕ → ℕ → Type 0
WellMade16 f n = (frame_holds f ≡ true) × (get_or f 1 0 ≡ 16) × (word_at f 4 ≡ n) × Within 1 123 n × (get_or f 6 0 ≡ 2 * n) × (length f ≡ 9 + 2 * n)

pub record RegisterData : Type 0 where
  pub of_06 : (f : List ℕ) → WellMade06 f → register_data f ≡ take 2 (drop 4 f)
  pub of_16 : (f : List ℕ) (n : ℕ) → WellMade16 f n → register_data f ≡ take (2 * n) (drop 7 f)
  -- "for other bytes, an empty part"
  pub of_others : (f : List ℕ) → (WellMade06 f → ⊥) → ((n : ℕ) → WellMade16 f n → ⊥) → register_data f ≡ []

-- ---- "each reply is read back as what was answered"
-- the column "Modbus exception", from outcome 0 to 9: 0 stands for none
abbrev pub exception_at : ℕ → ℕ
exception_at number = get_or (0 ∷ 0 ∷ 0x02 ∷ 0x02 ∷ 0x03 ∷ 0x04 ∷ 0x04 ∷ 0x04 ∷ 0x03 ∷ 0x01 ∷ []) number 0

-- the words of a row, "32-bit values low word first"
abbrev pub row_words : Row → ℕ → List ℕ
row_words row word =
    pick (eqb (line_at row.0).registers 2) (word % 0x100000000 % 0x10000 ∷ word % 0x100000000 / 0x10000 ∷ []) (word % 0x10000 ∷ [])

abbrev pub function_in : Request → ℕ
function_in (Requested.Read function first count) = function
function_in (Requested.One register word) = 6
function_in (Requested.Many first count place) = 16
function_in (Requested.Identify code object) = 43
function_in Requested.Serial = 17
function_in (Requested.Malformed function) = function
function_in (Requested.Unknown function) = function

-- how a protocol's messages are answered: which are to all, how a master hears, and what it is to hear of the answer to a message
pub record Ears (H : Type 0) : Type 0 where
  pub to_all : List ℕ → Bool
  pub hear : List ℕ → H
  pub back : List ℕ → Answer → H

-- NFO serial: the row's E number and word by REPLY, a write by ACK, a refusal by NAK, each from the address that was asked. "95 is broadcast"
abbrev pub serial_back : List ℕ → Answer → Option Serial.Reply
serial_back m (Answers.Told row word) = Some (Serials.Told (adr_in (message_of m) - 32) (record { 0 = e_number_in (parameter_in (message_of m)) }) (word % 0x10000))
serial_back m (Answers.Written change) = Some (Serials.Acknowledged (adr_in (message_of m) - 32))
serial_back m (Answers.Identified part) = None
serial_back m Answers.NotOurs = None
serial_back m (Answers.Refused refusal) = Some (Serials.Refused (adr_in (message_of m) - 32))

abbrev pub serial : Ears (Option Serial.Reply)
serial = record { to_all = λ m. eqb (adr_in (message_of m)) (95 + 32); hear = read_of; back = serial_back }

-- Modbus: a row told by its words, a write by its register, and its word or count, a refusal by its exception, each from the address that was asked. "The master side
-- doesn't speak these two, and their normal replies are left out of demand 2's reading back": to those of 43 and 17 its reader says 14, and what they hold is in
-- Identity.antt. Their exceptions are heard as any other
abbrev pub wrote_back : ℕ → Request → Heard
wrote_back address (Requested.Read function first count) = heard None []
wrote_back address (Requested.One register word) = heard (Some (One address register word)) []
wrote_back address (Requested.Many first count place) = heard (Some (Many address first count)) []
wrote_back address (Requested.Identify code object) = heard None []
wrote_back address Requested.Serial = heard None []
wrote_back address (Requested.Malformed function) = heard None []
wrote_back address (Requested.Unknown function) = heard None []

abbrev pub modbus_back : ℕ → Request → Answer → Heard
modbus_back address request (Answers.Told row word) = heard (Some (Data address (function_in request) (length (row_words row word)))) (row_words row word)
modbus_back address request (Answers.Written change) = wrote_back address request
modbus_back address request (Answers.Identified part) = heard None []
modbus_back address request Answers.NotOurs = heard None []
modbus_back address request (Answers.Refused refusal) = heard (Some (Exception address (bit_or (function_in request) 0x80) (exception_at (refusal_number refusal)))) []

-- "0 is broadcast"
abbrev pub rtu : Ears Heard
rtu = record { to_all = λ f. eqb (address_in f) 0; hear = rtu_heard; back = λ f a. modbus_back (address_in f) (request_of (unit_in f)) a }

abbrev pub ascii : Ears Heard
ascii =
    record {
      to_all = λ m. eqb (address_among (bytes_in m)) 0;
      hear = ascii_heard;
      back = λ m a. modbus_back (address_among (bytes_in m)) (request_of (unit_among (bytes_in m))) a;
    }

-- no reply if and only if the message was a broadcast or outcome 1; otherwise the master's reader hears exactly what was answered
abbrev pub Unanswered : {H : Type 0} → Ears H → List ℕ → Answer → Type 0
Unanswered E m a = (E.to_all m ≡ true) ⊎ (a ≡ Answers.NotOurs)

pub record AnswerHeard {H : Type 0} (E : Ears H) (m : List ℕ) (a : Answer) (reply : List ℕ) : Type 0 where
  pub none : (reply ≡ []) ↔ Unanswered E m a
  pub heard : (Unanswered E m a → ⊥) → E.hear reply ≡ E.back m a

-- a call that takes the message t answers it
abbrev pub AnswersFirst : {H : Type 0} → Wire → Ears H → Type 0
AnswersFirst W E =
    (c : Card) → Sound c → Speaks W c → (bytes : List ℕ) (room : ℕ) → LongEnough c room → (t : Taken) → TakesFirst W c bytes t → (a : Answer)
    → (received c bytes room).outcome ≡ Outcomes.Served a → AnswerHeard E t.bytes a (received c bytes room).reply

pub record Replies : Type 0 where
  pub nfo : AnswersFirst nfo_serial serial
  pub rtu : (c : Card) → Sound c → protocol_of c ≡ 1 → (frame : List ℕ) (room : ℕ) → LongEnough c room → (a : Answer)
      → (received c frame room).outcome ≡ Outcomes.Served a → AnswerHeard rtu frame a (received c frame room).reply
  pub ascii : AnswersFirst modbus_ascii ascii
  -- nothing was taken: 10, 11, 15
  pub nothing : (c : Card) (bytes : List ℕ) (room : ℕ) → ((a : Answer) → (received c bytes room).outcome ≡ Outcomes.Served a → ⊥) → (received c bytes room).reply ≡ []

pub record Demand2 : Type 0 where
  pub requests : Requests
  pub register_data_lem : RegisterData
  pub replies : Replies
