-- Demand 1: "No bytes, lengths, numbers or lent buffers can break it or keep it from answering. Each refusal has document 01's number, is given exactly
-- then, and leaves settings, drive state and reply buffer as 01 says." No public routine asks anything of its arguments, so each answers whatever they are.
-- Assumes nothing.
use Rattle.std.specs.Prelude.{◌≡◌, ◌⊎◌, ◌↔◌, Bool, not, List, [], ◌∷◌, ◌++◌, ℕ, ◌≤◌, ◌+◌, ◌<◌, ltb, length, Option, Some, None}
use Rattle.base.specs.Choice.{either}
use Rattle.base.specs.Order.{when}
use Rattle.base.specs.Bytes.{Bytes}
use Rattle.stream.specs.Reading.{Taken, Yield, Reads}
use Rattle.drive.specs.declared.events.Measured.{Measured}
use Rattle.drive.specs.Events.{is_fault}
use Rattle.pending.specs.Held.{held}
use Rattle.hex_pairs.specs.Hex.{capitals}
use Rattle.nfo_parts.specs.Replies.{Spells, reply_with, ack_of, nak_of}
use Rattle.card.specs.State.{protocol_of, card_sum}
use Rattle.card.specs.Events.{fault_raised, cause_ended, din1_set, measured_set, parity_told, ticked}
use Rattle.card.specs.Outcome.{outcome_number}
use Rattle.card.specs.declared.state.Card.{Card}
use Rattle.card.specs.declared.events.After.{After}
use Rattle.card.specs.declared.outcome.Outcome.TheVariants.{Done, NoSuchEvent}
use Rattle.rtu.specs.Rtu.{rtu_of}
use Rattle.ascii.specs.Ascii.{ascii_of}
use Rattle.master.specs.Sent.{sent_number, refusals, sent_of, bytes_sent}
use Rattle.master_nfo.specs.Requests.{enquirable, selectable, enquiry_of, select_of}
use Rattle.master_request.specs.declared.Ask.{Ask}
use Rattle.master_request.specs.Ask.{sayable, request_unit}
use Rattle.master_request.specs.Said.{Unsayable}
use Rattle.master_reply.specs.Reply.{reply_number, registers_of, heard}
use Rattle.master_reply.specs.Told.{address_of, reply_unit, IsReply, InWidth, IsMessage}
use Rattle.master_reply.specs.declared.Reply.{Reply}
use Rattle.master_reply.specs.declared.Heard.{Heard}
use Rattle.master_rtu.specs.Heard.{rtu_heard}
use Rattle.master_ascii.specs.Heard.{ascii_heard}
use Rattle.master_nfo.specs.Replies.{read_of}
use Rattle.master_nfo.specs.Replies as SerialReplies
use Rattle.master_nfo.specs.declared.replies.Reply as Serial
use Rattle.master_nfo.specs.declared.replies.Reply.TheVariants as Serials
use Rattle.turn.specs.Turn.{Received}
use Rattle.receive.specs.Receive.{received}
use Rattle.demands.specs.Orders.{Gives, call_order}
use Rattle.demands.specs.Calls.{LongEnough, Wire, nfo_serial, modbus_ascii, Speaks, message, besides, TakesFirst}
use Rattle.demands.specs.Kept.{Sound}

-- ---- what each number leaves
abbrev pub number_in : Received → ℕ
number_in r = outcome_number r.outcome

-- "what is pending after a taken message is empty"
abbrev pub Cleared : Received → Type 0
Cleared r = held r.card.port.pending ≡ []

-- of a call of the card c on so many bytes. Where there is no reply, no byte of the buffer changes: after a call it is `front reply buffer`
pub record Leaves (c : Card) (count : ℕ) (r : Received) : Type 0 where
  -- "10: buffer too short", "with no byte used"; "1 and 10 to 14 [change] none"
  pub short : number_in r ≡ 10 → (r.card ≡ c) × (r.used ≡ 0) × (r.reply ≡ [])
  -- "An RTU call uses all, save at 10"
  pub spoilt : number_in r ≡ 11 → (r.card ≡ c) × (r.used ≡ count) × (r.reply ≡ [])
  -- "A stream call uses bytes up to the end of the first message taken, or all"; "15: nothing taken, bytes pending or dropped"
  pub waiting : number_in r ≡ 15 → (besides r.card ≡ besides c) × (r.used ≡ count) × (r.reply ≡ [])
  -- "1: other address, or broadcast read: none"
  pub other : number_in r ≡ 1 → (besides r.card ≡ besides c) × Cleared r × (r.reply ≡ [])
  -- "Refusals 2 to 9 change no state but the time sum"
  pub refused : 2 ≤ number_in r → number_in r ≤ 9 → (besides r.card ≡ besides (card_sum 0 c)) × Cleared r
  pub done : number_in r ≡ 0 → Cleared r
  -- 12 is the host's, 13 and 14 are the master's
  pub listed : (number_in r ≤ 11) ⊎ (number_in r ≡ 15)

-- "15: nothing taken", exactly where the left-to-right reading of what is pending and the bytes behind it takes none
abbrev pub Only15Then : Wire → Type 0
Only15Then W =
    (c : Card) → Sound c → Speaks W c → (bytes : List ℕ) (room : ℕ) → LongEnough c room → (y : Yield) → Reads W.format 0 (held c.port.pending ++ bytes) y
    → (number_in (received c bytes room) ≡ 15) ↔ (y.taken ≡ [])

-- a call that takes the message t: what it hands back is that message's, "what is pending after a taken message is empty", and "fixed by the place where the message
-- ends": up to its end, less what was pending, the bytes are used
pub record TakesIt (W : Wire) (c : Card) (t : Taken) (r : Received) : Type 0 where
  pub outcome : r.outcome ≡ (message W c t.bytes).outcome
  pub reply : r.reply ≡ (message W c t.bytes).reply
  pub state : besides r.card ≡ besides (message W c t.bytes).card
  pub cleared : Cleared r
  pub used : length (held c.port.pending) + r.used ≡ t.place + length t.bytes

abbrev pub TakesTheFirst : Wire → Type 0
TakesTheFirst W =
    (c : Card) → Sound c → Speaks W c → (bytes : List ℕ) (room : ℕ) → LongEnough c room → (t : Taken) → TakesFirst W c bytes t → TakesIt W c t (received c bytes room)

pub record Receiving : Type 0 where
  -- "No bytes, lengths, numbers or lent buffers can break it": the bytes used are there, and a reply fits
  pub within : (c : Card) (bytes : List ℕ) (room : ℕ) → ((received c bytes room).used ≤ length bytes) × (length (received c bytes room).reply ≤ room)
  -- "Each refusal has document 01's number, is given exactly then": the first line of the order that applies
  pub number : (c : Card) (bytes : List ℕ) (room n : ℕ) → (number_in (received c bytes room) ≡ n) ↔ Gives outcome_number (call_order c bytes room) n
  pub nfo_nothing : Only15Then nfo_serial
  pub ascii_nothing : Only15Then modbus_ascii
  -- "A stream call uses bytes up to the end of the first message taken"; "An RTU call uses all, save at 10"
  pub nfo_takes : TakesTheFirst nfo_serial
  pub ascii_takes : TakesTheFirst modbus_ascii
  pub rtu_used : (c : Card) → protocol_of c ≡ 1 → (frame : List ℕ) (room : ℕ) → LongEnough c room → (received c frame room).used ≡ length frame
  -- "and leaves settings, drive state and reply buffer as 01 says"
  pub leaves : (c : Card) (bytes : List ℕ) (room : ℕ) → Leaves c (length bytes) (received c bytes room)

-- ---- the host's events
-- "12: host event number not allowed", exactly where the test says so; and then nothing changes
abbrev pub Refuses : Bool → Card → After → Type 0
Refuses test c a = ((n : ℕ) → (outcome_number a.outcome ≡ n) ↔ Gives outcome_number (when test NoSuchEvent ∷ []) n) × (outcome_number a.outcome ≡ 12 → a.card ≡ c)

pub record Events : Type 0 where
  -- "Faults 1 to 13 and 16 to 23"
  pub raise : (n : ℕ) (c : Card) → Refuses (not (is_fault n)) c (fault_raised n c)
  pub end : (n : ℕ) (c : Card) → Refuses (not (is_fault n)) c (cause_ended n c)
  -- "The host ticks 1 to 250 tenths"
  pub tick : (n : ℕ) (c : Card) → Refuses (either (ltb n 1) (ltb 250 n)) c (ticked n c)
  -- "The host sets FrqAct, I-rms and OpTime freely in their widths", and the others name no number
  pub din1 : (active : Bool) (c : Card) → (din1_set active c).outcome ≡ Done
  pub measure : (measured : Measured) (c : Card) → (measured_set measured c).outcome ≡ Done
  pub parity : (c : Card) → (parity_told c).outcome ≡ Done

-- ---- the master's writers
-- "13 .., then 10 if the message doesn't fit"; "Bytes past .. a master's request, and all of them without one, stay"
pub record Writing : Type 0 where
  pub number : (sayable : Bool) (message : List ℕ) (room n : ℕ)
      → (sent_number (sent_of sayable message room) ≡ n) ↔ Gives sent_number (refusals sayable message room) n
  pub unsent : (sayable : Bool) (message : List ℕ) (room : ℕ) → (sent_number (sent_of sayable message room) ≡ 0 → ⊥) → bytes_sent sayable message room ≡ []

-- "13 (addresses above 95 or 247, a broadcast read, counts outside the limits)", exactly then
pub record Unsaid : Type 0 where
  -- "95 is broadcast"
  pub enquiry : (address e room : ℕ) → (sent_number (sent_of (enquirable address) (enquiry_of address e) room) ≡ 13) ↔ (95 ≤ address)
  pub select : (address e word room : ℕ) → (sent_number (sent_of (selectable address) (select_of address e word) room) ≡ 13) ↔ (95 < address)
  -- over Modbus, in the messages that its line makes of an address and a unit
  pub modbus : (made : ℕ → List ℕ → List ℕ) (address : ℕ) (ask : Ask) (registers : List ℕ) (room : ℕ)
      → (sent_number (sent_of (sayable address ask (length registers)) (made address (request_unit ask registers)) room) ≡ 13) ↔ Unsayable address ask (length registers)

-- ---- the master's readers
-- "Else 14, and only then": the number is 0 where the bytes are a reply's, and 14 where they are not
abbrev pub ZeroOr14 : ℕ → Type 0 → Type 0
ZeroOr14 n Is = ((n ≡ 0) ↔ Is) × ((n ≡ 14) ↔ (Is → ⊥))

-- of NFO serial: "a reply must fill its slice exactly, with the shape, check and hex above". "Take a-f as well .. in replies the master side reads": any characters
-- that spell the number and the value
abbrev pub IsSerial : Option Serial.Reply → List ℕ → Type 0
IsSerial (Some (Serials.Told address e word)) bytes =
    (address < 96) × (e.0 < 65536) × (word < 65536)
    × (number : List ℕ) × (value : List ℕ) × Spells number e.0 × Spells value word × (bytes ≡ reply_with (address + 32) number value)
IsSerial (Some (Serials.Acknowledged address)) bytes = (address < 96) × (bytes ≡ ack_of (address + 32))
IsSerial (Some (Serials.Refused address)) bytes = (address < 96) × (bytes ≡ nak_of (address + 32))
IsSerial None bytes = ⊥

-- of Modbus: "address 1 to 247 and a normal answer of the four functions .. or exception", in the messages that its line makes of an address and a unit. The bytes
-- are taken as the line would write them: a frame as it is, a text in capitals
pub record Hears (asWritten : List ℕ → List ℕ) (made : ℕ → List ℕ → List ℕ) (hear : List ℕ → Heard) : Type 0 where
  pub only : (bytes : List ℕ) → Bytes bytes → ZeroOr14 (reply_number (hear bytes).reply) (IsMessage made (asWritten bytes) (hear bytes))
  pub every : (r : Option Reply) (words : List ℕ) → IsReply r → length words ≡ registers_of r → InWidth r words
      → (bytes : List ℕ) → asWritten bytes ≡ made (address_of r) (reply_unit r words) → hear bytes ≡ heard r words

-- each tells of what it reads, and reads every reply there is
pub record Hearing : Type 0 where
  pub serial_only : (bytes : List ℕ) → ZeroOr14 (SerialReplies.reply_number (read_of bytes)) (IsSerial (read_of bytes) bytes)
  pub serial_every : (r : Option Serial.Reply) (bytes : List ℕ) → IsSerial r bytes → read_of bytes ≡ r
  pub rtu : Hears (λ frame. frame) rtu_of rtu_heard
  pub ascii : Hears capitals ascii_of ascii_heard

pub record Demand1 : Type 0 where
  pub receiving : Receiving
  pub events : Events
  pub writing : Writing
  pub unsaid : Unsaid
  pub hearing : Hearing
