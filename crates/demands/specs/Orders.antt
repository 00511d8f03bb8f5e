-- Document 01's orders, of a message and of a call, each one list: "Order: 10 first, in every reply call; NFO 1, 2, 3, 8, 4, 5, 6, 7; Modbus 11, 1 by
-- address, 9, 1 for a broadcast read, 8, 2, 3, 4, 5, 6, 7". Assumes nothing.
use Rattle.std.specs.Prelude.{◌≡◌, refl, ◌⊎◌, true, false, not, List, [], ◌∷◌, ◌++◌, ℕ, eqb, ltb, Option}
use Rattle.base.specs.Choice.{pick}
use Rattle.base.specs.Buffers.{reply_least}
use Rattle.base.specs.Order.{Line, when, saying, numbers}
use Rattle.table.specs.declared.labels.Row.{Row}
use Rattle.table.specs.declared.labels.Register.{Register}
use Rattle.drive.specs.Plant.{Plant, station}
use Rattle.answers.specs.declared.Answer.{Answer}
use Rattle.answers.specs.declared.Answer.TheVariants.{Refused}
use Rattle.answers.specs.Answer.{answer_number}
use Rattle.permit.specs.Refusals.{read_line, write_lines}
use Rattle.service.specs.Serving.{the_row}
use Rattle.pending.specs.Held.{held}
use Rattle.pending.specs.Scanning.{Scan, Feeding, scan_from}
use Rattle.nfo_parts.specs.Parts.{message_of}
use Rattle.nfo_parts.specs.declared.message.Message.{Message}
use Rattle.nfo_parts.specs.declared.message.Message.TheVariants.{Enquiry, Select}
use Rattle.nfo_service.specs.Serve as Nfo
use Rattle.card.specs.State.{protocol_of}
use Rattle.card.specs.declared.state.Card.{Card}
use Rattle.card.specs.declared.outcome.Outcome.{Outcome}
use Rattle.card.specs.declared.outcome.Outcome.TheVariants.{Served, ShortBuffer, BadFrame, NothingTaken}
use Rattle.modbus_words.specs.Words.{long_at}
use Rattle.modbus.specs.Request.{request_of}
use Rattle.modbus.specs.declared.requests.Request.{Request}
use Rattle.modbus.specs.declared.requests.Request.TheVariants.{Read, One, Many, Identify, Serial, Malformed, Unknown}
use Rattle.rtu.specs.Rtu.{frame_holds, address_in, unit_in}
use Rattle.ascii.specs.Ascii.{bytes_in, unit_among, address_among}
use Rattle.modbus_service.specs.Serve as Modbus
use Rattle.nfo_port.specs.Receive.{nfo_stream}
use Rattle.ascii_port.specs.Receive.{ascii_stream}

-- ---- "given exactly then"
-- an order gives a number: that of the first line that applies; and 0, "done", where none does
abbrev pub Gives : {A : Type 0} → (A → ℕ) → List (Line A) → ℕ → Type 0
Gives number [] n = n ≡ 0
Gives number (l ∷ ls) n = ((l.test ≡ true) × (number l.answer ≡ n)) ⊎ ((l.test ≡ false) × Gives number ls n)

-- ---- the orders of a message, each line with its "When"
-- "Order: .. NFO 1, 2, 3, 8, 4, 5, 6, 7"; the broadcast that clears 14 has "outcome 0, at any MODE", so it passes by 4 to 7
abbrev pub select_order : Plant → ℕ → Option Row → Option ℕ → List (Line Answer)
select_order p adr found value =
    Nfo.name_lines p adr found
    ++ (Nfo.row_lines (the_row found) value
    ++ pick (Nfo.stops p adr (the_row found).0 (Nfo.the_word value)) [] (saying Refused (write_lines p (the_row found).0 (Nfo.the_word value))))

pub select_order_lem : (p : Plant) (adr : ℕ) (found : Option Row) (value : Option ℕ) → Nfo.stops p adr (the_row found).0 (Nfo.the_word value) ≡ false
    → numbers answer_number (select_order p adr found value) ≡ 1 ∷ 2 ∷ 3 ∷ 8 ∷ 4 ∷ 5 ∷ 6 ∷ 7 ∷ []
select_order_lem p adr found value other = rw other

abbrev pub nfo_order : Plant → Message → List (Line Answer)
nfo_order p (Enquiry adr parameter) = Nfo.enquiry_lines p adr (Nfo.row_named parameter)
nfo_order p (Select adr parameter value) = select_order p adr (Nfo.row_named parameter) value

-- "Modbus .. 1 by address, 9, 1 for a broadcast read, 8, 2, 3, 4, 5, 6, 7": 3 to 7 are of a write, by 06 or 16
abbrev pub change_lines : Plant → Row → Request → List ℕ → List (Line Answer)
change_lines p row (Read function first count) unit = []
change_lines p row (One register word) unit = saying Refused (read_line row.0 ∷ write_lines p row.0 word)
change_lines p row (Many first count place) unit = saying Refused (read_line row.0 ∷ write_lines p row.0 (long_at unit place.from))
change_lines p row (Identify code object) unit = []
change_lines p row Serial unit = []
change_lines p row (Malformed function) unit = []
change_lines p row (Unknown function) unit = []

abbrev pub request_order : Plant → (station address : ℕ) → Request → List ℕ → List (Line Answer)
request_order p station address request unit = Modbus.unit_lines station address request ++ change_lines p (the_row (Modbus.row_asked request)) request unit

pub one_order : (p : Plant) (station address : ℕ) (register : Register) (word : ℕ) (unit : List ℕ)
    → numbers answer_number (request_order p station address (One register word) unit) ≡ 1 ∷ 9 ∷ 1 ∷ 8 ∷ 2 ∷ 3 ∷ 4 ∷ 5 ∷ 6 ∷ 7 ∷ []
one_order p station address register word unit = refl

-- of 43 and 17 there are no others: "8 (43: wrong length or no type byte, code ..; 17: wrong length); 2 (code 04 and an object above 06h)"
pub identify_order : (p : Plant) (station address code object : ℕ) (unit : List ℕ)
    → numbers answer_number (request_order p station address (Identify code object) unit) ≡ 1 ∷ 9 ∷ 1 ∷ 8 ∷ 2 ∷ []
identify_order p station address code object unit = refl

abbrev pub modbus_order : Plant → (station address : ℕ) → List ℕ → List (Line Answer)
modbus_order p station address unit = request_order p station address (request_of unit) unit

-- ---- the order of a call
-- the bytes of a stream, up to the end of the first message: whether one was taken, and the bytes held then
abbrev pub scan_of : Feeding → Card → List ℕ → Scan
scan_of feeding c bytes = scan_from feeding c.port.pending 0 bytes

-- "15: nothing taken", and then the message's own
abbrev pub stream_order : Scan → List (Line Answer) → List (Line Outcome)
stream_order scan lines = when (not scan.taken) NothingTaken ∷ saying Served lines

abbrev pub serial_order : Card → Scan → List (Line Outcome)
serial_order c scan = stream_order scan (nfo_order c.plant (message_of scan.pending.bytes))

abbrev pub ascii_order : Card → Scan → List (Line Outcome)
ascii_order c scan =
    let message : List ℕ = bytes_in (held scan.pending) in
    stream_order scan (modbus_order c.plant (station c.plant) (address_among message) (unit_among message))

-- "Modbus 11": "RTU length or CRC wrong"
abbrev pub rtu_order : Card → List ℕ → List (Line Outcome)
rtu_order c frame = when (not (frame_holds frame)) BadFrame ∷ saying Served (modbus_order c.plant (station c.plant) (address_in frame) (unit_in frame))

-- "Order: 10 first, in every reply call"; "Reply buffers now need 256 bytes for RTU and 513 for ASCII; NFO stays at 19"
abbrev pub call_order : Card → List ℕ → ℕ → List (Line Outcome)
call_order c bytes room =
    when (ltb room (reply_least (protocol_of c))) ShortBuffer
    ∷ pick (eqb (protocol_of c) 1) (rtu_order c bytes)
    (pick (eqb (protocol_of c) 2) (ascii_order c (scan_of ascii_stream.feeding c bytes)) (serial_order c (scan_of nfo_stream.feeding c bytes)))
