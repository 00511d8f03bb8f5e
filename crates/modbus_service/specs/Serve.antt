-- A data unit of Modbus, served: "Order: .. Modbus 11, 1 by address, 9, 1 for a broadcast read, 8, 2, 3, 4, 5, 6, 7". 11 is the RTU frame's. Assumes nothing.
use Rattle.std.specs.Prelude.{◌≡◌, refl, Bool, true, false, not, List, [], ◌∷◌, ◌++◌, ℕ, eqb, Option, Some, None}
use Rattle.base.specs.Choice.{pick, both, either}
use Rattle.base.specs.Order.{Line, when, first_of, saying, numbers}
use Rattle.table.specs.Find.{row_of_span}
use Rattle.table.specs.declared.labels.Row.{Row}
use Rattle.identity.specs.Identity.{objects_asked}
use Rattle.identity.specs.declared.Part.{Part}
use Rattle.identity.specs.declared.Part.TheVariants as Parts
use Rattle.port.specs.Port.{Numbers}
use Rattle.drive.specs.Plant.{Plant, station}
use Rattle.answers.specs.declared.Answer.{Answer}
use Rattle.answers.specs.declared.Answer.TheVariants as Answers
use Rattle.answers.specs.declared.Refusal.TheVariants as Refusals
use Rattle.answers.specs.Answer.{answer_number}
use Rattle.permit.specs.Refusals.{read_line, write_lines}
use Rattle.service.specs.Serving.{Served, is_none, the_row, keeping, told_served, wrote_served}
use Rattle.modbus_words.specs.Words.{long_at}
use Rattle.modbus.specs.Request.{request_of}
use Rattle.modbus.specs.declared.requests.Request.{Request}
use Rattle.modbus.specs.declared.requests.Request.TheVariants.{Read, One, Many, Identify, Serial, Malformed, Unknown}
use Rattle.modbus_service.specs.declared.Task.{Task}
use Rattle.modbus_service.specs.declared.Task.TheVariants.{Tell, Write, Say}

-- ---- to whom a unit speaks
-- "0 is broadcast"
abbrev pub to_all : ℕ → Bool
to_all address = eqb address 0

-- "ours is what MbAdr held at the last start or restart": the station
unfoldable pub reaches_us : (station address : ℕ) → Bool
reaches_us station address = either (to_all address) (eqb address station)

-- ---- what it asks
-- "Functions 03, 04 (same as 03; ours)", and 43 and 17: "Both functions are reads"
abbrev pub reading : ℕ → Bool
reading function = either (eqb function 3) (either (eqb function 4) (either (eqb function 17) (eqb function 43)))

-- these, also where their length, count or identification code is bad
abbrev pub asks_read : Request → Bool
asks_read (Read function first count) = true
asks_read (One register word) = false
asks_read (Many first count place) = false
asks_read (Identify code object) = true
asks_read Serial = true
asks_read (Malformed function) = reading function
asks_read (Unknown function) = false

abbrev pub is_unknown : Request → Bool
is_unknown (Read function first count) = false
is_unknown (One register word) = false
is_unknown (Many first count place) = false
is_unknown (Identify code object) = false
is_unknown Serial = false
is_unknown (Malformed function) = false
is_unknown (Unknown function) = true

abbrev pub is_malformed : Request → Bool
is_malformed (Read function first count) = false
is_malformed (One register word) = false
is_malformed (Many first count place) = false
is_malformed (Identify code object) = false
is_malformed Serial = false
is_malformed (Malformed function) = true
is_malformed (Unknown function) = false

-- "A row's registers are read or written all in one message and only its own: start at its first, count its width"; a 06 writes one register
abbrev pub row_asked : Request → Option Row
row_asked (Read function first count) = row_of_span first.0 count
row_asked (One register word) = row_of_span register.0 1
row_asked (Many first count place) = row_of_span first.0 count
row_asked (Identify code object) = None
row_asked Serial = None
row_asked (Malformed function) = None
row_asked (Unknown function) = None

-- 43 asks for objects, 17 for the serial number, and no other for a part of the identity
abbrev pub part_asked : Request → Option Part
part_asked (Read function first count) = None
part_asked (One register word) = None
part_asked (Many first count place) = None
part_asked (Identify code object) = objects_asked code object
part_asked Serial = Some Parts.Serial
part_asked (Malformed function) = None
part_asked (Unknown function) = None

abbrev pub no_object : Option Part → Bool
no_object (Some part) = false
no_object None = true

-- where there is none, a message is refused; this only fills the place
abbrev pub the_part : Option Part → Part
the_part (Some part) = part
the_part None = Parts.Serial

-- it asks for a row or for a part of the identity, and there is none
abbrev pub asks_nothing : Request → Bool
asks_nothing request = both (no_object (part_asked request)) (is_none (row_asked request))

-- ---- the refusals, each with its "When", in the paper's order
-- "1: other address"; "9: unknown function"; "0 is broadcast: .. 03 and 04 are outcome 1", and 43 and 17 too; "8: .. bad length or count", "or identification code"; "2: no
-- such row or register span", "unknown object with code 04"
abbrev pub unit_lines : (station address : ℕ) → Request → List (Line Answer)
unit_lines station address request =
    when (not (reaches_us station address)) Answers.NotOurs
    ∷ when (is_unknown request) (Answers.Refused Refusals.NoFunction)
    ∷ when (both (to_all address) (asks_read request)) Answers.NotOurs
    ∷ when (is_malformed request) (Answers.Refused Refusals.Malformed)
    ∷ when (asks_nothing request) (Answers.Refused Refusals.NoRow)
    ∷ []

-- "Order: .. Modbus 11, 1 by address, 9, 1 for a broadcast read, 8, 2, 3, 4, 5, 6, 7"
pub modbus_order : (p : Plant) (station address : ℕ) (request : Request) (row w : ℕ)
    → numbers answer_number (unit_lines station address request ++ saying Answers.Refused (read_line row ∷ write_lines p row w))
    ≡ 1 ∷ 9 ∷ 1 ∷ 8 ∷ 2 ∷ 3 ∷ 4 ∷ 5 ∷ 6 ∷ 7 ∷ []
modbus_order p station address request row w = refl

-- ---- what it asks of a row
-- 06 writes its word, 16 the value of its register bytes: "32-bit values low word first". A unit ends behind its registers, so that of one register this
-- is its word (`many_one` in proofs/Replies). 43 and 17 ask nothing of a row: a part of the identity is told, and nothing changes. What is malformed or unknown was
-- refused; there this only fills the place
abbrev pub task_at : Row → Request → List ℕ → Task
task_at row (Read function first count) unit = Tell row
task_at row (One register word) unit = Write row word
task_at row (Many first count place) unit = Write row (long_at unit place.from)
task_at row (Identify code object) unit = Say (Answers.Identified (the_part (objects_asked code object)))
task_at row Serial unit = Say (Answers.Identified Parts.Serial)
task_at row (Malformed function) unit = Tell row
task_at row (Unknown function) unit = Tell row

-- what is said of a part of the identity, to one master and not to all
abbrev pub part_said : Option Part → Task
part_said (Some part) = Say (Answers.Identified part)
part_said None = Say (Answers.Refused Refusals.NoRow)

unfoldable pub part_task : (address : ℕ) → Option Part → Task
part_task address named = pick (to_all address) (Say Answers.NotOurs) (part_said named)

-- the first of the lines that applies; where none does, this
unfoldable pub task_of : (station address : ℕ) → Request → List ℕ → Task
task_of station address request unit = first_of (saying Say (unit_lines station address request)) (task_at (the_row (row_asked request)) request unit)

-- ---- what is done: a row is read, or written with refusals 3 to 7; or nothing, and this is said
unfoldable pub done : Plant → Numbers → Task → Served
done p q (Tell row) = told_served p q row
done p q (Write row value) = wrote_served p q row.0 value
done p q (Say answer) = keeping p q answer

-- on a plant, whose own address is its station
unfoldable pub served : Plant → Numbers → (address : ℕ) → List ℕ → Served
served p q address unit = done p q (task_of (station p) address (request_of unit) unit)
