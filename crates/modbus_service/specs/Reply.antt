-- What is replied to a data unit: the column "Modbus exception", a normal answer, or nothing. Assumes nothing.
use Rattle.std.specs.Prelude.{List, [], ℕ, ◌%◌, eqb, Option, Some, None}
use Rattle.base.specs.Choice.{pick}
use Rattle.table.specs.Table.{line_at}
use Rattle.table.specs.declared.labels.Row.{Row}
use Rattle.table.specs.declared.labels.Register.{Register}
use Rattle.identity.specs.Identity as Identities
use Rattle.port.specs.Port.{Numbers}
use Rattle.drive.specs.Plant.{Plant}
use Rattle.answers.specs.declared.Answer.{Answer}
use Rattle.answers.specs.declared.Answer.TheVariants.{Told, Written, Identified, NotOurs, Refused}
use Rattle.answers.specs.declared.Refusal.{Refusal}
use Rattle.answers.specs.declared.Refusal.TheVariants as Refusals
use Rattle.service.specs.Serving.{Served}
use Rattle.modbus.specs.Answer.{unit_of}
use Rattle.modbus.specs.Request.{label, request_of}
use Rattle.modbus.specs.declared.requests.Request.{Request}
use Rattle.modbus.specs.declared.requests.Request.TheVariants.{Read, One, Many, Identify, Serial, Malformed, Unknown}
use Rattle.modbus.specs.declared.replies.Answer as Units
use Rattle.modbus.specs.declared.replies.Answer.TheVariants.{Word, Long, Echo, Identity, Exception}
use Rattle.modbus_service.specs.Serve.{to_all, served}
use Rattle.modbus_service.specs.declared.Head.{Head}
use Rattle.modbus_service.specs.declared.Exchange.{Exchange}

-- the column "Modbus exception", 2 to 9
abbrev pub exception_of : Refusal → ℕ
exception_of Refusals.NoRow = 0x02
exception_of Refusals.ReadOnly = 0x02
exception_of Refusals.NotAllowed = 0x03
exception_of Refusals.FlagStands = 0x04
exception_of Refusals.Running = 0x04
exception_of Refusals.NotPermitted = 0x04
exception_of Refusals.Malformed = 0x03
exception_of Refusals.NoFunction = 0x01

-- "Rows 320, 321, 120 and 39 are 32 bits, two registers": the bits that a row's registers hold
unfoldable pub registers_told : ℕ → Row → ℕ → Units.Answer
registers_told function row word = pick (eqb (line_at row.0).registers 2) (Long function (word % 0x100000000)) (Word function (word % 0x10000))

-- what a reply repeats of its request; only what names registers is told or written
abbrev pub head : ℕ → Register → ℕ → Head
head function register number = record { function = function; register = register; number = number }

abbrev pub head_of : Request → Head
head_of (Read function first count) = head function first count
head_of (One register word) = head 6 register word
head_of (Many first count place) = head 16 first count
head_of (Identify code object) = head 43 (label 0) 0
head_of Serial = head 17 (label 0) 0
head_of (Malformed function) = head function (label 0) 0
head_of (Unknown function) = head function (label 0) 0

-- "0: done .. normal": 06 and 16 are answered by their register, and their word or count (MB), 43 and 17 by the part of the identity; "1: .. none"; 2 to 9 by an exception
abbrev pub answered : Head → Answer → Option Units.Answer
answered h (Told row word) = Some (registers_told h.function row word)
answered h (Written change) = Some (Echo h.function h.register h.number)
answered h (Identified part) = Some (Identity part)
answered h NotOurs = None
answered h (Refused refusal) = Some (Exception h.function (exception_of refusal))

-- "0 is broadcast: 06 and 16 act without reply"; "A refused broadcast gets no reply"
unfoldable pub replied_by : (address : ℕ) → Head → Answer → Option Units.Answer
replied_by address h answer = pick (to_all address) None (answered h answer)

unfoldable pub replied : (address : ℕ) → List ℕ → Answer → Option Units.Answer
replied address unit answer = replied_by address (head_of (request_of unit)) answer

-- what a unit comes to, and its reply
pub record Exchanged : Type 0 where
  pub served : Served
  pub reply : Option Units.Answer

-- what the code hands back, with the plant and the port that it was lent
abbrev pub exchanged_in : Plant → Numbers → Exchange → Exchanged
exchanged_in p q e = record { served = record { plant = p; port = q; answer = e.answer }; reply = e.reply }

unfoldable pub exchanged : Plant → Numbers → (address : ℕ) → List ℕ → Exchanged
exchanged p q address unit = record { served = served p q address unit; reply = replied address unit (served p q address unit).answer }

-- the reply's message, as its line makes messages of an address and a data unit, from the card whose identity this is; none where nothing is replied
abbrev pub sent_by : (ℕ → List ℕ → List ℕ) → Identities.Identity → ℕ → Option Units.Answer → List ℕ
sent_by made i address None = []
sent_by made i address (Some answer) = made address (unit_of i answer)
