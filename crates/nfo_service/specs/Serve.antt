-- A message of NFO serial, served: "Order: .. NFO 1, 2, 3, 8, 4, 5, 6, 7". Assumes nothing.
use Rattle.std.specs.Prelude.{◌≡◌, refl, Bool, true, false, not, List, [], ◌∷◌, ◌++◌, ℕ, ◌+◌, eqb, Option, Some, None}
use Rattle.base.specs.Choice.{pick, both, either}
use Rattle.base.specs.Order.{Line, when, first_of, saying, numbers}
use Rattle.table.specs.Names.{SCMD}
use Rattle.table.specs.Find.{row_of_e}
use Rattle.table.specs.declared.labels.Row.{Row}
use Rattle.nfo_parts.specs.declared.message.Message.{Message}
use Rattle.nfo_parts.specs.declared.message.Message.TheVariants.{Enquiry, Select}
use Rattle.port.specs.Port.{Numbers, with_sioerr}
use Rattle.drive.specs.Plant.{Plant, si_adr}
use Rattle.answers.specs.declared.Answer.{Answer}
use Rattle.answers.specs.declared.Answer.TheVariants as Answers
use Rattle.answers.specs.declared.Refusal.TheVariants as Refusals
use Rattle.answers.specs.Answer.{answer_number}
use Rattle.drive.specs.Faults.{only14, stopped}
use Rattle.permit.specs.Refusals.{read_only, write_lines}
use Rattle.service.specs.Serving.{Served, is_none, the_row, keeping, told_served, wrote_served}
use Rattle.table.specs.declared.labels.ENumber.{ENumber}

-- ---- to whom a message speaks
-- "ADR is address + 32"
abbrev pub adr_of : ℕ → ℕ
adr_of address = address + 32

-- "95 is broadcast"
abbrev pub to_all : ℕ → Bool
to_all adr = eqb adr (adr_of 95)

-- "We answer to SiAdr and to 0"
unfoldable pub to_us : Plant → ℕ → Bool
to_us p adr = both (not (to_all adr)) (either (eqb adr (adr_of 0)) (eqb adr (adr_of (si_adr p))))

unfoldable pub reaches_us : Plant → ℕ → Bool
reaches_us p adr = either (to_all adr) (to_us p adr)

-- ---- what it names
unfoldable pub row_named : Option ENumber → Option Row
row_named (Some e) = row_of_e e.0
row_named None = None

abbrev pub not_hex : Option ℕ → Bool
not_hex (Some w) = false
not_hex None = true

-- where there is none, the lines below have refused it; this only fills the place
abbrev pub the_word : Option ℕ → ℕ
the_word (Some w) = w
the_word None = 0

-- ---- the refusals, each with its "When", in the paper's order
-- "1: other address", for an ENQUIRY also "broadcast read"; "2: no such row"
abbrev pub enquiry_lines : Plant → ℕ → Option Row → List (Line Answer)
enquiry_lines p adr found = when (not (to_us p adr)) Answers.NotOurs ∷ when (is_none found) (Answers.Refused Refusals.NoRow) ∷ []

abbrev pub name_lines : Plant → ℕ → Option Row → List (Line Answer)
name_lines p adr found = when (not (reaches_us p adr)) Answers.NotOurs ∷ when (is_none found) (Answers.Refused Refusals.NoRow) ∷ []

-- "3: row is read-only"; "8: value not hex"
abbrev pub row_lines : Row → Option ℕ → List (Line Answer)
row_lines row value = when (read_only row.0) (Answers.Refused Refusals.ReadOnly) ∷ when (not_hex value) (Answers.Refused Refusals.Malformed) ∷ []

-- "Order: .. NFO 1, 2, 3, 8, 4, 5, 6, 7"
pub nfo_order : (p : Plant) (adr : ℕ) (found : Option Row) (row : Row) (value : Option ℕ)
    → numbers answer_number (name_lines p adr found ++ (row_lines row value ++ saying Answers.Refused (write_lines p row.0 (the_word value))))
    ≡ 1 ∷ 2 ∷ 3 ∷ 8 ∷ 4 ∷ 5 ∷ 6 ∷ 7 ∷ []
nfo_order p adr found row value = refl

-- ---- what is done
unfoldable pub enquiry_served : Plant → Numbers → ℕ → Option ENumber → Served
enquiry_served p q adr parameter =
    first_of (saying (keeping p q) (enquiry_lines p adr (row_named parameter)))
    (told_served p q (the_row (row_named parameter)))

-- "A broadcast SELECT of SCMD 0 while 14 is the only flag zeroes SioErr and clears 14 with outcome 0, at any MODE"
unfoldable pub stops : Plant → ℕ → ℕ → ℕ → Bool
stops p adr row w = both (to_all adr) (both (eqb row SCMD) (both (eqb w 0) (only14 p)))

abbrev pub stop_served : Plant → Numbers → Row → ℕ → Served
stop_served p q row w = record { plant = stopped p; port = with_sioerr 0 q; answer = Answers.Written (record { row = row; word = w }) }

-- a SELECT of a row that there is: past these lines, refusals 4 to 7 or the write
unfoldable pub row_selected : Plant → Numbers → ℕ → Row → Option ℕ → Served
row_selected p q adr row value =
    first_of (saying (keeping p q) (row_lines row value))
    (pick (stops p adr row.0 (the_word value)) (stop_served p q row (the_word value)) (wrote_served p q row.0 (the_word value)))

unfoldable pub select_served : Plant → Numbers → ℕ → Option ENumber → Option ℕ → Served
select_served p q adr parameter value =
    first_of (saying (keeping p q) (name_lines p adr (row_named parameter)))
    (row_selected p q adr (the_row (row_named parameter)) value)

unfoldable pub served : Plant → Numbers → Message → Served
served p q (Enquiry adr parameter) = enquiry_served p q adr parameter
served p q (Select adr parameter value) = select_served p q adr parameter value
