-- What serving a message does, and what it comes to. Assumes nothing.
use Rattle.std.specs.Prelude.{Bool, true, false, ℕ, Option, Some, None, Result, Ok, Err}
use Rattle.table.specs.Names.{row_count}
use Rattle.table.specs.declared.labels.Row.{Row}
use Rattle.port.specs.Port.{Numbers}
use Rattle.drive.specs.Plant.{Plant}
use Rattle.answers.specs.declared.Answer.{Answer}
use Rattle.answers.specs.declared.Answer.TheVariants as Answers
use Rattle.reading.specs.Read.{Told, told}
use Rattle.service.specs.Write.{written}
use Rattle.answers.specs.declared.Change.{Change}
use Rattle.answers.specs.declared.Refusal.{Refusal}

-- ---- the row that a message names
abbrev pub is_none : Option Row → Bool
is_none (Some row) = false
is_none None = true

-- where there is none, a message is refused; this only fills the place
abbrev pub the_row : Option Row → Row
the_row (Some row) = row
the_row None = record { 0 = row_count }

-- ---- what is done
-- the plant and the port after a message, and what it came to
pub record Served : Type 0 where
  pub plant : Plant
  pub port : Numbers
  pub answer : Answer

-- "Refusals 2 to 9 change no state but the time sum, 1 and 10 to 14 none"
abbrev pub keeping : Plant → Numbers → Answer → Served
keeping p q answer = record { plant = p; port = q; answer = answer }

-- a read: what it does, and the word that the row told
abbrev pub telling : Row → Told → Served
telling row t = record { plant = t.plant; port = t.port; answer = Answers.Told row t.word }

unfoldable pub told_served : Plant → Numbers → Row → Served
told_served p q row = telling row (told p q row.0)

-- refusals 3 to 7, or the write
abbrev pub permitted : Result Change Refusal → Answer
permitted (Ok change) = Answers.Written change
permitted (Err refusal) = Answers.Refused refusal

unfoldable pub wrote_served : Plant → Numbers → ℕ → ℕ → Served
wrote_served p q row w = record { plant = (written p row w).plant; port = q; answer = permitted (written p row w).permit }
