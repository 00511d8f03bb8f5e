-- Whether a row may be made to hold a word now. Assumes nothing.
use Rattle.std.specs.Prelude.{List, ◌∷◌, ℕ, Result, Ok, Err}
use Rattle.base.specs.Order.{Line, first_of, saying}
use Rattle.answers.specs.Answer.{refusal_number}
use Rattle.answers.specs.declared.Refusal.{Refusal}
use Rattle.drive.specs.Plant.{Plant}
use Rattle.permit.specs.Refusals.{read_line, write_lines}
use Rattle.answers.specs.declared.Change.{Change}

-- document 01's number: 0 is done, and the others are refusals
abbrev pub permit_number : Result Change Refusal → ℕ
permit_number (Ok change) = 0
permit_number (Err refusal) = refusal_number refusal

-- the first refusal of the lines that applies; where none does, the write
abbrev pub permit_by : List (Line Refusal) → ℕ → ℕ → Result Change Refusal
permit_by lines row w = first_of (saying Err lines) (Ok (record { row = record { 0 = row }; word = w }))

-- by refusals 3 to 7
unfoldable pub permit_of : Plant → ℕ → ℕ → Result Change Refusal
permit_of p row w = permit_by (read_line row ∷ write_lines p row w) row w
