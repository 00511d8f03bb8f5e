-- From a label on the line to its row. Assumes nothing.
use Rattle.std.specs.Prelude.{Bool, false, List, [], ◌∷◌, ℕ, eqb, Option, Some, None}
use Rattle.base.specs.Choice.{pick, both}
use Rattle.table.specs.Table.{Parameter, E, no_e, Place, ADI, register, Entry, rows}
use Rattle.table.specs.Address.{first_register}
use Rattle.table.specs.declared.labels.Row.{Row}

-- the first row of the list that passes the test
unfoldable pub first_row : (Entry → Bool) → List Entry → Option Row
first_row test [] = None
first_row test (r ∷ rs) = pick (test r) (Some (record { 0 = r.name })) (first_row test rs)

-- it has the E number e
abbrev pub has_e : ℕ → Parameter → Bool
has_e e (E n) = eqb n e
has_e e no_e = false

-- it has the ADI number n
abbrev pub has_adi : ℕ → Place → Bool
has_adi n (ADI m) = eqb m n
has_adi n (register r) = false

unfoldable pub row_of_e : ℕ → Option Row
row_of_e e = first_row (λ (r : Entry). has_e e r.parameter) rows

unfoldable pub row_of_adi : ℕ → Option Row
row_of_adi n = first_row (λ (r : Entry). has_adi n r.place) rows

-- the row whose registers begin here
unfoldable pub row_from : ℕ → Option Row
row_from first = first_row (λ (r : Entry). eqb (first_register r.place) first) rows

-- "A row's registers are read or written all in one message and only its own: start at its first, count its width"
unfoldable pub row_of_span : ℕ → ℕ → Option Row
row_of_span first count = first_row (λ (r : Entry). both (eqb (first_register r.place) first) (eqb r.line.registers count)) rows
