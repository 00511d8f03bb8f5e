-- Worked cases of the table, in one statement: what a label leads to. Assumes nothing.
use Rattle.std.specs.Prelude.{◌≡◌, refl, List, [], ◌∷◌, map, ℕ, Option, Some, None}
use Rattle.table.specs.Names.{Accel, SpdScl-num, MODE, Inv-St-ack, Inv-St, OpTime, Drive-Status}
use Rattle.table.specs.Table.{rows}
use Rattle.table.specs.Address.{address, first_register}
use Rattle.table.specs.Find.{first_row, row_of_e, row_of_span}
use Rattle.table.specs.declared.labels.Row.{Row}

abbrev at : ℕ → Option Row
at n = Some (record { 0 = n })

-- an E number, or a register with a count, and the row
pub record Leads : Type 0 where
  pub found : Option Row
  pub right : Option Row

abbrev pub leads : Option Row → Option Row → Leads
leads found right = record { found = found; right = right }

unfoldable pub labels : List Leads
labels =
    leads (row_of_e 0x001D) (at Accel)
    ∷ leads (row_of_e 0x0019) None
    ∷ leads (row_of_e 0x00E9) (at Inv-St)
    ∷ leads (row_of_span 0x0294 1) (at MODE)
    ∷ leads (row_of_span 0x02A4 1) (at Inv-St-ack)
    ∷ leads (row_of_span 0x02A5 1) (at Inv-St)
    ∷ leads (row_of_span 0x02A4 2) None
    ∷ leads (row_of_span 0x070C 1) None
    ∷ leads (row_of_span 0x070C 2) (at SpdScl-num)
    ∷ leads (row_of_span 0x070D 1) None
    ∷ leads (row_of_span 0x02A8 2) (at OpTime)
    ∷ leads (row_of_span 0x0258 1) (at Drive-Status)
    ∷ leads (row_of_span 0x0258 2) None
    ∷ leads (row_of_span 0x0259 1) None
    ∷ []

pub labels_lead : map (λ (l : Leads). l.found) labels ≡ map (λ (l : Leads). l.right) labels
unfolding labels row_of_e row_of_span first_row rows first_register address
labels_lead = refl
