-- The refusals of a write: of a row that can be written, and by number. Assumes nothing.
use Rattle.std.proofs.Common.{Err}
use mathlib.Core.Path.{◌≡◌, refl}
use mathlib.Core.Bool.{Bool, true, false}
use mathlib.Core.List.{List, [], ◌∷◌}
use Prim.Native.Nat.{ℕ}
use Rattle.base.specs.Choice.{pick}
use Rattle.base.specs.Order.{Line, first_of, saying}
use Rattle.answers.specs.Answer.{refusal_number}
use Rattle.answers.specs.declared.Refusal.{Refusal}
use Rattle.drive.specs.Plant.{Plant}
use Rattle.permit.specs.Refusals.{read_only, read_line, write_lines}
use Rattle.permit.specs.Permit.{permit_number, permit_by, permit_of}

-- a row that can be written is refused by 4 to 7 alone
pub permit_writable : (p : Plant) (row w : ℕ) → read_only row ≡ false → permit_of p row w ≡ permit_by (write_lines p row w) row w
unfolding permit_of
permit_writable p row w e = simp e

-- a permit's number is that of the first refusal that applies, and 0 where none does
by_number : (ls : List (Line Refusal)) (row w : ℕ) → permit_number (permit_by ls row w) ≡ first_of (saying refusal_number ls) 0
by_number [] row w = refl
by_number (l ∷ ls) row w = go l.test (by_number ls row w)
  where
    go : (t : Bool) → permit_number (permit_by ls row w) ≡ first_of (saying refusal_number ls) 0
        → permit_number (pick t (Err l.answer) (permit_by ls row w)) ≡ pick t (refusal_number l.answer) (first_of (saying refusal_number ls) 0)
    go true e = refl
    go false e = e

pub permit_number_lem : (p : Plant) (row w : ℕ) → permit_number (permit_of p row w) ≡ first_of (saying refusal_number (read_line row ∷ write_lines p row w)) 0
unfolding permit_of
permit_number_lem p row w = by_number (read_line row ∷ write_lines p row w) row w
