-- A write, case by case. Assumes nothing.
use mathlib.Core.Path.{◌≡◌}
use Prim.Native.Nat.{ℕ, ◌<◌, ◌≤◌}
use lib.Dec.{eqb, ltb}
use lib.ListN.{get_or, set}
use borrow.Author.Tests.{eqb-true, eqb-false, ltb-true, ltb-false}
use Rattle.base.proofs.Tests.{pick_both}
use Rattle.table.specs.Names.{SCMD}
use Rattle.drive.specs.Plant.{Plant}
use Rattle.drive.specs.Status.{righted}
use Rattle.service.specs.Write.{followed, applied}

-- a row holds a word: one past SCMD, the word that it had, a different word. What holds in each of these cases holds after the write
module _ (p : Plant) (row w : ℕ) where
  pub applied_by : (P : Plant → Type 0) → (SCMD < row → P p) → (row ≤ SCMD → get_or p row 0 ≡ w → P (set p row w))
      → (row ≤ SCMD → (get_or p row 0 ≡ w → ⊥) → P (righted (followed row (set p row w)))) → P (applied row w p)
  unfolding applied
  applied_by P past same other =
      pick_both P (ltb SCMD row) (λ e. past (ltb-true SCMD row e)) (λ e.
      pick_both P (eqb (get_or p row 0) w) (λ q. same (ltb-false SCMD row e) (eqb-true (get_or p row 0) w q)) (λ q. other (ltb-false SCMD row e) (eqb-false (get_or p row 0) w q)))
