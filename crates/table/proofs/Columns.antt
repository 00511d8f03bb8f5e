-- A `match` on ranges of numbers, against a column of the table that is known along each range. Assumes nothing.
use mathlib.Core.Path.{◌≡◌, refl, sym, ap}
use mathlib.Core.Bool.{Bool, true, false}
use mathlib.Core.List.{List, map}
use Prim.Native.Nat.{ℕ, zero, suc, ◌+◌, ◌≤◌, ◌<◌}
use native.Mathlib.Omega.{arith}
use borrow.Author.Tests.{ne_eqb, eqb-true, eqb-false, ltb-true, ltb-false}
use lib.Dec.{eqb, ltb}
use lib.ListN.{get_or, drop, get_or-eq_default}
use Rattle.base.specs.Choice.{pick}
use Rattle.base.proofs.Arms.{up_from}
use Rattle.table.specs.Names.{Mode, row_count}
use Rattle.table.specs.Table.{Entry, Line, rows, line_at, no_line}
use Rattle.table.specs.declared.lines.Class.TheVariants.{Init, Run}

-- two definitions that say the same of k numbers from i on, one by one, say the same of any of these
pub along : {A : Type 0} (g f : ℕ → A) (i k n : ℕ) → map g (up_from i k) ≡ map f (up_from i k) → i ≤ n → n < i + k → g n ≡ f n
along g f i zero n e l u = absurd (let z : ⊥ = omega arith in z)
along {A} g f i (suc k) n e l u = go (eqb n i) refl (along g f (suc i) k n (ap (λ (s : List A). drop 1 s) e))
  where
    go : (t : Bool) → eqb n i ≡ t → (suc i ≤ n → n < suc i + k → g n ≡ f n) → g n ≡ f n
    go true q later = rw (eqb-true n i q) (ap (λ (s : List A). get_or s 0 (g i)) e)
    go false q later = let o : n ≡ i → ⊥ = eqb-false n i q in later (omega arith) (omega arith)

pub along_0 : {A : Type 0} (g f : ℕ → A) (k n : ℕ) → map g (up_from 0 k) ≡ map f (up_from 0 k) → n < k → g n ≡ f n
along_0 g f k n e u = along g f 0 k n e (omega arith) (omega arith)

-- past the table there is no line
pub past_table : (n : ℕ) → row_count ≤ n → no_line ≡ line_at n
unfolding line_at rows
past_table n h = sym (get_or-eq_default (map (λ (x : Entry). x.line) rows) no_line h)

-- a column that is the same from Inv St, ack on to the end of the table as past it
pub from_inv_st : {A : Type 0} (column : Line → A) (n : ℕ) → map (λ (m : ℕ). column no_line) (up_from 24 7) ≡ map (λ (m : ℕ). column (line_at m)) (up_from 24 7)
    → 24 ≤ n → column no_line ≡ column (line_at n)
from_inv_st column n e l = go (ltb n row_count) refl
  where
    go : (t : Bool) → ltb n row_count ≡ t → column no_line ≡ column (line_at n)
    go true q = along (λ m. column no_line) (λ m. column (line_at m)) 24 7 n e l (ltb-true n row_count q)
    go false q = ap column (past_table n (ltb-false n row_count q))

-- from Accel to SCMD each row is Run, but for Mode
pub run_at : (n : ℕ) → (n ≡ Mode → ⊥) → 7 ≤ n → n < 24 → Run ≡ (line_at n).class
unfolding line_at rows
run_at n o l u = simp (ne_eqb n Mode o) at (along (λ m. pick (eqb m Mode) Init Run) (λ m. (line_at m).class) 7 17 n refl l u)
