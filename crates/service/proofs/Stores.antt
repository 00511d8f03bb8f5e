-- What a write leaves: the row holds the word, what follows from it holds, and all else is as it was. Assumes nothing.
use Rattle.std.proofs.Common.{Result, Ok, Err}
use mathlib.Core.Path.{◌≡◌, refl, sym, ap, ◌∙◌}
use mathlib.Core.Bool.{Bool, true, false, not}
use mathlib.Core.List.{List, [], ◌∷◌}
use Prim.Native.Nat.{ℕ, ◌≤◌}
use native.Mathlib.Omega.{arith}
use borrow.Author.Tests.{ne_eqb, eqb-true, ltb-true, ltb-false, not-true}
use lib.Dec.{eqb, ltb}
use lib.ListN.{length, get_or, set, length-set}
use lib.Seq.{get_or-set_same, get_or-set_other, set-get_or}
use Rattle.base.specs.Choice.{pick, both}
use Rattle.base.specs.Order.{Line, none_of}
use Rattle.base.proofs.Tests.{both_out, not_both, pick_both}
use Rattle.table.specs.Names.{Mode, Setpoint, MODE, SCMD, Drive-Status}
use Rattle.table.specs.Table.{rows, line_at}
use Rattle.table.proofs.Columns.{from_inv_st}
use Rattle.port.specs.Port.{Numbers}
use Rattle.drive.specs.Plant.{Plant, Sized}
use Rattle.drive.specs.Status.{flag_stands, Right}
use Rattle.drive.proofs.Righted.{righted_other, righted_right}
use Rattle.answers.specs.declared.Change.{Change}
use Rattle.answers.specs.declared.Refusal.{Refusal}
use Rattle.permit.specs.Refusals.{is_read, read_only, allowed, init_running, permitted, read_line, write_lines}
use Rattle.permit.specs.Permit.{permit_by, permit_of}
use Rattle.reading.specs.Read.{Told, told}
use Rattle.reading.proofs.Tells.{tells_stored}
use Rattle.service.specs.Write.{followed, after, applied, written}
use Rattle.service.proofs.Writes.{applied_by}

-- ---- what follows
followed_by : (P : Plant → Type 0) (p : Plant) (row : ℕ) → (row ≡ Mode → P (set p Setpoint 0)) → (row ≡ MODE → P (set p SCMD 0)) → P p → P (followed row p)
unfolding followed
followed_by P p row a b c =
    pick_both P (eqb row Mode) (λ e. a (eqb-true row Mode e)) (λ e. pick_both P (eqb row MODE) (λ q. b (eqb-true row MODE q)) (λ q. c))

-- what follows leaves all but Setpoint and SCMD as it was
follow_leaves : (p : Plant) (row n : ℕ) → (row ≡ Mode → n ≡ Setpoint → ⊥) → (row ≡ MODE → n ≡ SCMD → ⊥) → get_or (followed row p) n 0 ≡ get_or p n 0
follow_leaves p row n a b =
    followed_by (λ x. get_or x n 0 ≡ get_or p n 0) p row (λ e. get_or-set_other p Setpoint n 0 0 (a e)) (λ e. get_or-set_other p SCMD n 0 0 (b e)) refl

-- ---- a row that was written holds the word
pub stores : (p : Plant) (row w : ℕ) → Sized p → row ≤ SCMD → get_or (applied row w p) row 0 ≡ w
stores p row w s h =
    applied_by p row w (λ x. get_or x row 0 ≡ w) (λ l. absurd (omega arith)) (λ l e. here)
    (λ l d. righted_other _ row (λ e. omega (arith, e)) ∙ follow_leaves (set p row w) row row (λ e q. omega arith) (λ e q. omega arith) ∙ here)
  where
    here : get_or (set p row w) row 0 ≡ w
    here = get_or-set_same p row w 0 (omega arith)

-- and a read tells that word
pub stores_told : (p : Plant) (q : Numbers) (row w : ℕ) → Sized p → row ≤ SCMD → (told (applied row w p) q row).word ≡ w
stores_told p q row w s h =
    ap (λ (t : Told). t.word) (tells_stored (applied row w p) q row (omega arith) (λ e. omega arith) (λ e. omega arith) (λ e. omega arith))
    ∙ stores p row w s h

-- ---- every other number is as it was, but for Drive Status, Setpoint at a different Mode, and SCMD at a different MODE
pub leaves : (p : Plant) (row w n : ℕ) → (n ≡ row → ⊥) → (n ≡ Drive-Status → ⊥) → (row ≡ Mode → (get_or p Mode 0 ≡ w → ⊥) → n ≡ Setpoint → ⊥)
    → (row ≡ MODE → (get_or p MODE 0 ≡ w → ⊥) → n ≡ SCMD → ⊥) → get_or (applied row w p) n 0 ≡ get_or p n 0
leaves p row w n o s a b =
    applied_by p row w (λ x. get_or x n 0 ≡ get_or p n 0) (λ l. refl) (λ l e. there)
    (λ l d. righted_other _ n s ∙ follow_leaves (set p row w) row n (λ e. a e (λ q. d (rw e q))) (λ e. b e (λ q. d (rw e q))) ∙ there)
  where
    there : get_or (set p row w) n 0 ≡ get_or p n 0
    there = get_or-set_other p row n w 0 o

-- "A write of a different Mode also sets Setpoint to 0"
pub sets_setpoint : (p : Plant) (w : ℕ) → Sized p → (get_or p Mode 0 ≡ w → ⊥) → get_or (applied Mode w p) Setpoint 0 ≡ 0
unfolding applied followed
sets_setpoint p w s d =
    simp (ne_eqb _ _ d) (righted_other _ Setpoint (λ e. omega (arith, e)) ∙ get_or-set_same (set p Mode w) Setpoint 0 0 (omega (arith, length-set p Mode w)))

-- "SCMD becomes 0 when .. MODE changes to a different number"
pub sets_scmd : (p : Plant) (w : ℕ) → Sized p → (get_or p MODE 0 ≡ w → ⊥) → get_or (applied MODE w p) SCMD 0 ≡ 0
unfolding applied followed
sets_scmd p w s d = simp (ne_eqb _ _ d) (righted_other _ SCMD (λ e. omega (arith, e)) ∙ get_or-set_same (set p MODE w) SCMD 0 0 (omega (arith, length-set p MODE w)))

-- ---- what follows keeps the plant's length
followed_sized : (p : Plant) (row w : ℕ) → length (followed row (set p row w)) ≡ length p
followed_sized p row w =
    followed_by (λ x. length x ≡ length p) (set p row w) row (λ e. once Setpoint) (λ e. once SCMD) (length-set p row w)
  where
    once : (n : ℕ) → length (set (set p row w) n 0) ≡ length p
    once n = length-set (set p row w) n 0 ∙ length-set p row w

-- so after a write Drive Status is right, where it was right before
pub applied_right : (row w : ℕ) (p : Plant) → Right p → Right (applied row w p)
applied_right row w p right =
    applied_by p row w Right (λ l. right) (λ l e. rw (← e, set-get_or p row 0) right) (λ l d. righted_right _ (followed_sized p row w ∙ right.sized))

-- ---- a write that is permitted
-- the rows past SCMD, and those past the table, are read-only
writable_row : (row : ℕ) → read_only row ≡ false → row ≤ SCMD
unfolding read_only line_at rows
writable_row row e = go (ltb SCMD row) refl
  where
    go : (t : Bool) → ltb SCMD row ≡ t → row ≤ SCMD
    go true q = absurd (not_both (sym (from_inv_st (λ l. is_read l.class) row refl (ltb-true SCMD row q))) e)
    go false q = ltb-false SCMD row q

-- a write is permitted where no refusal applies, and it is the write that was asked
none_applies : (ls : List (Line Refusal)) (row w : ℕ) (change : Change) → permit_by ls row w ≡ Ok change → (none_of ls ≡ true) × (change ≡ record { row = record { 0 = row }; word = w })
none_applies [] row w change e = (refl, cc)
none_applies (l ∷ ls) row w change e = go l.test (none_applies ls row w change) e
  where
    go : (t : Bool) → (permit_by ls row w ≡ Ok change → (none_of ls ≡ true) × (change ≡ record { row = record { 0 = row }; word = w }))
        → pick t (Err l.answer) (permit_by ls row w) ≡ Ok change → (both (not t) (none_of ls) ≡ true) × (change ≡ record { row = record { 0 = row }; word = w })
    go true ih e = (cc, cc)
    go false ih e = ih e

-- so it is of a row that can be written, while no flag stands, and the row holds the word then
pub written_permits : (p : Plant) (row w : ℕ) (change : Change) → (written p row w).permit ≡ Ok change
    → (change ≡ record { row = record { 0 = row }; word = w }) × (row ≤ SCMD) × (flag_stands p ≡ false) × ((written p row w).plant ≡ applied row w p)
unfolding written permit_of
written_permits p row w change e =
    let n = none_applies (read_line row ∷ write_lines p row w) row w change e in
    let a = both_out (not (read_only row)) (none_of (write_lines p row w)) n.0 in
    let b = both_out (not (not (allowed p row w))) (both (not (flag_stands p)) (both (not (init_running p row)) (both (not (not (permitted p row w))) true))) a.1 in
    let c = both_out (not (flag_stands p)) (both (not (init_running p row)) (both (not (not (permitted p row w))) true)) b.1 in
    (n.1, writable_row row (not-true (read_only row) a.0), not-true (flag_stands p) c.0, ap (λ (k : Result Change Refusal). after k p) e ∙ ap (λ (k : Change). after (Ok k) p) n.1)
