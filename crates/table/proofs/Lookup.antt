-- Searching the table: where two tests pass the same rows, and the row of a span. Assumes nothing.
use Rattle.std.proofs.Common.{Option, Some, None}
use mathlib.Core.Path.{◌≡◌, refl, sym, ap, ◌∙◌}
use mathlib.Core.Bool.{Bool, true, false}
use mathlib.Core.List.{List, [], ◌∷◌}
use Prim.Native.Nat.{ℕ, ◌+◌, ◌-◌, ◌*◌, ◌/◌, ◌%◌, ◌≤◌}
use native.Mathlib.Omega.{arith}
use borrow.Author.Tests.{eq-eqb, ne_eqb, eqb-true, eqb-false, leb-true, ltb-true, ltb-false}
use lib.Dec.{eqb, leb, ltb}
use Rattle.base.specs.Choice.{pick, both}
use Rattle.base.proofs.Tests.{both_out, same_test}
use Rattle.table.specs.Names.{Inv-St}
use Rattle.table.specs.Table.{Place, ADI, register, Entry, rows, line_at}
use Rattle.table.specs.Address.{address, first_register, adi_of}
use Rattle.table.specs.Find.{first_row, has_adi, row_of_adi, row_from, row_of_span}
use Rattle.table.specs.declared.labels.AdiNumber.{AdiNumber}
use Rattle.table.specs.declared.labels.Row.{Row}
use Rattle.table.proofs.Apart.{every, pairwise, apart, apart_out, all_apart}

-- ---- the address rule, read backwards
pub adi_some : (r : ℕ) (a : AdiNumber) → adi_of r ≡ Some a → (1 ≤ a.0) × (r ≡ address a.0)
unfolding adi_of address
adi_some r a e = go (ltb r 528) (eqb ((r - 528) % 4) 0) refl refl e
  where
    go : (s t : Bool) → ltb r 528 ≡ s → eqb ((r - 528) % 4) 0 ≡ t → pick s None (pick t (Some (record { 0 = (r - 528) / 4 + 1 })) None) ≡ Some a
        → (1 ≤ a.0) × (r ≡ 528 + 4 * (a.0 - 1))
    go true t p q e = let z : ◌≡◌ {A = ℕ} 0 1 = cc in absurd (omega arith)
    go false true p q e =
        let n : (r - 528) / 4 + 1 ≡ a.0 = cc in
        let l : 528 ≤ r = ltb-false r 528 p in
        let m : (r - 528) % 4 ≡ 0 = eqb-true _ _ q in
        (omega arith, omega arith)
    go false false p q e = let z : ◌≡◌ {A = ℕ} 0 1 = cc in absurd (omega arith)

pub adi_none : (r n : ℕ) → adi_of r ≡ None → 1 ≤ n → address n ≡ r → ⊥
unfolding adi_of address
adi_none r n e h k = go (ltb r 528) (eqb ((r - 528) % 4) 0) refl refl e
  where
    go : (s t : Bool) → ltb r 528 ≡ s → eqb ((r - 528) % 4) 0 ≡ t → pick {A = Option AdiNumber} s None (pick t (Some (record { 0 = (r - 528) / 4 + 1 })) None) ≡ None → ⊥
    go true t p q e = omega (arith, ltb-true r 528 p)
    go false true p q e = let z : ◌≡◌ {A = ℕ} 0 1 = cc in omega arith
    go false false p q e =
        let o : (r - 528) % 4 ≡ 0 → ⊥ = eqb-false _ _ q in
        o (omega arith)

-- each place of the table is an ADI number from 1 on, or 02A5h
abbrev fine : Place → Bool
fine (ADI n) = leb 1 n
fine (register r) = eqb r 0x02A5

all_fine : every (λ (x : Entry). fine x.place) rows ≡ true
unfolding rows
all_fine = refl

-- ---- two tests that pass the same places find the same row
module _ (s t : Place → Bool) (same : (p : Place) → fine p ≡ true → s p ≡ t p) where
  same_rows : (xs : List Entry) → every (λ (x : Entry). fine x.place) xs ≡ true
      → first_row (λ (x : Entry). s x.place) xs ≡ first_row (λ (x : Entry). t x.place) xs
  unfolding first_row
  same_rows [] e = refl
  same_rows (x ∷ xs) e =
      let h = both_out (fine x.place) (every (λ (y : Entry). fine y.place) xs) e in
      simp (same x.place h.0, same_rows xs h.1)

nothing_passes : (xs : List Entry) → None ≡ first_row (λ (x : Entry). false) xs
unfolding first_row
nothing_passes [] = refl
nothing_passes (x ∷ xs) = nothing_passes xs

-- the register that is an ADI number's address leads to that number's row
pub from_adi : (r : ℕ) (g : Option AdiNumber) (a : AdiNumber) (f : Option Row) → g ≡ adi_of r → g ≡ Some a → f ≡ row_of_adi a.0 → f ≡ row_from r
unfolding row_of_adi row_from first_register address
from_adi r g a f d e q = q ∙ same_rows (has_adi a.0) (λ (p : Place). eqb (first_register p) r) same rows all_fine
  where
    k : (1 ≤ a.0) × (r ≡ address a.0)
    k = adi_some r a (sym d ∙ e)

    n : r ≡ 0x02A5 → ⊥
    n y = omega (arith, k.0, k.1)

    same : (p : Place) → fine p ≡ true → has_adi a.0 p ≡ eqb (first_register p) r
    same (ADI m) h =
        let l : 1 ≤ m = leb-true 1 m h in
        same_test (eqb m a.0) (eqb (528 + 4 * (m - 1)) r)
        (λ y. eq-eqb (528 + 4 * (m - 1)) r (omega (arith, eqb-true m a.0 y, k.1)))
        (λ y. eq-eqb m a.0 (omega (arith, eqb-true (528 + 4 * (m - 1)) r y, k.0, k.1)))
    same (register x) h = sym (ne_eqb x r (λ y. n (sym y ∙ eqb-true _ _ h)))

-- 02A5h, which is no ADI number's address, leads to Inv St
pub from_inv_st : (r : ℕ) → r ≡ 0x02A5 → Some (record { 0 = Inv-St }) ≡ row_from r
unfolding row_from rows first_row first_register address
from_inv_st r e = simp e

-- any other leads nowhere
pub from_none : (r : ℕ) (g : Option AdiNumber) → (r ≡ 0x02A5 → ⊥) → g ≡ adi_of r → g ≡ None → None ≡ row_from r
unfolding row_from first_register
from_none r g n d e = nothing_passes rows ∙ same_rows (λ (p : Place). false) (λ (p : Place). eqb (first_register p) r) same rows all_fine
  where
    same : (p : Place) → fine p ≡ true → false ≡ eqb (first_register p) r
    same (ADI m) h = sym (ne_eqb (address m) r (adi_none r m (sym d ∙ e) (leb-true 1 m h)))
    same (register x) h = sym (ne_eqb x r (λ y. n (sym y ∙ eqb-true _ _ h)))

-- ---- the row of a span
-- each row's line is found again by its name
abbrev listed : Entry → Bool
listed x = eqb (line_at x.name).registers x.line.registers

all_listed : every listed rows ≡ true
unfolding rows line_at
all_listed = refl

abbrev begins : ℕ → Entry → Bool
begins r x = eqb (first_register x.place) r

abbrev spans : ℕ → ℕ → Entry → Bool
spans r n x = both (begins r x) (eqb x.line.registers n)

-- a row that is apart from one that begins there does not begin there
not_there : (r : ℕ) (x y : Entry) → begins r x ≡ true → apart x y ≡ true → begins r y ≡ false
not_there r x y b a = rw (eqb-true (first_register x.place) r b) at (apart_out x y a).first

no_span : (r n : ℕ) (x : Entry) (xs : List Entry) → begins r x ≡ true → every (apart x) xs ≡ true → None ≡ first_row (spans r n) xs
unfolding first_row
no_span r n x [] b e = refl
no_span r n x (y ∷ ys) b e =
    let h = both_out (apart x y) (every (apart x) ys) e in
    simp (not_there r x y b h.0) (no_span r n x ys b h.1)

-- the row that begins there, where its width is the count
abbrev of_width : ℕ → Option Row → Option Row
of_width n (Some row) = pick (eqb (line_at row.0).registers n) (Some row) None
of_width n None = None

span_found : (r n : ℕ) (xs : List Entry) → every listed xs ≡ true → pairwise apart xs ≡ true → first_row (spans r n) xs ≡ of_width n (first_row (begins r) xs)
unfolding first_row
span_found r n [] l a = refl
span_found r n (x ∷ xs) l a = go (begins r x) (eqb x.line.registers n) refl refl (span_found r n xs ls.1 gap.1)
  where
    ls : (listed x ≡ true) × (every listed xs ≡ true)
    ls = both_out (listed x) (every listed xs) l

    gap : (every (apart x) xs ≡ true) × (pairwise apart xs ≡ true)
    gap = both_out (every (apart x) xs) (pairwise apart xs) a

    width : (line_at x.name).registers ≡ x.line.registers
    width = eqb-true (line_at x.name).registers x.line.registers ls.0

    go : (s t : Bool) → begins r x ≡ s → eqb x.line.registers n ≡ t → first_row (spans r n) xs ≡ of_width n (first_row (begins r) xs)
        → first_row (spans r n) (x ∷ xs) ≡ of_width n (first_row (begins r) (x ∷ xs))
    go true true p q ih = simp (p, q, width)
    go true false p q ih = simp (p, q, width) (sym (no_span r n x xs p gap.0))
    go false t p q ih = simp p ih

span_is : (r n : ℕ) → row_of_span r n ≡ of_width n (row_from r)
unfolding row_of_span row_from
span_is r n = span_found r n rows all_listed all_apart

pub span_none : (r n : ℕ) (f : Option Row) → f ≡ row_from r → f ≡ None → None ≡ row_of_span r n
span_none r n f d e = sym (span_is r n ∙ ap (of_width n) (sym d ∙ e))

pub span_fits : (r n w : ℕ) (f : Option Row) (row : Row) → f ≡ row_from r → f ≡ Some row → w ≡ (line_at row.0).registers → w ≡ n → Some row ≡ row_of_span r n
span_fits r n w f row d e q h = sym (span_is r n ∙ ap (of_width n) (sym d ∙ e) ∙ simp (eq-eqb (line_at row.0).registers n (sym q ∙ h)))

pub span_other : (r n w : ℕ) (f : Option Row) (row : Row) → f ≡ row_from r → f ≡ Some row → w ≡ (line_at row.0).registers → (w ≡ n → ⊥) → None ≡ row_of_span r n
span_other r n w f row d e q h = sym (span_is r n ∙ ap (of_width n) (sym d ∙ e) ∙ simp (ne_eqb (line_at row.0).registers n (λ z. h (q ∙ z))))
