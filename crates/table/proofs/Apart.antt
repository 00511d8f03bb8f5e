-- No two rows share a label: one test, computed over the table for each pair of rows. Assumes nothing.
use mathlib.Core.Path.{◌≡◌, refl, sym}
use mathlib.Core.Bool.{Bool, true, false, not}
use mathlib.Core.List.{List, [], ◌∷◌}
use Prim.Native.Nat.{ℕ, ◌+◌, ◌≤◌, ◌<◌}
use native.Mathlib.Omega.{arith}
use borrow.Author.Tests.{eq-eqb, eqb-true, leb-true, ltb-true, not-true}
use lib.Dec.{eqb, leb, ltb}
use Rattle.base.specs.Choice.{pick, both, either}
use Rattle.base.proofs.Tests.{both_out, either_out, not_both, is_false}
use mathlib.Core.Logic.{⊎_elim}
use Rattle.table.specs.Table.{Parameter, E, no_e, Place, ADI, register, Entry, rows}
use Rattle.table.specs.Address.{address, first_register}
use Rattle.table.specs.Find.{has_e, has_adi}
use Rattle.table.specs.Unique.{passing, covers, Unique}

-- the test holds of every row of the list
abbrev pub every : (Entry → Bool) → List Entry → Bool
every test [] = true
every test (x ∷ xs) = both (test x) (every test xs)

-- the test holds of each row with each one after it
abbrev pub pairwise : (Entry → Entry → Bool) → List Entry → Bool
pairwise test [] = true
pairwise test (x ∷ xs) = both (every (test x) xs) (pairwise test xs)

abbrev pub other_e : Parameter → Parameter → Bool
other_e (E a) (E b) = not (eqb a b)
other_e (E a) no_e = true
other_e no_e p = true

abbrev pub other_place : Place → Place → Bool
other_place (ADI a) (ADI b) = not (eqb a b)
other_place (ADI a) (register s) = true
other_place (register r) p = true

abbrev pub end : Entry → ℕ
end x = first_register x.place + x.line.registers

-- two rows have different E numbers, different ADI numbers, different first registers and no register in common
abbrev pub apart : Entry → Entry → Bool
apart x y =
    both (other_e x.parameter y.parameter)
    (both (other_place x.place y.place)
    (both (not (eqb (first_register y.place) (first_register x.place)))
    (either (leb (end x) (first_register y.place)) (leb (end y) (first_register x.place)))))

-- what the test tells
pub record Apart (x y : Entry) : Type 0 where
  pub e : other_e x.parameter y.parameter ≡ true
  pub place : other_place x.place y.place ≡ true
  pub first : eqb (first_register y.place) (first_register x.place) ≡ false
  pub gap : either (leb (end x) (first_register y.place)) (leb (end y) (first_register x.place)) ≡ true

pub apart_out : (x y : Entry) → apart x y ≡ true → Apart x y
apart_out x y e =
    let t : Bool = either (leb (end x) (first_register y.place)) (leb (end y) (first_register x.place)) in
    let s : Bool = eqb (first_register y.place) (first_register x.place) in
    let a = both_out (other_e x.parameter y.parameter) (both (other_place x.place y.place) (both (not s) t)) e in
    let b = both_out (other_place x.place y.place) (both (not s) t) a.1 in
    let c = both_out (not s) t b.1 in
    record { e = a.0; place = b.0; first = not-true s c.0; gap = c.1 }

pub all_apart : pairwise apart rows ≡ true
unfolding rows first_register address
all_apart = refl

-- where no two rows that are apart pass a test, one row of the table passes it at most
module _ (test : Entry → Bool) (clash : (x y : Entry) → test x ≡ true → test y ≡ true → apart x y ≡ true → ⊥) where
  none_after : (x : Entry) (xs : List Entry) → test x ≡ true → every (apart x) xs ≡ true → passing test xs ≡ 0
  unfolding passing
  none_after x [] t e = refl
  none_after x (y ∷ ys) t e =
      let h = both_out (apart x y) (every (apart x) ys) e in
      let n : test y ≡ false = is_false (test y) (λ u. clash x y t u h.0) in
      simp (n, none_after x ys t h.1)

  one_at_most : (xs : List Entry) → pairwise apart xs ≡ true → passing test xs ≤ 1
  unfolding passing
  one_at_most [] e = omega arith
  one_at_most (x ∷ xs) e = go (test x) refl (both_out (every (apart x) xs) (pairwise apart xs) e) (one_at_most xs)
    where
      go : (t : Bool) → test x ≡ t → (every (apart x) xs ≡ true) × (pairwise apart xs ≡ true) → (pairwise apart xs ≡ true → passing test xs ≤ 1)
          → pick (test x) 1 0 + passing test xs ≤ 1
      go true q h ih = simp (q, none_after x xs q h.0) (omega arith)
      go false q h ih = simp q (omega (arith, ih h.1))

same_e : (e : ℕ) (p q : Parameter) → has_e e p ≡ true → has_e e q ≡ true → other_e p q ≡ true → ⊥
same_e e (E a) (E b) s t o = not_both (eq-eqb a b (omega (arith, eqb-true a e s, eqb-true b e t))) (not-true (eqb a b) o)
same_e e (E a) no_e s t o = not_both refl (sym t)
same_e e no_e q s t o = not_both refl (sym s)

same_adi : (n : ℕ) (p q : Place) → has_adi n p ≡ true → has_adi n q ≡ true → other_place p q ≡ true → ⊥
same_adi n (ADI a) (ADI b) s t o = not_both (eq-eqb a b (omega (arith, eqb-true a n s, eqb-true b n t))) (not-true (eqb a b) o)
same_adi n (ADI a) (register r) s t o = not_both refl (sym t)
same_adi n (register r) q s t o = not_both refl (sym s)

inside : (r : ℕ) (x : Entry) → covers r x ≡ true → (first_register x.place ≤ r) × (r < end x)
unfolding covers
inside r x e =
    let h = both_out (leb (first_register x.place) r) (ltb r (end x)) e in
    (leb-true (first_register x.place) r h.0, ltb-true r (end x) h.1)

overlap : (r : ℕ) (x y : Entry) → covers r x ≡ true → covers r y ≡ true → apart x y ≡ true → ⊥
overlap r x y s t a = ⊎_elim
    (λ l. omega (arith, inside r x s, inside r y t, leb-true (end x) (first_register y.place) l))
    (λ l. omega (arith, inside r x s, inside r y t, leb-true (end y) (first_register x.place) l))
    (either_out (leb (end x) (first_register y.place)) (leb (end y) (first_register x.place)) (apart_out x y a).gap)

pub unique : Unique
unique = record {
  e_number = λ e. one_at_most (λ x. has_e e x.parameter) (λ x y s t a. same_e e x.parameter y.parameter s t (apart_out x y a).e) rows all_apart;
  adi_number = λ n. one_at_most (λ x. has_adi n x.place) (λ x y s t a. same_adi n x.place y.place s t (apart_out x y a).place) rows all_apart;
  register = λ r. one_at_most (covers r) (overlap r) rows all_apart;
}
