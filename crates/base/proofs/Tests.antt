-- A definition by tests, walked by the tests that the code made: one ruleset for every function. Then the laws of joined tests.
-- Assumes nothing.
use Prim.Native.Nat.{ℕ, zero, suc, ◌<◌}
use mathlib.Core.Path.{◌≡◌, refl, sym, ◌∙◌}
use mathlib.Core.Logic.{◌⊎◌, inl, inr}
use mathlib.Core.Bool.{Bool, true, false, true≢false, false≢true, not}
use native.Mathlib.Omega.{arith}
use borrow.Author.Tests.{lt-ltb, le-ltb, le-leb, lt-leb, eq-eqb, ne_eqb, eqb-true, eqb-false, not-true, not-false}
use lib.Dec.{eqb}
use Rattle.base.specs.Choice.{pick, both, either}
use Rattle.base.specs.Bytes.{every_below}

-- ---- what a test showed, and the case that it picks
pub pick_yes : {A : Type 0} (t : Bool) (a b r : A) → t ≡ true → r ≡ a → r ≡ pick t a b
pick_yes t a b r e q = simp e q

pub pick_no : {A : Type 0} (t : Bool) (a b r : A) → t ≡ false → r ≡ b → r ≡ pick t a b
pick_no t a b r e q = simp e q

pub both_yes : (a b r : Bool) → a ≡ true → r ≡ b → r ≡ both a b
both_yes a b r e q = simp e q

pub both_no : (a b r : Bool) → a ≡ false → r ≡ false → r ≡ both a b
both_no a b r e q = simp e q

pub either_yes : (a b r : Bool) → a ≡ true → r ≡ true → r ≡ either a b
either_yes a b r e q = simp e q

pub either_no : (a b r : Bool) → a ≡ false → r ≡ b → r ≡ either a b
either_no a b r e q = simp e q

pub not_yes : (a : Bool) → a ≡ false → not a ≡ true
not_yes a e = simp e

pub not_no : (a : Bool) → a ≡ true → not a ≡ false
not_no a e = simp e

-- what a call told of its result, and what a branch on the result showed
pub same_as_both : (s t r : Bool) → r ≡ s → r ≡ t → s ≡ t
same_as_both s t r p q = sym p ∙ q

pub ruleset tests = (pick_yes, pick_no, both_yes, both_no, either_yes, either_no, not_yes, not_no, lt-ltb, le-ltb, le-leb, lt-leb, eq-eqb, ne_eqb, not-true, not-false, same_as_both)

-- ---- what joined tests tell
pub both_out : (a b : Bool) → both a b ≡ true → (a ≡ true) × (b ≡ true)
both_out true b e = (refl, e)
both_out false b e = absurd (false≢true e)

pub both_in : {a b : Bool} → a ≡ true → b ≡ true → both a b ≡ true
both_in p q = rw (p, q)

pub either_out : (a b : Bool) → either a b ≡ true → (a ≡ true) ⊎ (b ≡ true)
either_out true b e = inl refl
either_out false b e = inr e

pub either_left : (a b : Bool) → a ≡ true → either a b ≡ true
either_left a b e = rw e

pub either_right : (a b : Bool) → b ≡ true → either a b ≡ true
either_right true b e = refl
either_right false b e = e

pub both_true : (a : Bool) → both a true ≡ a
both_true true = refl
both_true false = refl

pub both_false : (a : Bool) → both a false ≡ false
both_false true = refl
both_false false = refl

pub either_false : (a : Bool) → either a false ≡ a
either_false true = refl
either_false false = refl

pub either_same : (a : Bool) → either a a ≡ a
either_same true = refl
either_same false = refl

-- a test does not both hold and fail
pub not_both : {t : Bool} → t ≡ true → t ≡ false → ⊥
not_both p q = true≢false (sym p ∙ q)

-- a test that cannot hold fails
pub is_false : (t : Bool) → (t ≡ true → ⊥) → t ≡ false
is_false true n = absurd (n refl)
is_false false n = refl

-- two tests that follow from each other are the same
pub same_test : (s t : Bool) → (s ≡ true → t ≡ true) → (t ≡ true → s ≡ true) → s ≡ t
same_test true t f g = sym (f refl)
same_test false true f g = g refl
same_test false false f g = refl

-- what holds in both cases of a choice holds of the choice
pub pick_both : {A : Type 0} (P : A → Type 0) (t : Bool) {a b : A} → (t ≡ true → P a) → (t ≡ false → P b) → P (pick t a b)
pick_both P true p q = p refl
pick_both P false p q = q refl

-- ---- a test that was computed for every number below a bound
pub below_at : (n : ℕ) (test : ℕ → Bool) (k : ℕ) → every_below n test ≡ true → k < n → test k ≡ true
below_at zero test k e h = absurd (omega arith)
below_at (suc n) test k e h = go (eqb k n) refl (both_out (test n) (every_below n test) e) (below_at n test k)
  where
    go : (t : Bool) → eqb k n ≡ t → (test n ≡ true) × (every_below n test ≡ true) → (every_below n test ≡ true → k < n → test k ≡ true) → test k ≡ true
    go true q r ih = rw (eqb-true k n q) r.0
    go false q r ih = let other : k ≡ n → ⊥ = eqb-false k n q in ih r.1 (omega arith)
