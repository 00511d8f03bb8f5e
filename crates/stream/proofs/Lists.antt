-- Lists that are cut in two. Assumes nothing.
use mathlib.Core.Path.{◌≡◌, refl, sym}
use mathlib.Core.Logic.{◌⊎◌, inl, inr, ⊎_elim}
use mathlib.Core.List.{List, [], ◌∷◌, ◌++◌, cons≢nil, head-eq_of_cons-eq, tail-eq_of_cons-eq}
use Prim.Native.Nat.{ℕ}
use lib.ListN.{length, drop}
use Rattle.stream.specs.Format.{Without}

-- two cuts of one list: the second is at or past the first, or before it
pub cut : (a b c d : List ℕ) → a ++ b ≡ c ++ d
    → ((e : List ℕ) × (c ≡ a ++ e) × (b ≡ e ++ d)) ⊎ ((y : ℕ) × (e : List ℕ) × (a ≡ c ++ y ∷ e) × (y ∷ e ++ b ≡ d))
cut [] b c d h = inl (c, refl, h)
cut (x ∷ a) b [] d h = inr (x, a, refl, h)
cut (x ∷ a) b (y ∷ c) d h = ⊎_elim
    (λ r. inl (r.0, cc (head-eq_of_cons-eq h), r.2))
    (λ r. inr (r.0, r.1, cc (head-eq_of_cons-eq h), r.3))
    (cut a b c d (tail-eq_of_cons-eq h))

-- a list that ends in b and z is not empty
pub append_cons_ne_nil : (v : List ℕ) (b : ℕ) (z : List ℕ) → v ++ b ∷ z ≡ [] → ⊥
append_cons_ne_nil [] b z e = cons≢nil e
append_cons_ne_nil (x ∷ v) b z e = cons≢nil e

-- what follows m in m ++ v
pub drop_message : (m s v : List ℕ) → s ≡ m ++ v → drop (length m) s ≡ v
drop_message [] s v h = h
drop_message (x ∷ m) [] v h = absurd (cons≢nil (sym h))
drop_message (x ∷ m) (y ∷ s) v h = drop_message m s v (tail-eq_of_cons-eq h)

-- a list with c in it is not without c
pub without_mid : (c : ℕ) (u r : List ℕ) → Without c (u ++ c ∷ r) → ⊥
without_mid c [] r n = n.0 refl
without_mid c (x ∷ u) r n = without_mid c u r n.1
