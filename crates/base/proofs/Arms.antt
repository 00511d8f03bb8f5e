-- A `match` on a number, against a definition that computes at each of its keys. Assumes nothing.
use Prim.Native.Nat.{ℕ, zero, suc, ◌+◌, ◌≤◌}
use native.Mathlib.Omega.{arith}
use mathlib.Core.Path.{◌≡◌, ap, sym, ◌∙◌}
use mathlib.Core.List.{List, [], ◌∷◌}

-- the arm of the key k: what the definition says of k
pub at_key : {A : Type 0} (f : ℕ → A) (k n : ℕ) (r : A) → n ≡ k → r ≡ f k → r ≡ f n
at_key f k n r h q = q ∙ ap f (sym h)

-- what the last arm is told: the number is none of the keys
abbrev pub Rest : ℕ → Type 0 → List ℕ → Type 0
Rest n A [] = A
Rest n A (k ∷ ks) = Rest n (A × (n ≡ k → ⊥)) ks

abbrev pub NoneOf : ℕ → List ℕ → Type 0
NoneOf n [] = Unit {0}
NoneOf n (k ∷ ks) = (n ≡ k → ⊥) × NoneOf n ks

pub rest_none : {A : Type 0} (n : ℕ) (ks : List ℕ) → Rest n A ks → A × NoneOf n ks
rest_none n [] r = (r, tt)
rest_none n (k ∷ ks) r = let q = rest_none n ks r in (q.0.0, (q.0.1, q.1))

-- k numbers from i on
abbrev pub up_from : ℕ → ℕ → List ℕ
up_from i zero = []
up_from i (suc k) = i ∷ up_from (suc i) k

-- a number that is none of those, and not below i, is past them
pub past : (k i n : ℕ) → i ≤ n → NoneOf n (up_from i k) → i + k ≤ n
past zero i n l h = omega arith
past (suc k) i n l h = let o : n ≡ i → ⊥ = h.0 in omega (arith, past k (suc i) n (omega arith) h.1)
