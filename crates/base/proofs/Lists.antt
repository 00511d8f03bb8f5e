-- Lists of bytes, and loops that fold over them. Assumes nothing.
use mathlib.Core.Path.{◌≡◌, refl, sym, ◌∙◌}
use mathlib.Core.Bool.{true, false≢true}
use mathlib.Core.List.{List, [], ◌∷◌, ◌++◌, foldl}
use Prim.Native.Nat.{ℕ, zero, suc, ◌+◌, ◌≤◌, ◌<◌}
use native.Mathlib.Numerals.{add-one}
use native.Mathlib.Omega.{arith}
use borrow.Author.Tests.{eq-eqb, eqb-true}
use lib.Dec.{eqb}
use lib.ListN.{length, take, drop, get_or, length-drop, drop_of_length-le}
use lib.Seq.{drop-cons, take-append-le, drop-append-le}
use Rattle.base.specs.Bytes.{AllBelow, same}
use Rattle.base.proofs.Tests.{both_out, both_in}

-- ---- the same bytes
pub same_out : (s t : List ℕ) → same s t ≡ true → s ≡ t
unfolding same
same_out [] [] e = refl
same_out [] (y ∷ t) e = absurd (false≢true e)
same_out (x ∷ s) [] e = absurd (false≢true e)
same_out (x ∷ s) (y ∷ t) e =
    let h = both_out (eqb x y) (same s t) e in
    let p : x ≡ y = eqb-true x y h.0 in
    let q : s ≡ t = same_out s t h.1 in
    cc

pub same_in : (s : List ℕ) → same s s ≡ true
unfolding same
same_in [] = refl
same_in (x ∷ s) = both_in (eq-eqb x x refl) (same_in s)

-- ---- numbers below a bound
pub below_elements : (n : ℕ) (s : List ℕ) → ((i : ℕ) → i < length s → get_or s i 0 < n) → AllBelow n s
unfolding AllBelow
below_elements n [] h = tt
below_elements n (x ∷ s) h = (h 0 (omega arith), below_elements n s (λ i l. h (suc i) (omega arith)))

pub below_wider : (m n : ℕ) (s : List ℕ) → m ≤ n → AllBelow m s → AllBelow n s
unfolding AllBelow
below_wider m n [] h k = tt
below_wider m n (x ∷ s) h k = (omega arith, below_wider m n s h k.1)

pub below_element : (n : ℕ) (s : List ℕ) (i : ℕ) → AllBelow n s → i < length s → get_or s i 0 < n
unfolding AllBelow
below_element n [] i h l = absurd (omega arith)
below_element n (x ∷ s) zero h l = h.0
below_element n (x ∷ s) (suc i) h l = below_element n s i h.1 (omega arith)

pub below_append : (n : ℕ) (a b : List ℕ) → AllBelow n a → AllBelow n b → AllBelow n (a ++ b)
unfolding AllBelow
below_append n [] b h k = k
below_append n (x ∷ a) b h k = (h.0, below_append n a b h.1 k)

pub below_take : (n k : ℕ) (s : List ℕ) → AllBelow n s → AllBelow n (take k s)
unfolding AllBelow
below_take n zero s h = tt
below_take n (suc k) [] h = tt
below_take n (suc k) (x ∷ s) h = (h.0, below_take n k s h.1)

pub below_drop : (n k : ℕ) (s : List ℕ) → AllBelow n s → AllBelow n (drop k s)
unfolding AllBelow
below_drop n zero s h = h
below_drop n (suc k) [] h = tt
below_drop n (suc k) (x ∷ s) h = below_drop n k s h.1

-- ---- k elements from a on do not depend on what comes after them
pub part_append : (a k : ℕ) (m z : List ℕ) → a + k ≤ length m → take k (drop a (m ++ z)) ≡ take k (drop a m)
part_append a k m z h = rw (drop-append-le a m z (omega arith), take-append-le k (drop a m) z (omega (arith, length-drop a m)))

-- ---- a loop that folds over a slice: a turn of it, and its end
pub fold_turn : (f : ℕ → ℕ → ℕ) (s : List ℕ) (x i : ℕ) → i < length s → foldl f x (drop i s) ≡ foldl f (f x (get_or s i 0)) (drop (i + 1) s)
fold_turn f s x i h = rw (add-one, drop-cons s i 0)

pub fold_end : (f : ℕ → ℕ → ℕ) (s : List ℕ) (x i : ℕ) → length s ≤ i → foldl f x (drop i s) ≡ x
fold_end f s x i h = rw (drop_of_length-le s h)

-- the loop's invariant: folding in what is left gives the whole
pub record Folding (f : ℕ → ℕ → ℕ) (start : ℕ) (s : List ℕ) (x i : ℕ) : Type 0 where
  pub passed : i ≤ length s
  pub left : foldl f x (drop i s) ≡ foldl f start s

pub fold_starts : (f : ℕ → ℕ → ℕ) (start : ℕ) (s : List ℕ) → Folding f start s start 0
fold_starts f start s = record { passed = omega arith; left = refl }

pub fold_again : (f : ℕ → ℕ → ℕ) (start : ℕ) (s : List ℕ) (x y i : ℕ) → Folding f start s x i → i < length s → y ≡ f x (get_or s i 0) → Folding f start s y (i + 1)
fold_again f start s x y i h k e = record { passed = omega arith; left = rw e (sym (fold_turn f s x i k) ∙ h.left) }

pub fold_done : (f : ℕ → ℕ → ℕ) (start : ℕ) (s : List ℕ) (x i : ℕ) → Folding f start s x i → length s ≤ i → x ≡ foldl f start s
fold_done f start s x i h k = sym (fold_end f s x i k) ∙ h.left
