-- What a lent buffer holds after runs of stores: one after the other, and through a part that was lent. Assumes nothing.
use mathlib.Core.Path.{◌≡◌, refl, sym, ap, ◌∙◌}
use mathlib.Core.List.{List, [], ◌∷◌, ◌++◌, append-nil}
use Prim.Native.Nat.{ℕ, suc, ◌+◌, ◌-◌, ◌≤◌, ◌<◌}
use native.Mathlib.Nat.{zero-add, add-zero, add-suc, suc-add}
use native.Mathlib.Omega.{arith}
use lib.ListN.{length, take, drop, set, length-set, length-append, length-drop, take-append-drop, drop_of_length-le}
use lib.Seq.{sets, sets-eq, set-append_left, set_out, length-take-le, take_all, take_at}
use borrow.Author.Tests.{lt-ltb, le-ltb}
use borrow.Rule.Slice.PartMut.{mid_of, post_of, put_mid}
use Rattle.base.specs.Buffers.{front, fitting}

set_append_right : (a d : List ℕ) (j v : ℕ) → set (a ++ d) (length a + j) v ≡ a ++ set d j v
set_append_right [] d j v = ap (λ (n : ℕ). set d n v) (zero-add j)
set_append_right (x ∷ a) d j v = ap (λ (n : ℕ). set (x ∷ a ++ d) n v) (suc-add (length a) j) ∙ ap (λ (l : List ℕ). x ∷ l) (set_append_right a d j v)

sets_append_left : (vs m p : List ℕ) (j : ℕ) → j + length vs ≤ length m → sets m j vs ++ p ≡ sets (m ++ p) j vs
sets_append_left [] m p j h = refl
sets_append_left (v ∷ vs) m p j h =
    let h₁ : j < length m = omega arith in
    sets_append_left vs (set m j v) p (suc j) (simp length-set (omega arith)) ∙ ap (λ (l : List ℕ). sets l (suc j) vs) (sym (set-append_left m p j v h₁))

sets_append_right : (vs a d : List ℕ) (j : ℕ) → a ++ sets d j vs ≡ sets (a ++ d) (length a + j) vs
sets_append_right [] a d j = refl
sets_append_right (v ∷ vs) a d j =
    sets_append_right vs a (set d j v) (suc j)
    ∙ ap (λ (n : ℕ). sets (a ++ set d j v) n vs) (add-suc (length a) j)
    ∙ ap (λ (l : List ℕ). sets l (suc (length a + j)) vs) (sym (set_append_right a d j v))

-- stores at j in a part that was lent at a are stores at a + j in the whole
pub sets_part : (a k j : ℕ) (xs vs : List ℕ) → a ≤ length xs → j + length vs ≤ length (mid_of a k xs) → put_mid a k xs (sets (mid_of a k xs) j vs) ≡ sets xs (a + j) vs
sets_part a k j xs vs h g =
    ap (λ (l : List ℕ). take a xs ++ l) (sets_append_left vs (mid_of a k xs) (post_of a k xs) j g ∙ ap (λ (l : List ℕ). sets l j vs) (take-append-drop k (drop a xs)))
    ∙ sets_append_right vs (take a xs) (drop a xs) j
    ∙ ap (λ (l : List ℕ). sets l (length (take a xs) + j) vs) (take-append-drop a xs)
    ∙ ap (λ (n : ℕ). sets xs (n + j) vs) (length-take-le a xs h)

-- one run, then the next
pub sets_append : (vs ws l : List ℕ) (i : ℕ) → sets l i (vs ++ ws) ≡ sets (sets l i vs) (i + length vs) ws
sets_append [] ws l i = ap (λ (n : ℕ). sets l n ws) (sym (add-zero i))
sets_append (v ∷ vs) ws l i =
    sets_append vs ws (set l i v) (suc i)
    ∙ ap (λ (n : ℕ). sets (sets (set l i v) (suc i) vs) n ws) (suc-add i (length vs) ∙ sym (add-suc i (length vs)))

-- stores past the end change nothing
pub sets_out : (vs l : List ℕ) (i : ℕ) → length l ≤ i → sets l i vs ≡ l
sets_out [] l i h = refl
sets_out (v ∷ vs) l i h = rw (set_out l i v h) (sets_out vs l (suc i) (omega arith))

-- what was stored from the start on
pub take_sets : (vs l : List ℕ) → length vs ≤ length l → take (length vs) (sets l 0 vs) ≡ vs
take_sets vs l h = ap (take (length vs)) (sets-eq vs l 0 (omega arith)) ∙ take_at vs (drop (0 + length vs) l) (length vs) refl

-- stores in a part that was lent from a to the end are stores in the whole, also where they pass the end
pub sets_rest : (a : ℕ) (xs vs : List ℕ) → a ≤ length xs → put_mid a (length xs - a) xs (sets (mid_of a (length xs - a) xs) 0 vs) ≡ sets xs a vs
sets_rest a xs vs h =
    let all : length (drop a xs) ≤ length xs - a = omega (arith, length-drop a xs) in
    (λ i. take a xs ++ (sets (take_all (length xs - a) (drop a xs) all i) 0 vs ++ drop_of_length-le (drop a xs) all i))
    ∙ ap (λ (l : List ℕ). take a xs ++ l) (append-nil (sets (drop a xs) 0 vs))
    ∙ sets_append_right vs (take a xs) (drop a xs) 0
    ∙ ap (λ (l : List ℕ). sets l (length (take a xs) + 0) vs) (take-append-drop a xs)
    ∙ ap (λ (n : ℕ). sets xs n vs) (add-zero (length (take a xs)) ∙ length-take-le a xs h)

-- a byte, then what a part from the second on was lent for
pub headed : (r u l : List ℕ) (a : ℕ) → 1 ≤ length r → l ≡ sets (mid_of 1 (length (set r 0 a) - 1) (set r 0 a)) 0 u
    → put_mid 1 (length (set r 0 a) - 1) (set r 0 a) l ≡ sets r 0 (a ∷ u)
headed r u l a h q = ap (put_mid 1 (length (set r 0 a) - 1) (set r 0 a)) q ∙ sets_rest 1 (set r 0 a) u (simp length-set h)

-- two stores more, after a run
pub tailed : (r u l : List ℕ) (m x y : ℕ) → l ≡ sets r 0 u → m ≡ length u → set (set l m x) (m + 1) y ≡ sets r 0 (u ++ (x ∷ y ∷ []))
tailed r u l m x y p q =
    (λ i. set (set (p i) (at i) x) (next i) y) ∙ sym (sets_append u (x ∷ y ∷ []) r 0)
  where
    at : m ≡ 0 + length u
    at = omega arith

    next : m + 1 ≡ suc (0 + length u)
    next = omega arith

-- stores one after the other from the start, where they fit, put the bytes in front
pub sets_front : (vs l : List ℕ) → length vs ≤ length l → sets l 0 vs ≡ front vs l
unfolding front
sets_front vs l h = sets-eq vs l 0 (rw zero-add h) ∙ rw zero-add

-- the bytes in front are read back, and the buffer keeps its length
pub take_front : (vs l : List ℕ) → take (length vs) (front vs l) ≡ vs
unfolding front
take_front vs l = take_at vs (drop (length vs) l) (length vs) refl

pub length_front : (vs l : List ℕ) → length vs ≤ length l → length (front vs l) ≡ length l
unfolding front
length_front vs l h = omega (arith, length-append vs (drop (length vs) l), length-drop (length vs) l)

-- no bytes: nothing changes
pub front_none : (l : List ℕ) → front [] l ≡ l
unfolding front
front_none l = refl

-- bytes that fit, and bytes that do not
pub fitting_all : (vs : List ℕ) (n : ℕ) → length vs ≤ n → fitting vs n ≡ vs
unfolding fitting
fitting_all vs n h = simp (le-ltb n (length vs) h)

pub fitting_none : (vs : List ℕ) (n : ℕ) → n < length vs → fitting vs n ≡ []
unfolding fitting
fitting_none vs n h = simp (lt-ltb n (length vs) h)
