-- The first answer that applies, of lines put one after the other. Assumes nothing.
use mathlib.Core.Path.{◌≡◌, refl, ap}
use mathlib.Core.Bool.{Bool, true, false, not}
use mathlib.Core.List.{List, [], ◌∷◌, ◌++◌}
use Prim.Native.Nat.{ℕ}
use borrow.Author.Tests.{not-true}
use Rattle.base.specs.Choice.{pick}
use Rattle.base.specs.Order.{Line, first_of, none_of, saying, numbers}
use Rattle.base.proofs.Tests.{both_out}

-- lines in front come first
pub first_append : {A : Type 0} (ls ms : List (Line A)) (a : A) → first_of (ls ++ ms) a ≡ first_of ls (first_of ms a)
first_append [] ms a = refl
first_append (l ∷ ls) ms a = ap (pick l.test l.answer) (first_append ls ms a)

-- where no line applies, the other
pub first_none : {A : Type 0} (ls : List (Line A)) (a : A) → none_of ls ≡ true → first_of ls a ≡ a
first_none [] a e = refl
first_none (l ∷ ls) a e = let h = both_out (not l.test) (none_of ls) e in simp (not-true l.test h.0) (first_none ls a h.1)

-- a line is given where it applies and none before it does
pub first_here : {A : Type 0} (ls : List (Line A)) (l : Line A) (ms : List (Line A)) (a : A) → none_of ls ≡ true → l.test ≡ true → first_of (ls ++ (l ∷ ms)) a ≡ l.answer
first_here ls l ms a e h = rw (first_append ls (l ∷ ms) a, first_none ls (first_of (l ∷ ms) a) e) (simp h)

-- other words for the answers
pub first_saying : {A B : Type 0} (say : A → B) (ls : List (Line A)) (a : A) → first_of (saying say ls) (say a) ≡ say (first_of ls a)
first_saying say [] a = refl
first_saying say (l ∷ ls) a = go l.test (first_saying say ls a)
  where
    go : (t : Bool) → first_of (saying say ls) (say a) ≡ say (first_of ls a) → pick t (say l.answer) (first_of (saying say ls) (say a)) ≡ say (pick t l.answer (first_of ls a))
    go true e = refl
    go false e = e

-- the numbers of lines one after the other
pub numbers_append : {A : Type 0} (number : A → ℕ) (ls ms : List (Line A)) → numbers number (ls ++ ms) ≡ numbers number ls ++ numbers number ms
numbers_append number [] ms = refl
numbers_append number (l ∷ ls) ms = ap (λ (ns : List ℕ). number l.answer ∷ ns) (numbers_append number ls ms)

pub numbers_saying : {A B : Type 0} (say : A → B) (number : B → ℕ) (ls : List (Line A)) → numbers number (saying say ls) ≡ numbers (λ (a : A). number (say a)) ls
numbers_saying say number [] = refl
numbers_saying say number (l ∷ ls) = ap (λ (ns : List ℕ). number (say l.answer) ∷ ns) (numbers_saying say number ls)
