-- An order of answers: the first that applies. Assumes nothing.
use Rattle.std.specs.Prelude.{Bool, true, not, List, [], ◌∷◌, ℕ}
use Rattle.base.specs.Choice.{pick, both}

-- a line of an order: an answer, and the test that tells when it is given
pub record Line (A : Type 0) : Type 0 where
  pub test : Bool
  pub answer : A

abbrev pub when : {A : Type 0} → Bool → A → Line A
when t a = record { test = t; answer = a }

-- the answer of the first line whose test holds; where none holds, the other
abbrev pub first_of : {A : Type 0} → List (Line A) → A → A
first_of [] other = other
first_of (l ∷ ls) other = pick l.test l.answer (first_of ls other)

-- no line's test holds
abbrev pub none_of : {A : Type 0} → List (Line A) → Bool
none_of [] = true
none_of (l ∷ ls) = both (not l.test) (none_of ls)

-- the same tests, with each answer said in other words
abbrev pub saying : {A B : Type 0} → (A → B) → List (Line A) → List (Line B)
saying say [] = []
saying say (l ∷ ls) = when l.test (say l.answer) ∷ saying say ls

-- the numbers of the answers, in order
abbrev pub numbers : {A : Type 0} → (A → ℕ) → List (Line A) → List ℕ
numbers number [] = []
numbers number (l ∷ ls) = number l.answer ∷ numbers number ls
