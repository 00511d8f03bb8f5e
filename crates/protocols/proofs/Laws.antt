-- Whether a word is one of three letters or of five, by its letters. Assumes nothing.
use Rattle.std.proofs.Common.{◌≡◌, ℕ, false, eqb, List, [], ◌∷◌, length, get_or, ap, arith}
use Rattle.base.specs.Choice.{both}
use Rattle.base.specs.Bytes.{same}
use Rattle.base.proofs.Tests.{is_false, both_true}
use Rattle.base.proofs.Lists.{same_out}

pub other_length : (s t : List ℕ) → (length s ≡ length t → ⊥) → same s t ≡ false
other_length s t h = is_false (same s t) (λ e. h (ap length (same_out s t e)))

pub three_letters : (s : List ℕ) (a b c : ℕ) → length s ≡ 3 → same s (a ∷ b ∷ c ∷ []) ≡ both (eqb (get_or s 0 0) a) (both (eqb (get_or s 1 0) b) (eqb (get_or s 2 0) c))
unfolding same
three_letters [] a b c h = absurd (omega arith)
three_letters (x ∷ []) a b c h = absurd (omega arith)
three_letters (x ∷ y ∷ []) a b c h = absurd (omega arith)
three_letters (x ∷ y ∷ z ∷ []) a b c h = simp both_true
three_letters (x ∷ y ∷ z ∷ w ∷ s) a b c h = absurd (omega arith)

pub five_letters : (s : List ℕ) (a b c d e : ℕ) → length s ≡ 5
    → same s (a ∷ b ∷ c ∷ d ∷ e ∷ [])
    ≡ both (eqb (get_or s 0 0) a) (both (eqb (get_or s 1 0) b) (both (eqb (get_or s 2 0) c) (both (eqb (get_or s 3 0) d) (eqb (get_or s 4 0) e))))
unfolding same
five_letters [] a b c d e h = absurd (omega arith)
five_letters (x ∷ []) a b c d e h = absurd (omega arith)
five_letters (x ∷ y ∷ []) a b c d e h = absurd (omega arith)
five_letters (x ∷ y ∷ z ∷ []) a b c d e h = absurd (omega arith)
five_letters (x ∷ y ∷ z ∷ v ∷ []) a b c d e h = absurd (omega arith)
five_letters (x ∷ y ∷ z ∷ v ∷ w ∷ []) a b c d e h = simp both_true
five_letters (x ∷ y ∷ z ∷ v ∷ w ∷ u ∷ s) a b c d e h = absurd (omega arith)

pub ruleset letters = (other_length, three_letters, five_letters)
