-- A message is answered or not, whatever its protocol: what is to be heard decides. Assumes nothing.
use mathlib.Core.Path.{◌≡◌, sym, ap, ◌∙◌}
use mathlib.Core.Logic.{inl, inr}
use mathlib.Core.Bool.{false}
use mathlib.Core.List.{List, []}
use Prim.Native.Nat.{ℕ}
use native.Mathlib.Omega.{arith}
use Rattle.base.proofs.Tests.{not_both}
use Rattle.answers.specs.declared.Answer.{Answer}
use Rattle.answers.specs.declared.Answer.TheVariants.{NotOurs}
use Rattle.card.specs.declared.outcome.Outcome.{Outcome}
use Rattle.card.specs.declared.outcome.Outcome.TheVariants as Outcomes
use Rattle.answers.specs.declared.Refusal.{Refusal}
use Rattle.answers.specs.Answer.{refusal_number, answer_number}
use Rattle.card.specs.Outcome.{outcome_number}
use Rattle.demands.proofs.Leaving.{refusal_within, answer_most}
use Rattle.demands.specs.Demand2.{Ears, Unanswered, AnswerHeard}

-- the answer that an outcome carries
abbrev answer_or : Answer → Outcome → Answer
answer_or a Outcomes.Done = a
answer_or a (Outcomes.Served b) = b
answer_or a Outcomes.ShortBuffer = a
answer_or a Outcomes.BadFrame = a
answer_or a Outcomes.NoSuchEvent = a
answer_or a Outcomes.NothingTaken = a

pub one_answer : (a b : Answer) (o : Outcome) → o ≡ Outcomes.Served a → o ≡ Outcomes.Served b → a ≡ b
one_answer a b o e f = ap (answer_or a) (sym e ∙ f)

-- a bad frame is no message
pub bad_not : (a : Answer) → Outcomes.Served a ≡ Outcomes.BadFrame → ⊥
bad_not a e = let n : answer_number a ≡ 11 = ap outcome_number e in omega (arith, n, answer_most a)

-- an answer of another number is not outcome 1
pub told_not_1 : ◌≡◌ {A = ℕ} 0 1 → ⊥
told_not_1 e = omega (arith, e)

pub refused_not_1 : (x : Refusal) → refusal_number x ≡ 1 → ⊥
refused_not_1 x e = omega (arith, e, (refusal_within x).0)

module _ {H : Type 0} (E : Ears H) (m : List ℕ) (a : Answer) (reply : List ℕ) where
  -- a broadcast, or outcome 1
  pub unanswered : Unanswered E m a → reply ≡ [] → AnswerHeard E m a reply
  unanswered u e = record { none = (λ _. u, λ _. e); heard = λ n. absurd (n u) }

  -- there is a reply, and it is heard as it should be
  pub answered_by : (reply ≡ [] → ⊥) → E.to_all m ≡ false → (a ≡ NotOurs → ⊥) → E.hear reply ≡ E.back m a → AnswerHeard E m a reply
  answered_by some one ours e = record { none = (λ z. absurd (some z), λ u. absurd (no u)); heard = λ _. e }
    where
      no : Unanswered E m a → ⊥
      no (inl t) = not_both t one
      no (inr t) = ours t

  -- what is heard of a reply has the number 0, and what is heard of nothing has 14
  pub answered : (number : H → ℕ) → number (E.hear []) ≡ 14 → number (E.back m a) ≡ 0 → E.to_all m ≡ false → (a ≡ NotOurs → ⊥) → E.hear reply ≡ E.back m a → AnswerHeard E m a reply
  answered number silence told one ours e = answered_by some one ours e
    where
      some : reply ≡ [] → ⊥
      some z = let n : number (E.hear []) ≡ 0 = ap (λ (s : List ℕ). number (E.hear s)) (sym z) ∙ ap number e ∙ told in omega (arith, n, silence)
