-- What a unit's answer can be: only a read tells, only a write is written, only 43 and 17 are told the identity, and a reply comes from our own address. Assumes nothing.
use Rattle.std.proofs.Common.{Option, Some, None, Result, Ok, Err}
use mathlib.Core.Path.{◌≡◌, sym, subst, ◌∙◌}
use mathlib.Core.Logic.{◌⊎◌, inl, inr}
use mathlib.Core.Bool.{Bool, true, false, not, true≢false}
use mathlib.Core.List.{List}
use Prim.Native.Nat.{ℕ, ◌≤◌}
use native.Mathlib.Omega.{arith}
use borrow.Author.Tests.{eqb-true, leb-true, not-false}
use lib.Dec.{eqb, leb}
use lib.ListN.{length, get_or}
use Rattle.base.specs.Choice.{pick, both, either}
use Rattle.base.proofs.Tests.{pick_both, both_out, either_out}
use Rattle.table.specs.Find.{row_of_span}
use Rattle.table.specs.declared.labels.Register.{Register}
use Rattle.identity.specs.Identity.{objects_asked}
use Rattle.port.specs.Port.{Numbers}
use Rattle.drive.specs.Plant.{Plant, station}
use Rattle.answers.specs.declared.Answer.{Answer}
use Rattle.answers.specs.declared.Answer.TheVariants as Answers
use Rattle.service.specs.Write.{written}
use Rattle.service.specs.Serving.{is_none, the_row, permitted, told_served, wrote_served}
use Rattle.modbus_words.specs.Words.{word_at, long_at}
use Rattle.modbus.specs.Request.{between, reads, writes, asked, asked_of, request_of}
use Rattle.modbus.specs.declared.requests.Span.{Span}
use Rattle.modbus.specs.declared.requests.Request.{Request}
use Rattle.modbus.specs.declared.requests.Request.TheVariants.{Read, One, Many, Identify, Serial, Malformed, Unknown}
use Rattle.modbus.specs.declared.replies.Answer as Units
use Rattle.modbus.proofs.Laws.{request_all}
use Rattle.modbus_service.specs.Serve.{to_all, reaches_us, asks_read, no_object, task_of, done, served}
use Rattle.modbus_service.specs.Reply.{head_of, answered, replied_by, replied, exchanged}
use Rattle.modbus_service.specs.declared.Task.{Task}
use Rattle.modbus_service.specs.declared.Task.TheVariants.{Say}
use Rattle.answers.specs.declared.Change.{Change}
use Rattle.answers.specs.declared.Refusal.{Refusal}

-- ---- a request has the numbers of its function
abbrev pub Made : Request → Type 0
Made (Read function first count) = (3 ≤ function) × (function ≤ 4)
Made (One register word) = Unit {0}
Made (Many first count place) = (1 ≤ count) × (count ≤ 123)
Made (Identify code object) = Unit {0}
Made Serial = Unit {0}
Made (Malformed function) = Unit {0}
Made (Unknown function) = Unit {0}

reading : (f : ℕ) → either (eqb f 3) (eqb f 4) ≡ true → (3 ≤ f) × (f ≤ 4)
reading f e = go (either_out (eqb f 3) (eqb f 4) e)
  where
    go : (eqb f 3 ≡ true) ⊎ (eqb f 4 ≡ true) → (3 ≤ f) × (f ≤ 4)
    go (inl h) = (omega (arith, eqb-true f 3 h), omega (arith, eqb-true f 3 h))
    go (inr h) = (omega (arith, eqb-true f 4 h), omega (arith, eqb-true f 4 h))

counted : (n k m : ℕ) → writes n k m ≡ true → (1 ≤ k) × (k ≤ 123)
unfolding writes
counted n k m e = let h = both_out (leb 1 k) (leb k 123) (both_out (between 1 123 k) _ e).0 in (leb-true 1 k h.0, leb-true k 123 h.1)

asked_made : (n f a k m : ℕ) → Made (asked n f a k m)
unfolding asked
asked_made n f a k m =
    pick_both Made (either (eqb f 3) (eqb f 4)) (λ e. pick_both Made (reads n k) (λ _. reading f e) (λ _. tt))
    (λ _. pick_both Made (eqb f 6) (λ _. pick_both Made (eqb n 5) (λ _. tt) (λ _. tt))
    (λ _. pick_both Made (eqb f 16) (λ _. pick_both Made (writes n k m) (λ e. counted n k m e) (λ _. tt)) (λ _. tt)))

pub made : (u : List ℕ) → Made (request_of u)
unfolding asked_of
made u = request_all Made u tt tt tt tt tt (asked_made (length u) (get_or u 0 0) (word_at u 1) (word_at u 3) (get_or u 5 0))

-- ---- only a read tells, only a write is written, and only 43 and 17 are told the identity
abbrev pub Fits : Request → Answer → Type 0
Fits (Read function first count) (Answers.Written change) = ⊥
Fits (Read function first count) (Answers.Told row word) = Unit {0}
Fits (Read function first count) (Answers.Identified part) = ⊥
Fits (One register word) (Answers.Told row w) = ⊥
Fits (One register word) (Answers.Written change) = Unit {0}
Fits (One register word) (Answers.Identified part) = ⊥
Fits (Many first count place) (Answers.Told row w) = ⊥
Fits (Many first count place) (Answers.Written change) = Unit {0}
Fits (Many first count place) (Answers.Identified part) = ⊥
Fits (Identify code object) (Answers.Told row w) = ⊥
Fits (Identify code object) (Answers.Written change) = ⊥
Fits (Identify code object) (Answers.Identified part) = Unit {0}
Fits Serial (Answers.Told row w) = ⊥
Fits Serial (Answers.Written change) = ⊥
Fits Serial (Answers.Identified part) = Unit {0}
Fits (Malformed function) (Answers.Told row w) = ⊥
Fits (Malformed function) (Answers.Written change) = ⊥
Fits (Malformed function) (Answers.Identified part) = ⊥
Fits (Unknown function) (Answers.Told row w) = ⊥
Fits (Unknown function) (Answers.Written change) = ⊥
Fits (Unknown function) (Answers.Identified part) = ⊥
Fits request Answers.NotOurs = Unit {0}
Fits request (Answers.Refused refusal) = Unit {0}

-- what a write comes to
one_fits : (r : Register) (w : ℕ) (x : Result Change Refusal) → Fits (One r w) (permitted x)
one_fits r w (Ok change) = tt
one_fits r w (Err refusal) = tt

many_fits : (r : Register) (n : ℕ) (s : Span) (x : Result Change Refusal) → Fits (Many r n s) (permitted x)
many_fits r n s (Ok change) = tt
many_fits r n s (Err refusal) = tt

module _ (p : Plant) (q : Numbers) (a : ℕ) (u : List ℕ) where
  abbrev Does : Request → Task → Type 0
  Does request t = Fits request (done p q t).answer

  fits : (request : Request) → Fits request (done p q (task_of (station p) a request u)).answer
  unfolding task_of done told_served wrote_served
  fits (Read f r n) =
      pick_both (Does (Read f r n)) (not (reaches_us (station p) a)) (λ _. tt)
      (λ _. pick_both (Does (Read f r n)) (both (to_all a) true) (λ _. tt) (λ _. pick_both (Does (Read f r n)) (is_none (row_of_span r.0 n)) (λ _. tt) (λ _. tt)))
  fits (One r w) =
      pick_both (Does (One r w)) (not (reaches_us (station p) a)) (λ _. tt)
      (λ _. pick_both (Does (One r w)) (both (to_all a) false) (λ _. tt) (λ _. pick_both (Does (One r w)) (is_none (row_of_span r.0 1)) (λ _. tt) (λ _. one_fits r w (written p (the_row (row_of_span r.0 1)).0 w).permit)))
  fits (Many r n s) =
      pick_both (Does (Many r n s)) (not (reaches_us (station p) a)) (λ _. tt)
      (λ _. pick_both (Does (Many r n s)) (both (to_all a) false) (λ _. tt) (λ _. pick_both (Does (Many r n s)) (is_none (row_of_span r.0 n)) (λ _. tt) (λ _. many_fits r n s (written p (the_row (row_of_span r.0 n)).0 (long_at u s.from)).permit)))
  fits (Identify code object) =
      pick_both (Does (Identify code object)) (not (reaches_us (station p) a)) (λ _. tt)
      (λ _. pick_both (Does (Identify code object)) (both (to_all a) true) (λ _. tt) (λ _. pick_both (Does (Identify code object)) (both (no_object (objects_asked code object)) true) (λ _. tt) (λ _. tt)))
  fits Serial = pick_both (Does Serial) (not (reaches_us (station p) a)) (λ _. tt) (λ _. pick_both (Does Serial) (both (to_all a) true) (λ _. tt) (λ _. tt))
  fits (Malformed f) =
      pick_both (Does (Malformed f)) (not (reaches_us (station p) a)) (λ _. tt) (λ _. pick_both (Does (Malformed f)) (both (to_all a) (asks_read (Malformed f))) (λ _. tt) (λ _. tt))
  fits (Unknown f) = pick_both (Does (Unknown f)) (not (reaches_us (station p) a)) (λ _. tt) (λ _. tt)

  pub served_fits : Fits (request_of u) (served p q a u).answer
  unfolding served
  served_fits = fits (request_of u)

  -- and it comes from our own address
  abbrev FromUs : Option Units.Answer → Type 0
  FromUs None = Unit {0}
  FromUs (Some x) = a ≡ station p

  any_from : a ≡ station p → (r : Option Units.Answer) → FromUs r
  any_from e None = tt
  any_from e (Some x) = e

  ours : to_all a ≡ false → not (reaches_us (station p) a) ≡ false → a ≡ station p
  unfolding reaches_us
  ours n r = go (either_out (to_all a) (eqb a (station p)) (not-false (either (to_all a) (eqb a (station p))) r))
    where
      go : (to_all a ≡ true) ⊎ (eqb a (station p) ≡ true) → a ≡ station p
      go (inl h) = absurd (true≢false (sym h ∙ n))
      go (inr h) = eqb-true a (station p) h

  abbrev TaskFrom : Task → Type 0
  TaskFrom t = FromUs (answered (head_of (request_of u)) (done p q t).answer)

  pick_from : (t : Bool) (x y : Task) → TaskFrom x → (t ≡ false → a ≡ station p) → TaskFrom (pick t x y)
  pick_from t x y d g = pick_both TaskFrom t (λ _. d) (λ e. any_from (g e) (answered (head_of (request_of u)) (done p q y).answer))

  refused_from : TaskFrom (Say Answers.NotOurs)
  unfolding done
  refused_from = tt

  reply_from : FromUs (exchanged p q a u).reply
  unfolding exchanged replied replied_by served task_of
  reply_from = pick_both FromUs (to_all a) (λ _. tt) (λ n. pick_from (not (reaches_us (station p) a)) _ _ refused_from (λ r. ours n r))

  pub from_us : (x : Units.Answer) → (exchanged p q a u).reply ≡ Some x → a ≡ station p
  from_us x e = subst FromUs e reply_from
