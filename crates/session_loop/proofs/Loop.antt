-- The loop over what was read: a call uses bytes that are there, and one at least; and the calls are those that `Handed` names, and so those
-- of a stream to its end. Assumes nothing.
use Rattle.std.specs.Prelude.{Result, Ok, Err, OnErr}
use mathlib.Core.Path.{◌≡◌, refl, sym, ap, subst}
use mathlib.Core.List.{List, [], ◌∷◌, ◌++◌, append-nil}
use Prim.Native.Nat.{ℕ, ◌-◌, ◌<◌}
use native.Mathlib.Omega.{arith}
use lib.ListN.{length, take, drop, length-drop}
use lib.Seq.{take_all}
use Rattle.base.specs.Buffers.{ascii_least}
use Rattle.card.specs.State.{protocol_of}
use Rattle.card.specs.declared.state.Card.{Card}
use Rattle.receive.specs.Calls.{Course, adding, ended, Calls}
use Rattle.receive.specs.Calls as calls
use Rattle.receive.specs.Receive.{received}
use Rattle.receive.proofs.Laws.{least_most}
use Rattle.session_loop.specs.Line.{Report, reported, reported_on}
use Rattle.session_loop.specs.declared.call.Reported.{Reported}
use Rattle.session_loop.specs.Handed.{EndsAt, Handed, over, call, Partly, none, after, Stopped}

-- after some calls, a call more on the bytes that are left
one_more : (c₀ : Card) (s₀ : List ℕ) (c : Card) (s : List ℕ) → Partly c₀ s₀ c s → 0 < length s → Partly c₀ s₀ (received c s ascii_least).card (drop (received c s ascii_least).used s)
one_more c₀ s₀ c [] p h = absurd (omega arith)
one_more c₀ s₀ c (b ∷ s) none h = after b s none
one_more c₀ s₀ c (b ∷ s) (after b₀ l p) h = after b₀ l (one_more _ _ c (b ∷ s) p h)

-- some calls, and those on what they left
pub partly_over : (c₀ : Card) (s₀ : List ℕ) (c : Card) (s : List ℕ) (d : Card) → Partly c₀ s₀ c s → Handed c s d → Handed c₀ s₀ d
partly_over c₀ s₀ c s d none h = h
partly_over c₀ s₀ c s d (after b l p) h = call b l (partly_over _ _ c s d p h)

-- a call, by what is reported of it: c is the card before it, d the card after it
module _ (c d : Card) (rest : List ℕ) (t : Reported) (turns : reported_on d t ≡ reported (received c rest ascii_least)) where
  -- one call more
  pub handed_on : (c₀ : Card) (scrap : List ℕ) → Partly c₀ scrap c rest → 0 < length rest → Partly c₀ scrap d (take (length rest - t.used) (drop t.used rest))
  handed_on c₀ scrap l more =
      let whole : take (length rest - t.used) (drop t.used rest) ≡ drop t.used rest = take_all (length rest - t.used) (drop t.used rest) (omega (arith, length-drop t.used rest)) in
      rw (whole, ap (λ (x : Report). x.card) turns, ap (λ (x : Report). x.used) turns) (one_more c₀ scrap c rest l more)

-- what is left where writing failed
pub stopped_at : (c₀ : Card) (s t : List ℕ) (d : Card) → Partly c₀ s d t → Stopped c₀ s d
unfolding Stopped
stopped_at c₀ s t d p = (t, p)

-- a call on all the bytes that there are is a call of the stream
a_call : (c : Card) (s : List ℕ) (k : Course) → Calls (received c s ascii_least).card (drop (received c s ascii_least).used s) k → Calls c s (adding (received c s ascii_least) k)
a_call c s k h =
    let unused : List ℕ = drop (received c s ascii_least).used s in
    let one : Calls c (s ++ []) (adding (received c s ascii_least) k) =
    calls.call s [] ascii_least (least_most (protocol_of c)) (subst (λ (l : List ℕ). Calls (received c s ascii_least).card l k) (sym (append-nil unused)) h) in
    subst (λ (l : List ℕ). Calls c l (adding (received c s ascii_least) k)) (append-nil s) one

-- bytes handed over, call by call, are a stream handed over to its end
pub handed_ends_at : (c d : Card) (s : List ℕ) → Handed c s d → EndsAt c s d
unfolding EndsAt
handed_ends_at c d s over = (ended c, calls.over, refl)
handed_ends_at c d s (call b l h) =
    let e : EndsAt (received c (b ∷ l) ascii_least).card (drop (received c (b ∷ l) ascii_least).used (b ∷ l)) d = handed_ends_at _ d _ h in
    (adding (received c (b ∷ l) ascii_least) e.0, a_call c (b ∷ l) e.0 e.1, e.2)

-- no bytes are left
pub handed_over : (c₀ c : Card) (scrap rest : List ℕ) → length rest ≡ 0 → Partly c₀ scrap c rest → Handed c₀ scrap c
handed_over c₀ c scrap [] h l = partly_over c₀ scrap c [] c l over
handed_over c₀ c scrap (b ∷ rest) h l = absurd (omega arith)

-- what holds anyway holds at an error
pub at_error : {T E P : Type 0} (r : Result T E) → P → OnErr r P
at_error (Ok x) p = tt
at_error (Err e) p = p
