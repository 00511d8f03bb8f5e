-- The stream call: what it uses, and that calls which are given the unused rest again do the reading of the whole. Assumes nothing.
use mathlib.Core.Path.{◌≡◌, refl, sym, ap, ◌∙◌, subst}
use mathlib.Core.Logic.{◌⊎◌, inl, inr, ⊎_elim}
use mathlib.Core.Bool.{Bool, true, false}
use mathlib.Core.List.{List, [], ◌∷◌, ◌++◌, append-nil, cons≢nil, nil≢cons}
use Prim.Native.Nat.{ℕ, suc, ◌+◌, ◌≤◌}
use native.Mathlib.Nat.{zero-add, suc-add}
use native.Mathlib.Omega.{arith}
use lib.ListN.{length, length-append, drop, drop_of_length-le}
use Rattle.stream.specs.Format.{Format}
use Rattle.stream.specs.Reading.{Taken, Yield, waiting}
use Rattle.stream.specs.Automaton.{turn, feed, join, feed_all, feed_on}
use Rattle.stream.specs.Call.{Call, go_on, call, call_on, TakesNone, TakesOne, Session, over, calls}

-- ---- a call, and then the rest
abbrev Then : Format → ℕ → List ℕ → List ℕ → List ℕ → Call → Type 0
Then F i p x z c = feed_all F i p (x ++ z) ≡ join c.out (feed_on F c.out (drop c.used x ++ z))

-- the byte took a message, or none
then_go_on : (F : Format) (i : ℕ) (p : List ℕ) (b : ℕ) (x z : List ℕ) (c : Call) (ts : List Taken) → (feed F i p b).taken ≡ ts
    → Then F (feed F i p b).place (feed F i p b).pending x z c → Then F i p (b ∷ x) z (go_on ts (feed F i p b) c)
unfolding feed_all
then_go_on F i p b x z c [] e h = rw e h
then_go_on F i p b x z c (t ∷ ts) e h = refl

-- a call on x, where z is to come, and then what it left of x, and z, are all
pub call_then : (F : Format) (x z : List ℕ) (i : ℕ) (p : List ℕ)
    → feed_all F i p (x ++ z) ≡ join (call F i p x).out (feed_on F (call F i p x).out (drop (call F i p x).used x ++ z))
unfolding feed_all call
call_then F [] z i p = refl
call_then F (b ∷ x) z i p = then_go_on F i p b x z _ _ refl (call_then F x z (feed F i p b).place (feed F i p b).pending)

pub call_first : (F : Format) (s : List ℕ) (i : ℕ) (p : List ℕ)
    → feed_all F i p s ≡ join (call F i p s).out (feed_on F (call F i p s).out (drop (call F i p s).used s))
call_first F s i p = simp append-nil at (call_then F s [] i p)

-- THE SESSION yields what the automaton yields of the whole stream
pub session : (F : Format) {i : ℕ} {p s : List ℕ} {y : Yield} → Session F i p s y → y ≡ feed_all F i p s
unfolding feed_all
session F over = refl
session F {i} {p} (calls x z r) = ap (join (call F i p x).out) (session F r) ∙ sym (call_then F x z i p)

-- a call on one byte
go_on_byte : (ts : List Taken) (y : Yield) → y.taken ≡ ts → go_on ts y (record { used = 0; out = waiting y.place y.pending }) ≡ record { used = 1; out = y }
go_on_byte [] y e = rw e
go_on_byte (t ∷ ts) y e = refl

call_byte : (F : Format) (i : ℕ) (p : List ℕ) (b : ℕ) → call F i p (b ∷ []) ≡ record { used = 1; out = feed F i p b }
unfolding call
call_byte F i p b = go_on_byte (feed F i p b).taken (feed F i p b) refl

-- THERE IS A SESSION for each stream: a call for each byte
pub session_there : (F : Format) (s : List ℕ) (i : ℕ) (p : List ℕ) → Session F i p s (feed_all F i p s)
unfolding feed_all
session_there F [] i p = over
session_there F (b ∷ s) i p =
    subst (λ (c : Call). Session F c.out.place c.out.pending (drop c.used (b ∷ []) ++ s) (feed_on F (feed F i p b) s)
    → Session F i p (b ∷ s) (join c.out (feed_on F (feed F i p b) s)))
    (call_byte F i p b)
    (λ r. calls (b ∷ []) s r)
    (session_there F s (feed F i p b).place (feed F i p b).pending)

-- ---- what a call uses
-- after a byte that takes nothing, the bytes pending end one place further
turn_ends : (v a : Bool) (i : ℕ) (p : List ℕ) (b : ℕ) → (turn false v a i p b).place + length (turn false v a i p b).pending ≡ i + length p + 1
turn_ends true a i p b = omega (arith, length-append p (b ∷ []))
turn_ends false true i p b = omega arith
turn_ends false false i p b = omega arith

turn_none : (v a : Bool) (i : ℕ) (p : List ℕ) (b : ℕ) → (turn false v a i p b).taken ≡ []
turn_none true a i p b = refl
turn_none false true i p b = refl
turn_none false false i p b = refl

turn_uses : (F : Format) (w v a : Bool) (i : ℕ) (p : List ℕ) (b : ℕ) (s : List ℕ) (c : Call) → F.formed (p ++ b ∷ []) ≡ w
    → TakesNone s c ⊎ TakesOne F (turn w v a i p b).place (turn w v a i p b).pending s c
    → TakesNone (b ∷ s) (go_on (turn w v a i p b).taken (turn w v a i p b) c) ⊎ TakesOne F i p (b ∷ s) (go_on (turn w v a i p b).taken (turn w v a i p b) c)
turn_uses F true v a i p b s c w h =
    inr (record { message = record { place = i; bytes = p ++ b ∷ [] }; formed = w; one = refl; ends = omega (arith, length-append p (b ∷ [])); within = omega arith; after = refl })
turn_uses F false v a i p b s c w h = rw (turn_none v a i p b) (⊎_elim
    (λ n. inl (record { none = n.none; all = ap suc n.all }))
    (λ o. inr (record { message = o.message; formed = o.formed; one = o.one; ends = omega (arith, o.ends, turn_ends v a i p b); within = omega (arith, o.within); after = o.after }))
    h)

-- A CALL takes none and uses all, or takes one and uses the bytes up to its end
pub call_uses : (F : Format) (s : List ℕ) (i : ℕ) (p : List ℕ) → TakesNone s (call F i p s) ⊎ TakesOne F i p s (call F i p s)
unfolding call feed
call_uses F [] i p = inl (record { none = refl; all = refl })
call_uses F (b ∷ s) i p =
    turn_uses F (F.formed (p ++ b ∷ [])) (F.viable (p ++ b ∷ [])) (F.viable (b ∷ [])) i p b s _ refl (call_uses F s (feed F i p b).place (feed F i p b).pending)

-- ---- a call byte by byte: p is pending from place i on, and b comes, before s
pub call_feed : (F : Format) (i : ℕ) (p : List ℕ) (b : ℕ) (s : List ℕ)
    → call F i p (b ∷ s) ≡ go_on (feed F i p b).taken (feed F i p b) (call_on F (feed F i p b) s)
unfolding call
call_feed F i p b s = refl

-- the same, where the three tests are known
pub call_turn : (F : Format) (i : ℕ) (p : List ℕ) (b : ℕ) (s : List ℕ) (w v a : Bool)
    → F.formed (p ++ b ∷ []) ≡ w → F.viable (p ++ b ∷ []) ≡ v → F.viable (b ∷ []) ≡ a
    → call F i p (b ∷ s) ≡ go_on (turn w v a i p b).taken (turn w v a i p b) (call_on F (turn w v a i p b) s)
unfolding call feed
call_turn F i p b s w v a ew ev ea = rw (ew, ev, ea)

-- a call that takes nothing uses all,
pub call_used : (F : Format) (s : List ℕ) (i : ℕ) (p : List ℕ) → (call F i p s).out.taken ≡ [] → (call F i p s).used ≡ length s
call_used F s i p h = ⊎_elim (λ n. n.all) (λ o. absurd (cons≢nil (sym o.one ∙ h))) (call_uses F s i p)

join_nothing : (y : Yield) → join y (waiting y.place y.pending) ≡ y
join_nothing y i = record { taken = append-nil y.taken i; place = y.place; pending = y.pending }

-- and yields what the automaton yields of its bytes
pub call_none : (F : Format) (s : List ℕ) (i : ℕ) (p : List ℕ) → (call F i p s).out.taken ≡ [] → feed_all F i p s ≡ (call F i p s).out
unfolding feed_all
call_none F s i p h =
    let u : length s ≤ (call F i p s).used = omega (arith, call_used F s i p h) in
    rw (drop_of_length-le s u) at (call_first F s i p) ∙ join_nothing (call F i p s).out

-- ---- a call that goes on with more bytes
-- the call on x took nothing: with z after it, it is the call on z from what x left pending
abbrev Onward : Format → ℕ → List ℕ → List ℕ → List ℕ → Call → Type 0
Onward F i p x z c = call F i p (x ++ z) ≡ record { used = length x + (call_on F c.out z).used; out = (call_on F c.out z).out }

onward_go_on : (F : Format) (i : ℕ) (p : List ℕ) (b : ℕ) (x z : List ℕ) (c : Call) (ts : List Taken) → (feed F i p b).taken ≡ ts
    → (c.out.taken ≡ [] → Onward F (feed F i p b).place (feed F i p b).pending x z c)
    → (go_on ts (feed F i p b) c).out.taken ≡ [] → Onward F i p (b ∷ x) z (go_on ts (feed F i p b) c)
unfolding call
onward_go_on F i p b x z c [] e ih h = rw (e, ih h, suc-add)
onward_go_on F i p b x z c (t ∷ ts) e ih h = absurd (cons≢nil (sym e ∙ h))

pub call_onward : (F : Format) (x z : List ℕ) (i : ℕ) (p : List ℕ) → (call F i p x).out.taken ≡ []
    → call F i p (x ++ z) ≡ record { used = length x + (call_on F (call F i p x).out z).used; out = (call_on F (call F i p x).out z).out }
unfolding call
call_onward F [] z i p h = rw zero-add
call_onward F (b ∷ x) z i p h =
    onward_go_on F i p b x z _ _ refl (call_onward F x z (feed F i p b).place (feed F i p b).pending) h

-- the call on x took a message: it is the same with anything after x
same_go_on : (y : Yield) (c d : Call) (ts : List Taken) → ((t : Taken) (us : List Taken) → c.out.taken ≡ t ∷ us → d ≡ c)
    → (t : Taken) (us : List Taken) → (go_on ts y c).out.taken ≡ t ∷ us → go_on ts y d ≡ go_on ts y c
same_go_on y c d [] ih t us h = rw (ih t us h)
same_go_on y c d (t' ∷ ts) ih t us h = refl

pub call_stays : (F : Format) (x z : List ℕ) (i : ℕ) (p : List ℕ) (t : Taken) (ts : List Taken) → (call F i p x).out.taken ≡ t ∷ ts
    → call F i p (x ++ z) ≡ call F i p x
unfolding call
call_stays F [] z i p t ts h = absurd (nil≢cons h)
call_stays F (b ∷ x) z i p t ts h =
    same_go_on (feed F i p b) _ _ (feed F i p b).taken (call_stays F x z (feed F i p b).place (feed F i p b).pending) t ts h
