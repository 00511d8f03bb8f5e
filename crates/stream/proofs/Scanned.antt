-- A call as code sees it, without places: it is the same wherever it begins; byte by byte; and where more bytes come. These are the laws
-- for code that keeps the bytes pending and takes one byte at a time. Assumes nothing.
use mathlib.Core.Path.{◌≡◌, refl, ap, ◌∙◌}
use mathlib.Core.Logic.{◌⊎◌, inl, inr, ⊎_elim}
use mathlib.Core.Bool.{Bool, true, false}
use mathlib.Core.List.{List, [], ◌∷◌, ◌++◌, cons≢nil, nil≢cons}
use Prim.Native.Nat.{ℕ, suc, ◌+◌, ◌≤◌}
use native.Mathlib.Nat.{zero-add}
use native.Mathlib.Numerals.{one-add}
use native.Mathlib.Omega.{arith}
use lib.ListN.{length}
use Rattle.stream.specs.Format.{Format}
use Rattle.stream.specs.Reading.{Taken}
use Rattle.stream.specs.Automaton.{turn, feed}
use Rattle.stream.specs.Call.{Call, go_on, call}
use Rattle.stream.specs.Scanned.{Seen, messages_of, seen, further, scanned}
use Rattle.stream.proofs.Call.{call_turn, call_uses, call_onward, call_stays}

-- ---- bytes used before
pub further_none : (e : Seen) → further 0 e ≡ e
further_none e = rw zero-add

pub further_more : (m n : ℕ) (e : Seen) → further m (further n e) ≡ further (m + n) e
further_more m n e = let h : m + (n + e.used) ≡ m + n + e.used = omega arith in rw h

-- one byte was used before
abbrev next : Seen → Seen
next e = record { used = suc e.used; messages = e.messages; pending = e.pending }

next_further : (e : Seen) → next e ≡ further 1 e
next_further e = rw one-add

-- ---- PLACES make no difference to what is seen
turn_anywhere : (w v a : Bool) (i j : ℕ) (p : List ℕ) (b : ℕ) (rest : ℕ → List ℕ → Call) → ((k l : ℕ) (q : List ℕ) → seen (rest k q) ≡ seen (rest l q))
    → seen (go_on (turn w v a i p b).taken (turn w v a i p b) (rest (turn w v a i p b).place (turn w v a i p b).pending))
    ≡ seen (go_on (turn w v a j p b).taken (turn w v a j p b) (rest (turn w v a j p b).place (turn w v a j p b).pending))
turn_anywhere true v a i j p b rest ih = refl
turn_anywhere false true a i j p b rest ih = ap next (ih i j (p ++ b ∷ []))
turn_anywhere false false true i j p b rest ih = ap next (ih (i + length p) (j + length p) (b ∷ []))
turn_anywhere false false false i j p b rest ih = ap next (ih (i + length p + 1) (j + length p + 1) [])

pub seen_anywhere : (F : Format) (s : List ℕ) (i j : ℕ) (p : List ℕ) → seen (call F i p s) ≡ seen (call F j p s)
unfolding call feed
seen_anywhere F [] i j p = refl
seen_anywhere F (b ∷ s) i j p =
    turn_anywhere (F.formed (p ++ b ∷ [])) (F.viable (p ++ b ∷ [])) (F.viable (b ∷ [])) i j p b (λ k q. call F k q s) (λ k l q. seen_anywhere F s k l q)

-- what is seen of a call at any place
pub scanned_call : (F : Format) (s : List ℕ) (i : ℕ) (p : List ℕ) → seen (call F i p s) ≡ scanned F p s
unfolding scanned
scanned_call F s i p = seen_anywhere F s i 0 p

-- ---- byte by byte: p is pending and b comes, before s
module _ (F : Format) (p : List ℕ) (b : ℕ) (s : List ℕ) where
  -- they are a message
  pub scanned_takes : F.formed (p ++ b ∷ []) ≡ true → scanned F p (b ∷ s) ≡ record { used = 1; messages = (p ++ b ∷ []) ∷ []; pending = [] }
  unfolding scanned
  scanned_takes w = ap seen (call_turn F 0 p b s true _ _ w refl refl)

  -- they are a beginning
  pub scanned_keeps : F.formed (p ++ b ∷ []) ≡ false → F.viable (p ++ b ∷ []) ≡ true → scanned F p (b ∷ s) ≡ further 1 (scanned F (p ++ b ∷ []) s)
  unfolding scanned
  scanned_keeps w v = ap seen (call_turn F 0 p b s false true _ w v refl) ∙ ap next (scanned_call F s _ _) ∙ next_further _

  -- b spoils p, and is a beginning of its own
  pub scanned_restarts : F.formed (p ++ b ∷ []) ≡ false → F.viable (p ++ b ∷ []) ≡ false → F.viable (b ∷ []) ≡ true
      → scanned F p (b ∷ s) ≡ further 1 (scanned F (b ∷ []) s)
  unfolding scanned
  scanned_restarts w v a = ap seen (call_turn F 0 p b s false false true w v a) ∙ ap next (scanned_call F s _ _) ∙ next_further _

  -- b spoils p, and is no beginning
  pub scanned_drops : F.formed (p ++ b ∷ []) ≡ false → F.viable (p ++ b ∷ []) ≡ false → F.viable (b ∷ []) ≡ false
      → scanned F p (b ∷ s) ≡ further 1 (scanned F [] s)
  unfolding scanned
  scanned_drops w v a = ap seen (call_turn F 0 p b s false false false w v a) ∙ ap next (scanned_call F s _ _) ∙ next_further _

  -- they are no message: the call goes on from what the automaton leaves pending
  pub scanned_goes : F.formed (p ++ b ∷ []) ≡ false → scanned F p (b ∷ s) ≡ further 1 (scanned F (feed F 0 p b).pending s)
  unfolding feed
  scanned_goes w = go (F.viable (p ++ b ∷ [])) (F.viable (b ∷ [])) refl refl
    where
      go : (v a : Bool) → F.viable (p ++ b ∷ []) ≡ v → F.viable (b ∷ []) ≡ a
          → scanned F p (b ∷ s) ≡ further 1 (scanned F (turn (F.formed (p ++ b ∷ [])) (F.viable (p ++ b ∷ [])) (F.viable (b ∷ [])) 0 p b).pending s)
      go true a ev ea = rw (w, ev) (scanned_keeps w ev)
      go false true ev ea = rw (w, ev, ea) (scanned_restarts w ev ea)
      go false false ev ea = rw (w, ev, ea) (scanned_drops w ev ea)

-- no byte comes
pub scanned_end : (F : Format) (p : List ℕ) → scanned F p [] ≡ record { used = 0; messages = []; pending = p }
unfolding scanned call
scanned_end F p = refl

-- ---- more bytes come: z after x
messages_none : (ts : List Taken) → messages_of ts ≡ [] → ts ≡ []
messages_none [] h = refl
messages_none (t ∷ ts) h = absurd (cons≢nil h)

messages_some : (ts : List Taken) (m : List ℕ) (ms : List (List ℕ)) → messages_of ts ≡ m ∷ ms → (t : Taken) × (us : List Taken) × (ts ≡ t ∷ us)
messages_some [] m ms h = absurd (nil≢cons h)
messages_some (t ∷ ts) m ms h = (t, ts, refl)

-- x took nothing: the call goes on from what x left pending
pub scanned_onward : (F : Format) (x z p : List ℕ) → (scanned F p x).messages ≡ [] → scanned F p (x ++ z) ≡ further (length x) (scanned F (scanned F p x).pending z)
unfolding scanned
scanned_onward F x z p h =
    ap seen (call_onward F x z 0 p (messages_none (call F 0 p x).out.taken h))
    ∙ ap (further (length x)) (seen_anywhere F z (call F 0 p x).out.place 0 (call F 0 p x).out.pending)

-- x took a message: the call ends there
pub scanned_stays : (F : Format) (x z p m : List ℕ) (ms : List (List ℕ)) → (scanned F p x).messages ≡ m ∷ ms → scanned F p (x ++ z) ≡ scanned F p x
unfolding scanned
scanned_stays F x z p m ms h =
    let k = messages_some (call F 0 p x).out.taken m ms h in
    ap seen (call_stays F x z 0 p k.0 k.1 k.2)

-- ---- what comes out
-- no message, and all bytes are used; or one message, which is well-formed, and nothing is pending
pub scanned_cases : (F : Format) (p s : List ℕ)
    → (((scanned F p s).messages ≡ []) × ((scanned F p s).used ≡ length s))
    ⊎ ((m : List ℕ) × (F.formed m ≡ true) × ((scanned F p s).messages ≡ m ∷ []) × ((scanned F p s).pending ≡ []) × ((scanned F p s).used ≤ length s))
unfolding scanned
scanned_cases F p s = ⊎_elim
    (λ n. inl (ap messages_of n.none, n.all))
    (λ o. inr (o.message.bytes, o.formed, ap messages_of o.one, o.after, o.within))
    (call_uses F s 0 p)
