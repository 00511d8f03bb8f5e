-- One stream call: it takes nothing exactly where the reading takes nothing, and else the first message of the reading, up to its end. Assumes nothing.
use mathlib.Core.Path.{◌≡◌, refl, sym, ap, subst, ◌∙◌}
use mathlib.Core.Logic.{◌⊎◌, inl, inr, ◌↔◌}
use mathlib.Core.Bool.{Bool, true, false, true≢false}
use mathlib.Core.List.Memᴰ
use mathlib.Core.List.{List, [], ◌∷◌, ◌++◌}
use Prim.Native.Nat.{ℕ, ◌+◌, ◌≤◌}
use native.Mathlib.Omega.{arith}
use borrow.Author.Tests.{le-ltb}
use lib.ListN.{length, drop, drop_of_length-le}
use Rattle.base.specs.Buffers.{rtu_least}
use Rattle.base.specs.Choice.{pick}
use Rattle.base.proofs.Tests.{not_both, pick_both, pick_yes}
use Rattle.stream.specs.Format.{Format, Lawful}
use Rattle.stream.specs.Reading.{Taken, Yield, Reads}
use Rattle.stream.specs.Automaton.{feed_all, feed_on}
use Rattle.stream.specs.Call.{Call, call, TakesNone, TakesOne}
use Rattle.stream.specs.Scanned.{Seen, messages_of, scanned, further}
use Rattle.stream.specs.Once.{Among}
use Rattle.stream.specs.Theorem.{StreamTheorem}
use Rattle.answers.specs.declared.Answer.{Answer}
use Rattle.service.specs.Serving.{Served}
use Rattle.pending.specs.declared.Pending.{Pending}
use Rattle.pending.specs.Held.{held, Sized}
use Rattle.pending.specs.Scanning.{Scan, Feeding, scan_from, seen_in, Follows}
use Rattle.pending.proofs.Scans.{scan_sized, scan_follows}
use Rattle.pending.proofs.Laws.{held_emptied}
use Rattle.card.specs.Outcome.{outcome_number}
use Rattle.card.specs.declared.state.Card.{Card}
use Rattle.card.specs.declared.outcome.Outcome.TheVariants as Outcomes
use Rattle.turn.specs.Turn.{Received, waiting, card_after, answered}
use Rattle.turn.specs.Stream.{Stream, by_scan}
use Rattle.nfo_port.specs.Receive.{nfo_stream}
use Rattle.ascii_port.specs.Receive.{ascii_stream}
use Rattle.rtu.specs.Rtu.{frame_holds}
use Rattle.rtu_port.specs.Receive.{rtu_received}
use Rattle.receive.specs.Receive.{received}
use Rattle.receive.proofs.Laws.{by_rtu, enough_rtu}
use Rattle.card.specs.State.{protocol_of}
use Rattle.demands.specs.Calls.{LongEnough, Wire, nfo_serial, modbus_ascii, Speaks, besides, TakesFirst}
use Rattle.demands.specs.Orders.{scan_of}
use Rattle.demands.specs.Kept.{Sound}
use Rattle.demands.specs.Demand1.{number_in, TakesIt, Only15Then, TakesTheFirst}
use Rattle.demands.proofs.Streamed.{Streamed, nfo_streamed, ascii_streamed}
use Rattle.demands.proofs.Leaving.{answer_most}

-- ---- a list with something in it is not empty
abbrev Some : {A : Type 0} → List A → Type 0
Some [] = ⊥
Some (x ∷ l) = Unit {0}

some : {A : Type 0} (x : A) (l : List A) → x ∷ l ≡ [] → ⊥
some {A} x l e = subst (λ (m : List A). Some m) e tt

picks_none : (t : Bool) (m : List ℕ) → pick t (m ∷ []) [] ≡ [] → t ≡ false
picks_none true m e = absurd (some m [] e)
picks_none false m e = refl

-- the first of a list
abbrev first_or : {A : Type 0} → A → List A → A
first_or x [] = x
first_or x (y ∷ l) = y

picks_one : (t : Bool) (m n : List ℕ) → pick t (m ∷ []) [] ≡ n ∷ [] → (t ≡ true) × (m ≡ n)
picks_one true m n e = (refl, ap (first_or []) e)
picks_one false m n e = absurd (some n [] (sym e))

-- ---- what the scan takes is what the reading takes first
module _ (F : Format) (L : Lawful F) (T : StreamTheorem F) (G : Feeding) (W : Follows F G) (p : Pending) (s : List ℕ) (y : Yield) (size : Sized p) (v : F.viable (held p) ≡ true)
    (r : Reads F 0 (held p ++ s) y) where
  abbrev k : Call
  k = call F 0 (held p) s

  abbrev scan : Scan
  scan = scan_from G p 0 s

  -- the messages of the whole reading: those of the call, then those of what it did not use
  whole : y.taken ≡ k.out.taken ++ (feed_on F k.out (drop k.used s)).taken
  whole = ap (λ (z : Yield). z.taken) (T.one_result 0 (held p ++ s) y (feed_all F 0 (held p) s) r (T.automaton_goes_on 0 (held p) s v) ∙ T.call_first 0 (held p) s)

  same : seen_in G scan ≡ further 0 (scanned F (held p) s)
  same = scan_follows F L G W s p 0 size v

  messages : pick scan.taken (G.message scan.pending ∷ []) [] ≡ messages_of k.out.taken
  unfolding scanned
  messages = ap (λ (e : Seen). e.messages) same

  -- a call that takes none has used all, so the reading takes none
  none : TakesNone s k → y.taken ≡ []
  unfolding feed_all
  none n =
      let all : length s ≤ length s = omega arith in
      let left : drop k.used s ≡ [] = ap (λ (m : ℕ). drop m s) n.all ∙ drop_of_length-le s all in
      whole ∙ ap (λ (l : List Taken). l ++ (feed_on F k.out (drop k.used s)).taken) n.none ∙ ap (λ (x : List ℕ). (feed_on F k.out x).taken) left

  one : (o : TakesOne F 0 (held p) s k) → y.taken ≡ o.message ∷ (feed_on F k.out (drop k.used s)).taken
  one o = whole ∙ ap (λ (l : List Taken). l ++ (feed_on F k.out (drop k.used s)).taken) o.one

  pub scan_none : (scan.taken ≡ false) ↔ (y.taken ≡ [])
  scan_none = go (T.call_uses 0 (held p) s)
    where
      go : TakesNone s k ⊎ TakesOne F 0 (held p) s k → (scan.taken ≡ false) ↔ (y.taken ≡ [])
      go (inl n) = (λ _. none n, λ _. picks_none _ _ (messages ∙ ap messages_of n.none))
      go (inr o) =
          let yes : scan.taken ≡ true = (picks_one _ _ o.message.bytes (messages ∙ ap messages_of o.one)).0 in
          (λ e. absurd (not_both yes e), λ e. absurd (some _ _ (sym (one o) ∙ e)))

  -- the first message of the reading: it is held then, and the bytes used end where it ends
  pub record First (t : Taken) : Type 0 where
    pub taken : scan.taken ≡ true
    pub message : G.message scan.pending ≡ t.bytes
    pub formed : F.formed t.bytes ≡ true
    pub used : length (held p) + scan.used ≡ t.place + length t.bytes

  pub scan_first : (t : Taken) (ts : List Taken) → y.taken ≡ t ∷ ts → First t
  unfolding scanned
  scan_first t ts e = go (T.call_uses 0 (held p) s)
    where
      of_one : (o : TakesOne F 0 (held p) s k) → First o.message
      of_one o =
          let m = picks_one _ _ o.message.bytes (messages ∙ ap messages_of o.one) in
          let n : scan.used ≡ 0 + k.used = ap (λ (x : Seen). x.used) same in
          record { taken = m.0; message = m.1; formed = o.formed; used = omega (arith, n, o.ends) }

      go : TakesNone s k ⊎ TakesOne F 0 (held p) s k → First t
      go (inl n) = absurd (some t ts (sym e ∙ none n))
      go (inr o) = let same-one : o.message ≡ t = ap (first_or t) (sym (one o) ∙ e) in subst First same-one (of_one o)

-- what is taken first is well-formed
pub first_formed : (P : Wire) → StreamTheorem P.format → (c : Card) (bytes : List ℕ) (t : Taken) → TakesFirst P c bytes t → P.format.formed t.bytes ≡ true
first_formed P T c bytes t (y, ts, r, e) = (T.taken_there 0 _ y r t (subst (λ (l : List Taken). Among t l) (sym e) (Memᴰ.head refl))).0

-- what is pending could become a message of this protocol
abbrev Begun : Wire → Card → Type 0
Begun P c = Sized c.port.pending × (P.format.viable (held c.port.pending) ≡ true)

-- ---- the number is 15, or the message is served
of_scan : (t : Bool) (a : Answer) (x y : Received) → x.outcome ≡ Outcomes.Served a → y.outcome ≡ Outcomes.NothingTaken → (number_in (pick t x y) ≡ 15) ↔ (t ≡ false)
of_scan true a x y e f = let n : number_in x ≡ outcome_number (Outcomes.Served a) = ap outcome_number e in (λ h. absurd (omega (arith, answer_most a, n, h)), λ h. absurd (true≢false h))
of_scan false a x y e f = (λ _. refl, λ _. ap outcome_number f)

module _ (P : Wire) (S : Stream) (H : Streamed P S) (c : Card) (speaks : Speaks P c) (begun : Begun P c) (bytes : List ℕ) (room : ℕ) (h : LongEnough c room) (y : Yield)
    (r : Reads P.format 0 (held c.port.pending ++ bytes) y) where
  abbrev seen : Scan
  seen = scan_of S.feeding c bytes

  called : received c bytes room ≡ by_scan S c seen
  called = H.calls c bytes room speaks ∙ simp (le-ltb room S.least (H.enough c room speaks h))

  pub only_15 : (number_in (received c bytes room) ≡ 15) ↔ (y.taken ≡ [])
  unfolding waiting
  only_15 =
      let n = of_scan seen.taken (S.served c seen.pending).answer _ (waiting c seen) refl refl in
      let k = scan_none P.format H.lawful H.theory S.feeding H.follows c.port.pending bytes y begun.0 begun.1 r in
      let i = ap (λ (z : Received). number_in z) called in
      (λ q. k.0 (n.0 (sym i ∙ q)), λ q. i ∙ n.1 (k.1 q))

  pub takes_it : (t : Taken) (ts : List Taken) → y.taken ≡ t ∷ ts → TakesIt P c t (received c bytes room)
  unfolding card_after
  takes_it t ts e =
      let f = scan_first P.format H.lawful H.theory S.feeding H.follows c.port.pending bytes y begun.0 begun.1 r t ts e in
      let q : Pending = seen.pending in
      let size : Sized q = scan_sized P.format H.lawful S.feeding H.follows bytes c.port.pending 0 begun.0 in
      let served = H.takes c q size (rw f.message f.formed) in
      let is : received c bytes room ≡ answered c.identity q seen.used (S.served c q) (S.reply c q) = called ∙ sym (pick_yes seen.taken _ (waiting c seen) _ f.taken refl) in
      let at : (S.served c q ≡ P.served c t.bytes) × (S.reply c q ≡ P.reply c t.bytes) = rw f.message at served in
      subst (TakesIt P c t) (sym is)
      (record {
        outcome = ap (λ (s : Served). Outcomes.Served s.answer) at.0;
        reply = at.1;
        state = ap (λ (s : Served). besides (card_after c.identity c.port.pending s)) at.0;
        cleared = held_emptied q;
        used = f.used;
      })

-- ---- both protocols, of every sound card
nfo_begun : (c : Card) → Sound c → Speaks nfo_serial c → Begun nfo_serial c
nfo_begun c sound p = (sound.pending.sized, sound.pending.nfo p)

ascii_begun : (c : Card) → Sound c → Speaks modbus_ascii c → Begun modbus_ascii c
ascii_begun c sound p = (sound.pending.sized, sound.pending.ascii p)

pub nfo_nothing : Only15Then nfo_serial
nfo_nothing c sound p = only_15 nfo_serial nfo_stream nfo_streamed c p (nfo_begun c sound p)

pub ascii_nothing : Only15Then modbus_ascii
ascii_nothing c sound p = only_15 modbus_ascii ascii_stream ascii_streamed c p (ascii_begun c sound p)

pub nfo_takes : TakesTheFirst nfo_serial
nfo_takes c sound p bytes room h t (y, ts, r, e) = takes_it nfo_serial nfo_stream nfo_streamed c p (nfo_begun c sound p) bytes room h y r t ts e

pub ascii_takes : TakesTheFirst modbus_ascii
ascii_takes c sound p bytes room h t (y, ts, r, e) = takes_it modbus_ascii ascii_stream ascii_streamed c p (ascii_begun c sound p) bytes room h y r t ts e

-- ---- "An RTU call uses all, save at 10"
pub rtu_used : (c : Card) → protocol_of c ≡ 1 → (frame : List ℕ) (room : ℕ) → LongEnough c room → (received c frame room).used ≡ length frame
unfolding rtu_received
rtu_used c p frame room h =
    ap (λ (r : Received). r.used) (by_rtu c frame room p) ∙ simp (le-ltb room rtu_least (enough_rtu c room p h)) (pick_both (λ (r : Received). r.used ≡ length frame) (frame_holds frame) (λ _. refl) (λ _. refl))
