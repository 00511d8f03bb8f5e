-- What comes of a stream where nothing is pending before is what comes of serving the messages of the reading, for any protocol that comes as one.
-- Assumes nothing.
use mathlib.Core.Path.{◌≡◌, refl, sym, ap, ◌∙◌}
use mathlib.Core.Bool.{Bool, true, false}
use mathlib.Core.List.{List, [], ◌∷◌, ◌++◌}
use Prim.Native.Nat.{ℕ, ◌+◌}
use lib.ListN.{length}
use Rattle.base.specs.Choice.{pick}
use Rattle.stream.specs.Format.{Format, Lawful}
use Rattle.stream.specs.Reading.{Yield, taking}
use Rattle.stream.specs.Reading as Read
use Rattle.stream.specs.Automaton.{turn, feed, feed_all}
use Rattle.stream.specs.Scanned.{messages_of}
use Rattle.stream.proofs.Pending.{feed_viable}
use Rattle.stream.proofs.Reading.{empty_viable}
use Rattle.pending.specs.declared.Pending.{Pending}
use Rattle.pending.specs.Held.{held, Sized}
use Rattle.pending.specs.Scanning.{Follows}
use Rattle.pending.proofs.Laws.{held_emptied, sized_emptied}
use Rattle.card.specs.State.{with_pending}
use Rattle.card.specs.declared.state.Card.{Card}
use Rattle.turn.specs.Turn.{Received, card_after}
use Rattle.turn.specs.Stream.{Stream}
use Rattle.demands.specs.Calls.{Wire, Course, adding, message, served_all, besides}
use Rattle.demands.proofs.Course.{one, course}

-- ---- a byte of the reading
module _ (F : Format) where
  feed_takes : (i : ℕ) (h : List ℕ) (b : ℕ) → F.formed (h ++ b ∷ []) ≡ true → feed F i h b ≡ taking i (h ++ b ∷ []) (Read.waiting (i + length (h ++ b ∷ [])) [])
  unfolding feed
  feed_takes i h b e = rw e

  turn_none : (v a : Bool) (i : ℕ) (h : List ℕ) (b : ℕ) → ((turn false v a i h b).taken ≡ []) × ((turn false v a i h b).pending ≡ (turn false v a 0 h b).pending)
  turn_none true a i h b = (refl, refl)
  turn_none false true i h b = (refl, refl)
  turn_none false false i h b = (refl, refl)

  feed_none : (i : ℕ) (h : List ℕ) (b : ℕ) → F.formed (h ++ b ∷ []) ≡ false → ((feed F i h b).taken ≡ []) × ((feed F i h b).pending ≡ (feed F 0 h b).pending)
  unfolding feed
  feed_none i h b e = rw e (turn_none (F.viable (h ++ b ∷ [])) (F.viable (b ∷ [])) i h b)

-- ---- THE READING
-- the same came of it, but for the bytes pending, which are these
pub record Alike (k l : Course) (h : List ℕ) : Type 0 where
  pub outcomes : k.outcomes ≡ l.outcomes
  pub replies : k.replies ≡ l.replies
  pub state : besides k.card ≡ besides l.card
  pub pending : held k.card.port.pending ≡ h

-- the same was made of a message
pub record Agree (r t : Received) : Type 0 where
  pub outcome : r.outcome ≡ t.outcome
  pub reply : r.reply ≡ t.reply
  pub state : besides r.card ≡ besides t.card

agree_on : (r t u : Received) → Agree r t → Agree t u → Agree r u
agree_on r t u a e = record { outcome = a.outcome ∙ e.outcome; reply = a.reply ∙ e.reply; state = a.state ∙ e.state }

alike_add : (r t : Received) (k l : Course) (h : List ℕ) → Agree r t → Alike k l h → Alike (adding r k) (adding t l) h
alike_add r t k l h a e =
    record {
      outcomes = let o = a.outcome in let n = e.outcomes in cc;
      replies = let o = a.reply in let n = e.replies in cc;
      state = e.state;
      pending = e.pending;
    }

-- a format with its laws, a protocol of it, and the stream call that follows it: a message that is held is served as its bytes are, and by what the card
-- holds besides the bytes pending
module _ (P : Wire) (S : Stream) (L : Lawful P.format) (W : Follows P.format S.feeding)
    (takes : (c : Card) (q : Pending) → Sized q → P.format.formed (S.feeding.message q) ≡ true
    → (S.served c q ≡ P.served c (S.feeding.message q)) × (S.reply c q ≡ P.reply c (S.feeding.message q)))
    (alone : (c : Card) (m : List ℕ) → (P.served c m ≡ P.served (besides c) m) × (P.reply c m ≡ P.reply (besides c) m)) where
  abbrev F : Format
  F = P.format

  serves : (c : Card) (q : Pending) → Sized q → F.formed (S.feeding.message q) ≡ true → Agree (one S c q) (message P c (S.feeding.message q))
  unfolding card_after
  serves c q size w = let e = takes c q size w in rw (e.0, e.1) (record { outcome = refl; reply = refl; state = refl })

  clears : (c : Card) (q : Pending) → Sized q → (held (one S c q).card.port.pending ≡ []) × Sized (one S c q).card.port.pending
  unfolding card_after
  clears c q size = (held_emptied q, sized_emptied q size)

  fair : (c d : Card) (m : List ℕ) → besides c ≡ besides d → Agree (message P c m) (message P d m)
  unfolding card_after
  fair c d m e =
      let x = alone c m in
      let y = alone d m in
      rw (x.0, x.1, y.0, y.1)
      (record {
        outcome = ap (λ (k : Card). (message P k m).outcome) e;
        reply = ap (λ (k : Card). (message P k m).reply) e;
        state = ap (λ (k : Card). besides (message P k m).card) e;
      })

  pub reads : (s : List ℕ) (i : ℕ) (h : List ℕ) (c d : Card) → held c.port.pending ≡ h → Sized c.port.pending → F.viable h ≡ true → besides c ≡ besides d
      → Alike (course S c s) (served_all P d (messages_of (feed_all F i h s).taken)) (feed_all F i h s).pending
  unfolding course feed_all served_all
  reads [] i h c d p size v e = record { outcomes = refl; replies = refl; state = e; pending = p }
  reads (b ∷ s) i h c d p size v e = by (S.feeding.ends c.port.pending b) refl (reads s)
    where
      q : Pending
      q = S.feeding.next c.port.pending b

      y : Yield
      y = feed F i h b

      viable_here : F.viable (held c.port.pending) ≡ true
      viable_here = rw p v

      -- whether the byte ends a message, as the format has it
      formed_here : S.feeding.ends c.port.pending b ≡ F.formed (h ++ b ∷ [])
      formed_here = W.formed c.port.pending b size viable_here ∙ ap (λ (l : List ℕ). F.formed (l ++ b ∷ [])) p

      -- what the rest of the stream comes to
      Rest : Type 0
      Rest = (i : ℕ) (h : List ℕ) (c d : Card) → held c.port.pending ≡ h → Sized c.port.pending → F.viable h ≡ true → besides c ≡ besides d
          → Alike (course S c s) (served_all P d (messages_of (feed_all F i h s).taken)) (feed_all F i h s).pending

      by : (t : Bool) → S.feeding.ends c.port.pending b ≡ t → Rest
          → Alike (pick t (adding (one S c q) (course S (one S c q).card s)) (course S (with_pending q c) s))
          (served_all P d (messages_of (y.taken ++ (feed_all F y.place y.pending s).taken))) (feed_all F y.place y.pending s).pending
      by true t ih =
          let w : F.formed (h ++ b ∷ []) ≡ true = sym formed_here ∙ t in
          let hq : S.feeding.message q ≡ h ++ b ∷ [] = W.message c.port.pending b size viable_here t ∙ ap (λ (l : List ℕ). l ++ b ∷ []) p in
          let sq : Sized q = W.sized c.port.pending b size in
          let a : Agree (one S c q) (message P c (h ++ b ∷ [])) = rw hq at (serves c q sq (rw hq w)) in
          let g : Agree (one S c q) (message P d (h ++ b ∷ [])) = agree_on _ _ _ a (fair c d (h ++ b ∷ []) e) in
          let n = clears c q sq in
          rw (feed_takes F i h b w)
          (alike_add _ _ _ _ _ g (ih (i + length (h ++ b ∷ [])) [] (one S c q).card (message P d (h ++ b ∷ [])).card n.0 n.1 (empty_viable F L) g.state))
      by false t ih =
          let w : F.formed (h ++ b ∷ []) ≡ false = sym formed_here ∙ t in
          let n = feed_none F i h b w in
          let hq : held q ≡ y.pending =
          W.waits c.port.pending b size viable_here t ∙ ap (λ (l : List ℕ). (feed F 0 l b).pending) p ∙ sym n.1 in
          rw n.0 (ih y.place y.pending (with_pending q c) d hq (W.sized c.port.pending b size) (feed_viable F L i h b) e)
