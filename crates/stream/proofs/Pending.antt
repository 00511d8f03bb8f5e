-- What is pending stays a beginning: after a byte, after bytes, after a call. Assumes nothing.
use mathlib.Core.Path.{◌≡◌, refl}
use mathlib.Core.Bool.{Bool, true, false}
use mathlib.Core.List.{List, [], ◌∷◌, ◌++◌}
use Prim.Native.Nat.{ℕ}
use Rattle.stream.specs.Format.{Format, Lawful}
use Rattle.stream.specs.Reading.{Taken, Yield}
use Rattle.stream.specs.Automaton.{turn, feed, feed_all}
use Rattle.stream.specs.Call.{Call, go_on, call, call_on}
use Rattle.stream.specs.Scanned.{scanned}
use Rattle.stream.proofs.Reading.{empty_viable}

module _ (F : Format) (L : Lawful F) where
  turn_viable : (w v a : Bool) (i : ℕ) (p : List ℕ) (b : ℕ) → F.viable (p ++ b ∷ []) ≡ v → F.viable (b ∷ []) ≡ a → F.viable (turn w v a i p b).pending ≡ true
  turn_viable true v a i p b ev ea = empty_viable F L
  turn_viable false true a i p b ev ea = ev
  turn_viable false false true i p b ev ea = ea
  turn_viable false false false i p b ev ea = empty_viable F L

  -- after a byte, whatever was pending before it
  pub feed_viable : (i : ℕ) (p : List ℕ) (b : ℕ) → F.viable (feed F i p b).pending ≡ true
  unfolding feed
  feed_viable i p b = turn_viable (F.formed (p ++ b ∷ [])) (F.viable (p ++ b ∷ [])) (F.viable (b ∷ [])) i p b refl refl

  -- after bytes
  pub pending_viable : (s : List ℕ) (i : ℕ) (p : List ℕ) → F.viable p ≡ true → F.viable (feed_all F i p s).pending ≡ true
  unfolding feed_all
  pending_viable [] i p v = v
  pending_viable (b ∷ s) i p v = pending_viable s (feed F i p b).place (feed F i p b).pending (feed_viable i p b)

  -- after a call
  go_on_viable : (y : Yield) (c : Call) (ts : List Taken) → F.viable y.pending ≡ true → F.viable c.out.pending ≡ true → F.viable (go_on ts y c).out.pending ≡ true
  go_on_viable y c [] h k = k
  go_on_viable y c (t ∷ ts) h k = h

  pub call_viable : (s : List ℕ) (i : ℕ) (p : List ℕ) → F.viable p ≡ true → F.viable (call F i p s).out.pending ≡ true
  unfolding call
  call_viable [] i p h = h
  call_viable (b ∷ s) i p h =
      let y : Yield = feed F i p b in
      let v : F.viable y.pending ≡ true = feed_viable i p b in
      go_on_viable y (call_on F y s) y.taken v (call_viable s y.place y.pending v)

  pub scanned_viable : (p s : List ℕ) → F.viable p ≡ true → F.viable (scanned F p s).pending ≡ true
  unfolding scanned
  scanned_viable p s h = call_viable s 0 p h
