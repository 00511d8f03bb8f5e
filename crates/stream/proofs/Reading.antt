-- The automaton does the left-to-right reading. Where a byte spoils what was pending, the reading goes over the bytes pending one by one:
-- none but the first is the start byte, so none begins a message, and the automaton may drop them at once. Assumes nothing.
use mathlib.Core.Path.{◌≡◌, refl, sym, ap, ◌∙◌, subst}
use mathlib.Core.Logic.{◌≢◌, ⊎_elim}
use mathlib.Core.Bool.{Bool, true, false}
use mathlib.Core.List.{List, [], ◌∷◌, ◌++◌, append_assoc, append-nil, cons≢nil, head-eq_of_cons-eq, tail-eq_of_cons-eq}
use Prim.Native.Nat.{ℕ, ◌+◌}
use native.Mathlib.Omega.{arith}
use native.Mathlib.Nat.{add-zero}
use lib.ListN.{length}
use lib.Seq.{append_snoc}
use Rattle.base.proofs.Tests.{not_both, is_false}
use Rattle.stream.specs.Format.{Format, Lawful, CouldBecome, Begins, Without}
use Rattle.stream.specs.Reading.{Yield, Reads, takes, waits, skips}
use Rattle.stream.specs.Automaton.{turn, feed, join, feed_all, feed_on}
use Rattle.stream.proofs.Lists.{cut, append_cons_ne_nil}

-- what z and then b make a message could become one
pub could_by : (F : Format) (s z : List ℕ) (b : ℕ) → F.formed ((s ++ z) ++ b ∷ []) ≡ true → CouldBecome F s
could_by F s [] b e = (b, [], rw (append-nil s) at e)
could_by F s (y ∷ z) b e = (y, z ++ b ∷ [], rw (append_assoc s (y ∷ z) (b ∷ [])) at e)

module _ (F : Format) (L : Lawful F) where
  -- nothing pending is a beginning
  pub empty_viable : F.viable [] ≡ true
  empty_viable = (L.viable_iff []).1 L.some_message

  -- no message begins in a beginning
  pub no_message_in : (p : List ℕ) → CouldBecome F p → ¬ Begins F p
  no_message_in p c g =
      append_cons_ne_nil g.1 c.0 c.1 (L.prefix_free g.0 (g.1 ++ c.0 ∷ c.1) g.3 (rw (g.2, append_assoc) at c.2))

  could_prefix : (p s : List ℕ) → CouldBecome F (p ++ s) → CouldBecome F p
  could_prefix p [] c = (c.0, c.1, rw append-nil at c.2)
  could_prefix p (b ∷ s) c = (b, s ++ c.0 ∷ c.1, rw (append_assoc p (b ∷ s)) at c.2)

  -- p and b are no beginning: nor is what goes on from them
  no_could_at : (p : List ℕ) (b : ℕ) (s : List ℕ) → F.viable (p ++ b ∷ []) ≡ false → ¬ CouldBecome F (p ++ b ∷ s)
  no_could_at p b s v c = not_both ((L.viable_iff (p ++ b ∷ [])).1 (could_prefix (p ++ b ∷ []) s (rw append_snoc c))) v

  -- and if they are no message either, and p was a beginning, then no message begins where p does
  no_message_at : (p : List ℕ) (b : ℕ) (s : List ℕ) → CouldBecome F p → F.formed (p ++ b ∷ []) ≡ false → F.viable (p ++ b ∷ []) ≡ false
      → ¬ Begins F (p ++ b ∷ s)
  no_message_at p b s c w v g = ⊎_elim
      (λ r. no_message_in p c (g.0, r.0, r.1, g.3))
      (λ r. past r.0 r.1 r.2 (head-eq_of_cons-eq r.3))
      (cut g.0 g.1 p (b ∷ s) (sym g.2))
    where
      past : (y : ℕ) (e : List ℕ) → g.0 ≡ p ++ y ∷ e → y ≡ b → ⊥
      past y [] h k = not_both (rw (h, k) at g.3) w
      past y (z ∷ e) h k = not_both ((L.viable_iff (p ++ b ∷ [])).1 (z, e, rw append_snoc (rw (h, k) at g.3))) v

  -- a byte that is not the start byte begins nothing
  other_byte : (x : ℕ) (s : List ℕ) → x ≢ F.start → ¬ Begins F (x ∷ s)
  other_byte x s n g =
      let m = L.begins g.0 g.3 in
      n (head-eq_of_cons-eq (g.2 ∙ ap (λ (r : List ℕ). r ++ g.1) m.2))

  other_byte_could : (x : ℕ) (s : List ℕ) → x ≢ F.start → ¬ CouldBecome F (x ∷ s)
  other_byte_could x s n c = n (head-eq_of_cons-eq (L.begins (x ∷ s ++ c.0 ∷ c.1) c.2).2)

  -- the reading goes over bytes none of which is the start byte
  skip_others : (i : ℕ) (u s : List ℕ) {y : Yield} → Without F.start u → Reads F (i + length u) s y → Reads F i (u ++ s) y
  skip_others i [] s n r = rw add-zero at r
  skip_others i (x ∷ u) s {y} n r =
      skips (other_byte x (u ++ s) n.0) (other_byte_could x (u ++ s) n.0)
      (skip_others (i + 1) u s n.1 (subst (λ (k : ℕ). Reads F k s y) (omega arith) r))

  -- the reading goes over p, which was a beginning, once b has spoiled it
  skip_spoiled : (i : ℕ) (p : List ℕ) (b : ℕ) (s : List ℕ) {y : Yield} → F.viable p ≡ true
      → F.formed (p ++ b ∷ []) ≡ false → F.viable (p ++ b ∷ []) ≡ false
      → Reads F (i + length p) (b ∷ s) y → Reads F i (p ++ b ∷ s) y
  skip_spoiled i [] b s c w v r = rw add-zero at r
  skip_spoiled i (x ∷ p) b s {y} c w v r =
      skips (no_message_at (x ∷ p) b s ((L.viable_iff (x ∷ p)).0 c) w v) (no_could_at (x ∷ p) b s v)
      (skip_others (i + 1) p (b ∷ s) (L.inner x p c) (subst (λ (k : ℕ). Reads F k (b ∷ s) y) (omega arith) r))

  -- a byte alone is no message
  one_byte : (b : ℕ) → F.formed (b ∷ []) ≡ true → ⊥
  one_byte b w = cons≢nil (sym (tail-eq_of_cons-eq (L.begins (b ∷ []) w).2))

  -- the reading goes over a byte that is no beginning
  skip_byte : (i : ℕ) (b : ℕ) (s : List ℕ) {y : Yield} → F.viable (b ∷ []) ≡ false → Reads F (i + 1) s y → Reads F i (b ∷ s) y
  skip_byte i b s v r = skips (no_message_at [] b s L.some_message (is_false _ (one_byte b)) v) (no_could_at [] b s v) r

  -- one turn of the automaton, by its three tests
  turn_reads : (s : List ℕ) → ((j : ℕ) (q : List ℕ) → F.viable q ≡ true → Reads F j (q ++ s) (feed_all F j q s))
      → (i : ℕ) (p : List ℕ) (b : ℕ) → F.viable p ≡ true
      → (w v a : Bool) → F.formed (p ++ b ∷ []) ≡ w → F.viable (p ++ b ∷ []) ≡ v → F.viable (b ∷ []) ≡ a
      → Reads F i (p ++ b ∷ s) (join (turn w v a i p b) (feed_on F (turn w v a i p b) s))
  turn_reads s ih i p b c true v a ew ev ea = rw (← append_snoc) (takes (p ++ b ∷ []) s ew (ih (i + length (p ++ b ∷ [])) [] empty_viable))
  turn_reads s ih i p b c false true a ew ev ea = rw append_snoc at (ih i (p ++ b ∷ []) ev)
  turn_reads s ih i p b c false false true ew ev ea = skip_spoiled i p b s c ew ev (ih (i + length p) (b ∷ []) ea)
  turn_reads s ih i p b c false false false ew ev ea =
      skip_spoiled i p b s c ew ev (skip_byte (i + length p) b s ea (ih (i + length p + 1) [] empty_viable))

  -- THE READING: the bytes pending, and those after them, are read as the document says
  pub reading_from : (s : List ℕ) (i : ℕ) (p : List ℕ) → F.viable p ≡ true → Reads F i (p ++ s) (feed_all F i p s)
  unfolding feed_all feed
  reading_from [] i p c = rw append-nil (waits (no_message_in p ((L.viable_iff p).0 c)) ((L.viable_iff p).0 c))
  reading_from (b ∷ s) i p c = turn_reads s (reading_from s) i p b c _ _ _ refl refl refl

  pub reading : (s : List ℕ) → Reads F 0 s (feed_all F 0 [] s)
  reading s = reading_from s 0 [] empty_viable
