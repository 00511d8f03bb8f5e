-- The reading that computes is the reading. Assumes nothing.
use mathlib.Core.Path.{◌≡◌, refl, sym, ap, ◌∙◌, subst}
use mathlib.Core.Bool.{Bool, true, false}
use mathlib.Core.List.{List, [], ◌∷◌, ◌++◌, cons≢nil}
use Prim.Native.Nat.{ℕ, zero, suc, ◌+◌, ◌≤◌}
use native.Mathlib.Omega.{arith}
use native.Mathlib.Nat.{add-zero}
use lib.ListN.{length, length-append, drop}
use lib.Seq.{append_snoc}
use Rattle.base.proofs.Tests.{not_both}
use Rattle.stream.specs.Format.{Format, Lawful, Begins}
use Rattle.stream.specs.Reading.{Yield, taking, Reads, takes, waits, skips}
use Rattle.stream.specs.Computed.{found, decide, read_from, read}
use Rattle.stream.proofs.Lists.{append_cons_ne_nil, drop_message}
use Rattle.stream.proofs.Reading.{no_message_in}

module _ (F : Format) where
  -- what is found is a message, and stands there
  found_yes : (s p : List ℕ) (x : ℕ) (m : List ℕ) → found F p s ≡ x ∷ m → (F.formed (x ∷ m) ≡ true) × ((v : List ℕ) × (p ++ s ≡ x ∷ m ++ v))
  unfolding found
  found_yes [] p x m e = absurd (cons≢nil (sym e))
  found_yes (b ∷ s) p x m e = by (F.formed (p ++ b ∷ [])) refl (found_yes s (p ++ b ∷ []) x m)
    where
      by : (w : Bool) → F.formed (p ++ b ∷ []) ≡ w → (found F (p ++ b ∷ []) s ≡ x ∷ m → (F.formed (x ∷ m) ≡ true) × ((v : List ℕ) × (p ++ b ∷ [] ++ s ≡ x ∷ m ++ v)))
          → (F.formed (x ∷ m) ≡ true) × ((v : List ℕ) × (p ++ b ∷ s ≡ x ∷ m ++ v))
      by true w ih = let q : p ++ b ∷ [] ≡ x ∷ m = rw w at e in (rw q at w, (s, sym (append_snoc p b s) ∙ rw q))
      by false w ih = let r = ih (rw w at e) in (r.0, (r.1.0, sym (append_snoc p b s) ∙ r.1.1))

  -- where none is found there is none
  found_no : (e p : List ℕ) (b : ℕ) (v : List ℕ) → found F p (b ∷ e ++ v) ≡ [] → F.formed (p ++ b ∷ e) ≡ true → ⊥
  unfolding found
  found_no [] p b v n w = append_cons_ne_nil p b [] (rw w at n)
  found_no (y ∷ e) p b v n w = by (F.formed (p ++ b ∷ [])) refl (found_no e (p ++ b ∷ []) y v)
    where
      by : (x : Bool) → F.formed (p ++ b ∷ []) ≡ x → (found F (p ++ b ∷ []) (y ∷ e ++ v) ≡ [] → F.formed (p ++ b ∷ [] ++ y ∷ e) ≡ true → ⊥) → ⊥
      by true x ih = append_cons_ne_nil p b [] (rw x at n)
      by false x ih = ih (rw x at n) (rw append_snoc w)

module _ (F : Format) (L : Lawful F) where
  found_none : (b : ℕ) (s : List ℕ) → found F [] (b ∷ s) ≡ [] → ¬ Begins F (b ∷ s)
  found_none b s n g =
      let m = L.begins g.0 g.3 in
      let h : b ∷ s ≡ F.start ∷ m.0 ∷ m.1 ++ g.1 = g.2 ∙ ap (λ (r : List ℕ). r ++ g.1) m.2 in
      found_no F (m.0 ∷ m.1) [] F.start g.1 (subst (λ (r : List ℕ). found F [] r ≡ []) h n) (rw m.2 at g.3)

  -- k bytes are passed over, and the rest is read as the document says
  read_from_lem : (s : List ℕ) (k i : ℕ) → k ≤ length s → Reads F (i + k) (drop k s) (read_from F k i s)
  unfolding read_from
  read_from_lem [] zero i h = rw add-zero (waits (no_message_in F L [] L.some_message) L.some_message)
  read_from_lem [] (suc k) i h = absurd (omega arith)
  read_from_lem (b ∷ s) (suc k) i h = subst (λ (n : ℕ). Reads F n (drop k s) (read_from F k (i + 1) s)) (omega arith) (read_from_lem s k (i + 1) (omega arith))
  read_from_lem (b ∷ s) zero i h = rw add-zero (here (found F [] (b ∷ s)) (F.viable (b ∷ s)) refl refl (read_from_lem s))
    where
      here : (m : List ℕ) (v : Bool) → found F [] (b ∷ s) ≡ m → F.viable (b ∷ s) ≡ v
          → ((k i : ℕ) → k ≤ length s → Reads F (i + k) (drop k s) (read_from F k i s))
          → Reads F i (b ∷ s) (decide m v i (b ∷ s) (λ k j. read_from F k j s))
      here (x ∷ m) v em ev ih =
          let r = found_yes F (b ∷ s) [] x m em in
          let d : drop (length m) s ≡ r.1.0 = drop_message (x ∷ m) (b ∷ s) r.1.0 r.1.1 in
          let l : length m ≤ length s = omega (arith, ap length r.1.1, length-append (x ∷ m) r.1.0) in
          let y : Yield = read_from F (length m) (i + 1) s in
          let e : i + 1 + length m ≡ i + length (x ∷ m) = omega arith in
          let q : Reads F (i + length (x ∷ m)) r.1.0 y = rw (e, d) at (ih (length m) (i + 1) l) in
          subst (λ (z : List ℕ). Reads F i z (taking i (x ∷ m) y)) (sym r.1.1) (takes (x ∷ m) r.1.0 r.0 q)
      here [] true em ev ih = waits (found_none b s em) ((L.viable_iff (b ∷ s)).0 ev)
      here [] false em ev ih = skips (found_none b s em) (λ c. not_both ((L.viable_iff (b ∷ s)).1 c) ev) (rw add-zero at (ih 0 (i + 1) (omega arith)))

  -- THE READING THAT COMPUTES
  pub read_reads : (s : List ℕ) → Reads F 0 s (read F s)
  unfolding read
  read_reads s = rw add-zero at (read_from_lem s 0 0 (omega arith))
