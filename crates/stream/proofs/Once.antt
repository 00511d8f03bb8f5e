-- What a reading takes and what it leaves pending: it has one result, what is taken is there, and each message is taken once. Each law goes
-- over the reading, constructor by constructor. Assumes nothing.
use mathlib.Core.Path.{◌≡◌, refl, sym, ap, ◌∙◌}
use mathlib.Core.Logic.{◌≢◌, ◌⊎◌, inl, inr, ⊎_elim}
use mathlib.Core.Bool.{true}
use mathlib.Core.List.Memᴰ
use mathlib.Core.List.{List, [], ◌∷◌, ◌++◌, append_assoc, append-nil, append_cancel_left, cons≢nil, head-eq_of_cons-eq, tail-eq_of_cons-eq}
use Prim.Native.Nat.{ℕ, ◌+◌, ◌≤◌, ◌<◌}
use native.Mathlib.Omega.{arith}
use borrow.Author.Tests.{eq-eqb, ne_eqb}
use lib.ListN.{length, length-append}
use lib.Seq.{append_snoc}
use Rattle.stream.specs.Format.{Format, Lawful, CouldBecome}
use Rattle.stream.specs.Reading.{Taken, Yield, Reads, takes, waits, skips}
use Rattle.stream.specs.Once.{Among, starting, Once, LastOf, Apart}
use Rattle.stream.proofs.Lists.{cut, without_mid}

-- ---- counting the messages that begin at a place
starting_other : (i j : ℕ) (m : List ℕ) (ts : List Taken) → i ≢ j → starting j (record { place = i; bytes = m } ∷ ts) ≡ starting j ts
unfolding starting
starting_other i j m ts n = rw (ne_eqb i j n)

starting_this : (i : ℕ) (m : List ℕ) (ts : List Taken) → starting i ts ≡ 0 → starting i (record { place = i; bytes = m } ∷ ts) ≡ 1
unfolding starting
starting_this i m ts e = rw (eq-eqb i i refl, e)

-- messages that lie later lie apart from an earlier place, too
pub apart_from : (i j : ℕ) (ts : List Taken) → i ≤ j → Apart j ts → Apart i ts
unfolding Apart
apart_from i j [] h k = tt
apart_from i j (t ∷ ts) h k = (omega arith, k.1)

module _ (F : Format) (L : Lawful F) where
  -- one message at one place
  same_message : (m v m' v' : List ℕ) → F.formed m ≡ true → F.formed m' ≡ true → m ++ v ≡ m' ++ v' → m ≡ m'
  same_message m v m' v' w w' h = ⊎_elim
      (λ r. let z : r.0 ≡ [] = L.prefix_free m r.0 w (rw r.1 at w') in sym (rw (r.1, z) (append-nil m)))
      (λ r. absurd (cons≢nil (L.prefix_free m' (r.0 ∷ r.1) w' (rw r.2 at w))))
      (cut m v m' v' h)

  -- THE READING HAS ONE RESULT
  pub unique : {i i' : ℕ} {s s' : List ℕ} {y y' : Yield} → Reads F i s y → Reads F i' s' y' → i ≡ i' → s ≡ s' → y ≡ y'
  unique {i} {i'} (takes m s w r) (takes m' s' w' r') e h =
      let k : m ≡ m' = same_message m s m' s' w w' h in
      let q : s ≡ s' = append_cancel_left m' s s' (rw k at h) in
      let ih = unique r r' (cc) q in
      cc
  unique (takes m s w r) (waits n c) e h = absurd (n (m, s, sym h, w))
  unique (takes m s w r) (skips n c r') e h = absurd (n (m, s, sym h, w))
  unique (waits n c) (takes m s w r) e h = absurd (n (m, s, h, w))
  unique (waits n c) (waits n' c') e h = cc
  unique (waits n c) (skips n' c' r) e h = absurd (c' (rw h at c))
  unique (skips n c r) (takes m s w r') e h = absurd (n (m, s, h, w))
  unique (skips n c r) (waits n' c') e h = absurd (c (rw (← h) at c'))
  unique (skips n c r) (skips n' c' r') e h = unique r r' (cc) (tail-eq_of_cons-eq h)

  pub one_result : {i : ℕ} {s : List ℕ} {y z : Yield} → Reads F i s y → Reads F i s z → y ≡ z
  one_result r q = unique r q refl refl

  -- what is taken from place i on begins at i or later
  none_before : {i : ℕ} {s : List ℕ} {y : Yield} → Reads F i s y → (j : ℕ) → j < i → starting j y.taken ≡ 0
  unfolding starting
  none_before {i} (takes m s {y} w r) j h = starting_other i j m y.taken (omega arith) ∙ none_before r j (omega arith)
  none_before (waits n c) j h = refl
  none_before (skips n c r) j h = none_before r j (omega arith)

  -- IN ORDER, and no two share a byte
  pub taken_apart : {i : ℕ} {s : List ℕ} {y : Yield} → Reads F i s y → Apart i y.taken
  unfolding Apart
  taken_apart (takes m s w r) = (omega arith, taken_apart r)
  taken_apart (waits n c) = tt
  taken_apart {i} (skips {y = y} n c r) = apart_from i (i + 1) y.taken (omega arith) (taken_apart r)

  -- the start byte inside a message is its last byte
  inside : (x : ℕ) (u : List ℕ) (b : ℕ) (e : List ℕ) → F.formed (x ∷ u ++ b ∷ e) ≡ true → b ≡ F.start → e ≡ []
  inside x u b [] w h = refl
  inside x u b (z ∷ e) w h =
      let v : F.viable (x ∷ u ++ b ∷ []) ≡ true = (L.viable_iff (x ∷ u ++ b ∷ [])).1 (z, e, rw (append_snoc (x ∷ u)) w) in
      absurd (without_mid F.start u [] (rw h at (L.inner x (u ++ b ∷ []) v)))

  two_bytes : (m : List ℕ) → F.formed m ≡ true → 2 ≤ length m
  two_bytes m w = omega (arith, ap length (L.begins m w).2)

  -- one more message was taken before
  once_tail : (i j : ℕ) (m n : List ℕ) (ts : List Taken) → i < j → Once j m ts ⊎ LastOf j ts
      → Once j m (record { place = i; bytes = n } ∷ ts) ⊎ LastOf j (record { place = i; bytes = n } ∷ ts)
  once_tail i j m n ts h (inl k) = inl (Memᴰ.tail k.0, starting_other i j n ts (omega arith) ∙ k.1)
  once_tail i j m n ts h (inr k) = inr (k.0, Memᴰ.tail k.1, k.2)

  -- TAKEN ONCE: each message that begins anywhere in the bytes read
  pub taken_once : {i : ℕ} {s : List ℕ} {y : Yield} → Reads F i s y → (u m v : List ℕ) (j : ℕ) → j ≡ i + length u → s ≡ u ++ (m ++ v) → F.formed m ≡ true
      → Once j m y.taken ⊎ LastOf j y.taken
  taken_once {i} (takes n s {y} w r) u m v j hj h k = ⊎_elim
      (λ c. once_tail i j m n y.taken (omega (arith, ap length c.1, length-append n c.0, two_bytes n w))
      (taken_once r c.0 m v j (omega (arith, ap length c.1, length-append n c.0)) c.2 k))
      (λ c. covered u c.0 c.1 hj h c.2 c.3)
      (cut n s u (m ++ v) h)
    where
      covered : (u : List ℕ) (b : ℕ) (e : List ℕ) → j ≡ i + length u → n ++ s ≡ u ++ (m ++ v) → n ≡ u ++ b ∷ e → b ∷ e ++ s ≡ m ++ v
          → Once j m (record { place = i; bytes = n } ∷ y.taken) ⊎ LastOf j (record { place = i; bytes = n } ∷ y.taken)
      covered [] b e hj h c d =
          let em : m ≡ n = sym (same_message n s m v w k h) in
          let ej : j ≡ i = omega arith in
          let ep : ◌≡◌ {A = Taken} (record { place = j; bytes = m }) (record { place = i; bytes = n }) = cc in
          inl (Memᴰ.head ep, rw ej (starting_this i n y.taken (none_before r i (omega (arith, two_bytes n w)))))
      covered (x ∷ u) b e hj h c d =
          let eb : b ≡ F.start = head-eq_of_cons-eq (d ∙ ap (λ (r : List ℕ). r ++ v) (L.begins m k).2) in
          let ee : e ≡ [] = inside x u b e (rw c at w) eb in
          inr (record { place = i; bytes = n }, Memᴰ.head refl, omega (arith, ap length c, length-append (x ∷ u) (b ∷ e), ap length ee))
  taken_once (waits n c) [] m v j hj h k = absurd (n (m, v, h, k))
  taken_once (waits n c) (x ∷ u) m v j hj h k =
      let vi : F.viable (x ∷ (u ++ (m ++ v))) ≡ true = (L.viable_iff (x ∷ (u ++ (m ++ v)))).1 (rw h at c) in
      absurd (without_mid F.start u _ (rw (L.begins m k).2 at (L.inner x (u ++ (m ++ v)) vi)))
  taken_once (skips n c r) [] m v j hj h k = absurd (n (m, v, h, k))
  taken_once (skips n c r) (x ∷ u) m v j hj h k = taken_once r u m v j (omega arith) (tail-eq_of_cons-eq h) k

  -- WHAT IS TAKEN IS THERE, and is well-formed
  pub taken_there : {i : ℕ} {s : List ℕ} {y : Yield} → Reads F i s y → (t : Taken) → Among t y.taken
      → (F.formed t.bytes ≡ true) × ((u : List ℕ) × (v : List ℕ) × (s ≡ u ++ (t.bytes ++ v)) × (t.place ≡ i + length u))
  taken_there {i} (takes m s {y} w r) t h = ⊎_elim
      (λ e. let e0 : t.place ≡ i = ap (λ (q : Taken). q.place) e in
      let e1 : t.bytes ≡ m = ap (λ (q : Taken). q.bytes) e in
      (rw e1 w, ([], s, (rw e1), omega arith)))
      (λ k. let ih = taken_there r t k in
      let f = ih.1 in
      (ih.0, (m ++ f.0, f.1, ap (λ (q : List ℕ). m ++ q) f.2 ∙ sym (append_assoc m f.0 (t.bytes ++ f.1)), omega (arith, f.3, length-append m f.0))))
      (Memᴰ.cases_cons h)
  taken_there (waits n c) t h = absurd (Memᴰ.not-nil h)
  taken_there (skips {b = b} n c r) t h =
      let ih = taken_there r t h in
      let f = ih.1 in
      (ih.0, (b ∷ f.0, f.1, ap (λ (q : List ℕ). b ∷ q) f.2, omega (arith, f.3)))

  -- LOST: nothing that begins at the last byte of a message taken is taken
  pub last_lost : {i : ℕ} {s : List ℕ} {y : Yield} → Reads F i s y → (j : ℕ) → LastOf j y.taken → starting j y.taken ≡ 0
  unfolding starting
  last_lost {i} (takes m s {y} w r) j l = ⊎_elim
      (λ e. let e0 : l.0.place ≡ i = ap (λ (q : Taken). q.place) e in
      let e1 : l.0.bytes ≡ m = ap (λ (q : Taken). q.bytes) e in
      let k : i + length m ≡ j + 1 = rw (e0, e1) at l.2 in
      starting_other i j m y.taken (omega (arith, two_bytes m w)) ∙ none_before r j (omega arith))
      (λ k. let f = taken_there r l.0 k in
      starting_other i j m y.taken (omega (arith, l.2, f.1.3, two_bytes m w, two_bytes l.0.bytes f.0)) ∙ last_lost r j (l.0, k, l.2))
      (Memᴰ.cases_cons l.1)
  last_lost (waits n c) j l = refl
  last_lost (skips n c r) j l = last_lost r j l

  -- WHAT IS PENDING is the end of the bytes read, and could become a message
  pub pending_there : {i : ℕ} {s : List ℕ} {y : Yield} → Reads F i s y
      → CouldBecome F y.pending × ((u : List ℕ) × (s ≡ u ++ y.pending) × (y.place ≡ i + length u))
  pending_there (takes m s {y} w r) =
      let ih = pending_there r in
      let f = ih.1 in
      (ih.0, (m ++ f.0, ap (λ (q : List ℕ). m ++ q) f.1 ∙ sym (append_assoc m f.0 y.pending), omega (arith, f.2, length-append m f.0)))
  pending_there (waits n c) = (c, ([], refl, omega arith))
  pending_there (skips {b = b} n c r) =
      let ih = pending_there r in
      let f = ih.1 in
      (ih.0, (b ∷ f.0, ap (λ (q : List ℕ). b ∷ q) f.1, omega (arith, f.2)))
