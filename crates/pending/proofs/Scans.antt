-- Scans: turn by turn, as a loop makes them; in two parts; and that a feeding which follows a format does the format's stream call.
-- Assumes nothing.
use mathlib.Core.Path.{◌≡◌, refl, sym, ap, ◌∙◌}
use mathlib.Core.Bool.{Bool, true, false, true≢false, false≢true}
use mathlib.Core.List.{List, [], ◌∷◌, ◌++◌}
use Prim.Native.Nat.{ℕ, ◌+◌, ◌<◌, ◌≤◌}
use native.Mathlib.Nat.{add-zero}
use native.Mathlib.Numerals.{add-one}
use native.Mathlib.Omega.{arith}
use lib.ListN.{length, drop, get_or, drop_of_length-le}
use lib.Seq.{drop-cons}
use Rattle.base.specs.Choice.{pick}
use Rattle.base.proofs.Tests.{pick_both}
use Rattle.stream.specs.Format.{Format, Lawful}
use Rattle.stream.specs.Automaton.{feed}
use Rattle.stream.specs.Scanned.{further, scanned}
use Rattle.stream.proofs.Pending.{feed_viable}
use Rattle.stream.proofs.Scanned.{further_more, scanned_takes, scanned_goes, scanned_end}
use Rattle.pending.specs.declared.Pending.{Pending}
use Rattle.pending.specs.Held.{held, Sized}
use Rattle.pending.specs.Scanning.{Scan, Feeding, scan_one, scan_from, scan_on, seen_in, Follows}

-- ---- a loop over the bytes s, from p₀ on: what is left to do gives the whole
abbrev pub Scanning : Feeding → Pending → List ℕ → Pending → ℕ → Type 0
Scanning G p₀ s p i = (i ≤ length s) × (scan_from G p i (drop i s) ≡ scan_from G p₀ 0 s)

pub scan_turn : (G : Feeding) (s : List ℕ) (p : Pending) (i : ℕ) → i < length s
    → scan_from G p i (drop i s)
    ≡ pick (G.ends p (get_or s i 0))
    (record { pending = G.next p (get_or s i 0); used = i + 1; taken = true })
    (scan_from G (G.next p (get_or s i 0)) (i + 1) (drop (i + 1) s))
unfolding scan_from
scan_turn G s p i h = ap (scan_from G p i) (drop-cons s i 0 h) ∙ rw add-one

-- what the turn at place i told: q is pending, u bytes are used, and whether a message is taken
module _ (G : Feeding) (p₀ : Pending) (s : List ℕ) (p q : Pending) (i u : ℕ) (t : Bool)
    (told : record { pending = q; used = u; taken = t } ≡ scan_one G p (get_or s i 0) (i + 1)) where
  ends : G.ends p (get_or s i 0) ≡ t
  ends = sym (ap (λ (x : Scan). x.taken) told)

  next : q ≡ G.next p (get_or s i 0)
  next = ap (λ (x : Scan). x.pending) told

  -- its byte ends no message
  pub scan_again : Scanning G p₀ s p i → i < length s → t ≡ false → Scanning G p₀ s q (i + 1)
  scan_again inv h f = (omega arith, simp (ends ∙ f, ← next) at (sym (scan_turn G s p i h) ∙ inv.1))

  -- it ends one
  pub scan_takes : Scanning G p₀ s p i → i < length s → t ≡ true → record { pending = q; used = u; taken = t } ≡ scan_from G p₀ 0 s
  scan_takes inv h f = told ∙ simp (ends ∙ f) (simp (ends ∙ f) at (sym (scan_turn G s p i h) ∙ inv.1))

-- no byte is left: all were used
pub scan_done : (G : Feeding) (p₀ : Pending) (s : List ℕ) (p : Pending) (i : ℕ) → Scanning G p₀ s p i → length s ≤ i
    → record { pending = p; used = length s; taken = false } ≡ scan_from G p₀ 0 s
unfolding scan_from
scan_done G p₀ s p i inv h =
    let all : i ≡ length s = omega (arith, inv.0) in
    rw (← all) (sym (ap (scan_from G p i) (drop_of_length-le s h)) ∙ inv.1)

-- ---- A SCAN IN TWO PARTS is the scan of the whole, in every byte of the array
pub scan_append : (G : Feeding) (x z : List ℕ) (p : Pending) (n : ℕ) → scan_from G p n (x ++ z) ≡ scan_on G (scan_from G p n x) z
unfolding scan_from
scan_append G [] z p n = refl
scan_append G (b ∷ x) z p n = by (G.ends p b) (scan_append G x z (G.next p b) (n + 1))
  where
    by : (t : Bool) → scan_from G (G.next p b) (n + 1) (x ++ z) ≡ scan_on G (scan_from G (G.next p b) (n + 1) x) z
        → pick t (record { pending = G.next p b; used = n + 1; taken = true }) (scan_from G (G.next p b) (n + 1) (x ++ z))
        ≡ scan_on G (pick t (record { pending = G.next p b; used = n + 1; taken = true }) (scan_from G (G.next p b) (n + 1) x)) z
    by true ih = refl
    by false ih = ih

-- a scan that comes after n bytes is the same, but for the count
abbrev after : ℕ → Scan → Scan
after n r = record { pending = r.pending; used = n + r.used; taken = r.taken }

pub scan_after : (G : Feeding) (s : List ℕ) (p : Pending) (m n : ℕ) → scan_from G p (m + n) s ≡ after m (scan_from G p n s)
unfolding scan_from
scan_after G [] p m n = refl
scan_after G (b ∷ s) p m n = by (G.ends p b) (omega arith) (scan_after G s (G.next p b) m (n + 1))
  where
    by : (t : Bool) → m + n + 1 ≡ m + (n + 1) → scan_from G (G.next p b) (m + (n + 1)) s ≡ after m (scan_from G (G.next p b) (n + 1) s)
        → pick t (record { pending = G.next p b; used = m + n + 1; taken = true }) (scan_from G (G.next p b) (m + n + 1) s)
        ≡ after m (pick t (record { pending = G.next p b; used = n + 1; taken = true }) (scan_from G (G.next p b) (n + 1) s))
    by true e ih = rw e
    by false e ih = rw e ih

-- ---- the bytes used: none that is not there, and one at least where there is one
pub scan_used : (G : Feeding) (s : List ℕ) (p : Pending) (n : ℕ) → (n ≤ (scan_from G p n s).used) × ((scan_from G p n s).used ≤ n + length s)
unfolding scan_from
scan_used G [] p n = (omega arith, omega arith)
scan_used G (b ∷ s) p n =
    let ih : (n + 1 ≤ (scan_from G (G.next p b) (n + 1) s).used) × ((scan_from G (G.next p b) (n + 1) s).used ≤ n + 1 + length s) = scan_used G s (G.next p b) (n + 1) in
    pick_both (λ (r : Scan). (n ≤ r.used) × (r.used ≤ n + length (b ∷ s))) (G.ends p b) (λ e. (omega arith, omega arith)) (λ e. (omega arith, omega arith))

pub scan_uses : (G : Feeding) (s : List ℕ) (p : Pending) (n : ℕ) → 0 < length s → n < (scan_from G p n s).used
unfolding scan_from
scan_uses G [] p n h = absurd (omega arith)
scan_uses G (b ∷ s) p n h = pick_both (λ (r : Scan). n < r.used) (G.ends p b) (λ e. omega arith) (λ e. omega (arith, (scan_used G s (G.next p b) (n + 1)).0))

-- ---- A FEEDING THAT FOLLOWS A FORMAT
module _ (F : Format) (L : Lawful F) (G : Feeding) (W : Follows F G) where
  -- the array keeps its length
  pub scan_sized : (s : List ℕ) (p : Pending) (n : ℕ) → Sized p → Sized (scan_from G p n s).pending
  unfolding scan_from
  scan_sized [] p n h = h
  scan_sized (b ∷ s) p n h = by (G.ends p b) (W.sized p b h) (scan_sized s (G.next p b) (n + 1))
    where
      by : (t : Bool) → Sized (G.next p b) → (Sized (G.next p b) → Sized (scan_from G (G.next p b) (n + 1) s).pending)
          → Sized (pick t (record { pending = G.next p b; used = n + 1; taken = true }) (scan_from G (G.next p b) (n + 1) s)).pending
      by true k ih = k
      by false k ih = ih k

  -- its scan is the format's stream call, where a beginning is pending
  pub scan_follows : (s : List ℕ) (p : Pending) (n : ℕ) → Sized p → F.viable (held p) ≡ true → seen_in G (scan_from G p n s) ≡ further n (scanned F (held p) s)
  unfolding scan_from
  scan_follows [] p n h v = rw (scanned_end, add-zero)
  scan_follows (b ∷ s) p n h v = by (G.ends p b) refl (scan_follows s (G.next p b) (n + 1) (W.sized p b h))
    where
      by : (t : Bool) → G.ends p b ≡ t
          → (F.viable (held (G.next p b)) ≡ true → seen_in G (scan_from G (G.next p b) (n + 1) s) ≡ further (n + 1) (scanned F (held (G.next p b)) s))
          → seen_in G (pick t (record { pending = G.next p b; used = n + 1; taken = true }) (scan_from G (G.next p b) (n + 1) s))
          ≡ further n (scanned F (held p) (b ∷ s))
      by true e ih = let w : F.formed (held p ++ b ∷ []) ≡ true = sym (W.formed p b h v) ∙ e in rw (scanned_takes F (held p) b s w, W.message p b h v e)
      by false e ih =
          let w : F.formed (held p ++ b ∷ []) ≡ false = sym (W.formed p b h v) ∙ e in
          let q : held (G.next p b) ≡ (feed F 0 (held p) b).pending = W.waits p b h v e in
          let k : F.viable (held (G.next p b)) ≡ true = rw q (feed_viable F L 0 (held p) b) in
          ih k ∙ rw q (sym (further_more n 1 _)) ∙ ap (further n) (sym (scanned_goes F (held p) b s w))

  -- what it leaves: a message, or a beginning
  pub scan_leaves : (s : List ℕ) (p : Pending) (n : ℕ) → Sized p → F.viable (held p) ≡ true
      → ((scan_from G p n s).taken ≡ true → F.formed (G.message (scan_from G p n s).pending) ≡ true)
      × ((scan_from G p n s).taken ≡ false → F.viable (held (scan_from G p n s).pending) ≡ true)
  unfolding scan_from
  scan_leaves [] p n h v = (λ e. absurd (false≢true e), λ e. v)
  scan_leaves (b ∷ s) p n h v = by (G.ends p b) refl (scan_leaves s (G.next p b) (n + 1) (W.sized p b h))
    where
      by : (t : Bool) → G.ends p b ≡ t
          → (F.viable (held (G.next p b)) ≡ true
          → ((scan_from G (G.next p b) (n + 1) s).taken ≡ true → F.formed (G.message (scan_from G (G.next p b) (n + 1) s).pending) ≡ true)
          × ((scan_from G (G.next p b) (n + 1) s).taken ≡ false → F.viable (held (scan_from G (G.next p b) (n + 1) s).pending) ≡ true))
          → ((pick t (record { pending = G.next p b; used = n + 1; taken = true }) (scan_from G (G.next p b) (n + 1) s)).taken ≡ true
          → F.formed (G.message (pick t (record { pending = G.next p b; used = n + 1; taken = true }) (scan_from G (G.next p b) (n + 1) s)).pending) ≡ true)
          × ((pick t (record { pending = G.next p b; used = n + 1; taken = true }) (scan_from G (G.next p b) (n + 1) s)).taken ≡ false
          → F.viable (held (pick t (record { pending = G.next p b; used = n + 1; taken = true }) (scan_from G (G.next p b) (n + 1) s)).pending) ≡ true)
      by true e ih = (λ q. rw (W.message p b h v e) (sym (W.formed p b h v) ∙ e), λ q. absurd (true≢false q))
      by false e ih = ih (rw (W.waits p b h v e) (feed_viable F L 0 (held p) b))
