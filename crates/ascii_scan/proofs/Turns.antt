-- What the code's tests and calls show of one byte, and of what is pending after it. Assumes nothing.
use Rattle.std.proofs.Common.{◌≡◌, ℕ, ◌+◌, ◌-◌, ◌<◌, ◌≤◌, Bool, true, false, eqb, List, length, get_or, take, drop, sym, refl, ap, ◌∙◌, subst, add-zero, arith, length-drop, length-take, take_all, drop-drop, drop_of_length-le, eq-eqb, ne_eqb}
use Rattle.base.specs.Choice.{pick, both, either}
use Rattle.std.specs.Char.{is_ascii_hexdigit}
use Rattle.std.proofs.Common.{◌&&◌, ◌||◌, leb}
use Rattle.hex_pairs.specs.Hex.{is_hex}
use Rattle.hex_pairs.proofs.RoundTrip.{cr_not_hex}
use Rattle.checks.specs.Lrc.{lrc_of}
use Rattle.pending.specs.declared.Pending.{Pending}
use Rattle.pending.specs.Held.{held, emptied, pushed, began_with}
use Rattle.pending.specs.Scanning.{Scan, scan_from, scan_on}
use Rattle.pending.proofs.Scans.{scan_turn, scan_after}
use Rattle.ascii.specs.Ascii.{bytes_in}
use Rattle.ascii_scan.specs.Scan.{ended, digit_fits, cr_fits, goes_on, again, ends, fed, feeding}
use Rattle.ascii_scan.proofs.Summed.{cr_under}

-- ---- the library's test of a digit is the definition's
joins : (a b c d e f : Bool) → ((a && b || c && d) || e && f) ≡ either (both a b) (either (both c d) (both e f))
joins true true c d e f = refl
joins true false true true e f = refl
joins true false true false true true = refl
joins true false true false true false = refl
joins true false true false false f = refl
joins true false false d true true = refl
joins true false false d true false = refl
joins true false false d false f = refl
joins false b true true e f = refl
joins false b true false true true = refl
joins false b true false true false = refl
joins false b true false false f = refl
joins false b false d true true = refl
joins false b false d true false = refl
joins false b false d false f = refl

pub digit_told : (b : ℕ) → is_ascii_hexdigit b ≡ is_hex b
unfolding is_hex
digit_told b = joins (leb 0x30 b) (leb b 0x39) (leb 0x41 b) (leb b 0x46) (leb 0x61 b) (leb b 0x66)

-- ---- nothing pending is not ended
pub ended_none : (l : List ℕ) (n : ℕ) → n ≡ 0 → false ≡ ended (record { bytes = l; len = n })
unfolding ended
ended_none l n h = simp (eq-eqb n 0 h)

-- ---- whether b goes on, by the code's tests: CR is no digit
module _ (l : List ℕ) (n b : ℕ) (r : Bool) where
  pub goes_cr : b ≡ 0x0D → r ≡ cr_fits n (bytes_in (take n l)) → r ≡ goes_on (record { bytes = l; len = n }) b
  unfolding goes_on held
  goes_cr h e = simp (h, cr_not_hex, e)

  pub goes_digit : (t : Bool) → t ≡ is_ascii_hexdigit b → t ≡ true → r ≡ digit_fits n (lrc_of (bytes_in (take n l))) b → r ≡ goes_on (record { bytes = l; len = n }) b
  unfolding goes_on held
  goes_digit t e h k = simp (sym (digit_told b) ∙ sym e ∙ h, k)

pub goes_none : (l : List ℕ) (n b : ℕ) (t : Bool) → (b ≡ 0x0D → ⊥) → t ≡ is_ascii_hexdigit b → t ≡ false → false ≡ goes_on (record { bytes = l; len = n }) b
unfolding goes_on
goes_none l n b t c e h = simp (sym (digit_told b) ∙ sym e ∙ h, ne_eqb b 0x0D c)

-- ---- what is pending after a byte, by the tests
-- a new beginning does not depend on how many bytes were pending
abbrev over : Pending → Pending
over p = record { bytes = p.bytes; len = 0 }

again_over : (p : Pending) (b : ℕ) → again (over p) b ≡ again p b
unfolding again emptied began_with
again_over p b = refl

module _ (p q : Pending) (b : ℕ) (t : Bool) (e : t ≡ ended p) where
  -- after CR
  module _ (h : t ≡ true) where
    pub lf_ends : b ≡ 0x0A → true ≡ ends p b
    unfolding ends
    lf_ends l = simp (← e, h, eq-eqb b 0x0A l)

    pub lf_next : b ≡ 0x0A → p ≡ fed p b
    unfolding fed
    lf_next l = simp (← e, h, eq-eqb b 0x0A l)

    pub other_ends : (b ≡ 0x0A → ⊥) → false ≡ ends p b
    unfolding ends
    other_ends l = simp (← e, h, ne_eqb b 0x0A l)

    pub other_next : (b ≡ 0x0A → ⊥) → q ≡ again (over p) b → q ≡ fed p b
    unfolding fed
    other_next l k = simp (← e, h, ne_eqb b 0x0A l, k, again_over)

  -- before CR, by whether b goes on
  module _ (h : t ≡ false) where
    pub open_ends : false ≡ ends p b
    unfolding ends
    open_ends = simp (← e, h)

    module _ (g : Bool) (f : g ≡ goes_on p b) where
      pub keeps_next : g ≡ true → q ≡ pushed p b → q ≡ fed p b
      unfolding fed
      keeps_next l k = simp (← e, h, ← f, l, k)

      pub spoils_next : g ≡ false → q ≡ again (over p) b → q ≡ fed p b
      unfolding fed
      spoils_next l k = simp (← e, h, ← f, l, k, again_over)

      pub open_next : q ≡ pick g (pushed p b) (again (over p) b) → q ≡ fed p b
      unfolding fed
      open_next k = simp (← e, h, ← f, k, again_over)

-- behind nothing no byte goes on
fresh_goes : (n lrc b : ℕ) (bytes : List ℕ) (s t : Bool) → n ≡ 0 → false ≡ pick s (digit_fits n lrc b) (both t (cr_fits n bytes))
unfolding digit_fits
fresh_goes n lrc b bytes true t h = simp h
fresh_goes n lrc b bytes false true h = cr_under n bytes (omega arith)
fresh_goes n lrc b bytes false false h = refl

fresh_spoils : (l : List ℕ) (n b : ℕ) → n ≡ 0 → false ≡ goes_on (record { bytes = l; len = n }) b
unfolding goes_on
fresh_spoils l n b h = fresh_goes n _ b _ (is_hex b) (eqb b 0x0D) h

-- ---- a byte that ends no message: scanning goes on behind it
pub next_same : (s : List ℕ) (p q : Pending) (i : ℕ) → i < length s → false ≡ ends p (get_or s i 0) → q ≡ fed p (get_or s i 0)
    → scan_from feeding q (i + 1) (drop (i + 1) s) ≡ scan_from feeding p i (drop i s)
next_same s p q i h e f = simp (← e, ← f) at (sym (scan_turn feeding s p i h))

-- ---- `step`: by what is pending
module _ (s l m : List ℕ) (n k i : ℕ) (h : i < length s) where
  -- nothing
  pub fresh_same : n ≡ 0 → record { bytes = m; len = k } ≡ again (record { bytes = l; len = 0 }) (get_or s i 0)
      → scan_from feeding (record { bytes = m; len = k }) (i + 1) (drop (i + 1) s) ≡ scan_from feeding (record { bytes = l; len = n }) i (drop i s)
  fresh_same z a =
      let p : Pending = record { bytes = l; len = n } in
      let q : Pending = record { bytes = m; len = k } in
      let b : ℕ = get_or s i 0 in
      let o : false ≡ ended p = ended_none l n z in
      next_same s p q i h (open_ends p q b false o refl) (spoils_next p q b false o refl false (fresh_spoils l n b z) refl a)

  module _ (t : Bool) (e : t ≡ ended (record { bytes = l; len = n })) where
    -- CR, and LF comes
    pub lf_same : t ≡ true → get_or s i 0 ≡ 0x0A
        → record { pending = record { bytes = l; len = n }; used = i + 1; taken = true } ≡ scan_from feeding (record { bytes = l; len = n }) i (drop i s)
    lf_same c b =
        let p : Pending = record { bytes = l; len = n } in
        simp (← lf_ends p p (get_or s i 0) t e c b, ← lf_next p p (get_or s i 0) t e c b) at (sym (scan_turn feeding s p i h))

    -- CR, and another byte comes
    pub other_same : t ≡ true → (get_or s i 0 ≡ 0x0A → ⊥) → record { bytes = m; len = k } ≡ again (record { bytes = l; len = 0 }) (get_or s i 0)
        → scan_from feeding (record { bytes = m; len = k }) (i + 1) (drop (i + 1) s) ≡ scan_from feeding (record { bytes = l; len = n }) i (drop i s)
    other_same c b a =
        let p : Pending = record { bytes = l; len = n } in
        let q : Pending = record { bytes = m; len = k } in
        next_same s p q i h (other_ends p q (get_or s i 0) t e c b) (other_next p q (get_or s i 0) t e c b a)

pub open_told : (p : Pending) (t : Bool) → t ≡ ended p → t ≡ false → ended p ≡ false
open_told p t e f = sym e ∙ f

-- ---- `go_on`: the digits from place i on are no more than the bytes left
module _ (s : List ℕ) (i r k : ℕ) (h : r ≤ length (take k (drop i s))) (l : i < length s) where
  pub run_within : i + r ≤ length s
  run_within = omega (arith, length-take k (drop i s), length-drop i s)

  pub behind_within : (i + r ≡ length s → ⊥) → i + r < length s
  behind_within n = omega (arith, run_within)

-- the digits from place i on, as many as r, of the k bytes left
module _ (s : List ℕ) (p q : Pending) (i r k : ℕ)
    (same : scan_from feeding q r (drop r (take k (drop i s))) ≡ scan_from feeding p 0 (take k (drop i s))) (all : length s - i ≤ k) where
  -- scanning goes on behind them
  pub run_same : scan_from feeding q (i + r) (drop (i + r) s) ≡ scan_from feeding p i (drop i s)
  run_same =
      let rest : take k (drop i s) ≡ drop i s = take_all k (drop i s) (simp length-drop all) in
      ap (scan_from feeding q (i + r)) (sym (drop-drop r i s))
      ∙ scan_after feeding (drop r (drop i s)) q i r
      ∙ ap (λ (x : Scan). record { pending = x.pending; used = i + x.used; taken = x.taken })
      (subst (λ (x : List ℕ). scan_from feeding q r (drop r x) ≡ scan_from feeding p 0 x) rest same)
      ∙ sym (scan_after feeding (drop i s) p i 0)
      ∙ ap (λ (m : ℕ). scan_from feeding p m (drop i s)) (add-zero i)

  -- and behind the byte that follows them
  pub behind_same : (x : Pending) → r ≤ length (take k (drop i s)) → i < length s → (i + r ≡ length s → ⊥) → ended q ≡ false
      → x ≡ pick (goes_on q (get_or s (i + r) 0)) (pushed q (get_or s (i + r) 0)) (again (over q) (get_or s (i + r) 0))
      → scan_from feeding x (i + r + 1) (drop (i + r + 1) s) ≡ scan_from feeding p i (drop i s)
  behind_same x w l n o a =
      let b : ℕ = get_or s (i + r) 0 in
      next_same s q x (i + r) (behind_within s i r k w l n) (open_ends q x b (ended q) refl o) (open_next q x b (ended q) refl o (goes_on q b) refl a) ∙ run_same

-- ---- `scan`: what is told so far, of the bytes s from p₀ on, gives the whole with those that are left
pub record Scanning (p₀ : Pending) (s : List ℕ) (x : Scan) : Type 0 where
  pub within : x.used ≤ length s
  pub same : scan_on feeding x (drop x.used s) ≡ scan_from feeding p₀ 0 s

-- a step from there tells more
pub step_again : (s : List ℕ) (p₀ p : Pending) (u : ℕ) (t : Bool) (x : Scan) → t ≡ false → Scanning p₀ s (record { pending = p; used = u; taken = t }) → x.used ≤ length s
    → scan_on feeding x (drop x.used s) ≡ scan_from feeding p u (drop u s) → Scanning p₀ s x
step_again s p₀ p u t x e inv w same =
    record { within = w; same = same ∙ (subst (λ (t : Bool). scan_on feeding (record { pending = p; used = u; taken = t }) (drop u s) ≡ scan_from feeding p₀ 0 s) e inv.same) }

-- no byte is left
pub scan_ended : (s : List ℕ) (p₀ p : Pending) (u : ℕ) (t : Bool) → t ≡ false → length s ≤ u → Scanning p₀ s (record { pending = p; used = u; taken = t })
    → record { pending = p; used = u; taken = t } ≡ scan_from feeding p₀ 0 s
unfolding scan_from
scan_ended s p₀ p u true e h inv = inv.same
scan_ended s p₀ p u false e h inv = sym (ap (scan_from feeding p u) (drop_of_length-le s h)) ∙ inv.same
