-- Digits that go on freely, one after the other. Assumes nothing.
use Rattle.std.proofs.Common.{◌≡◌, ℕ, ◌+◌, ◌-◌, ◌<◌, ◌≤◌, min, Bool, true, false, eqb, ltb, List, length, get_or, take, drop, set, sym, refl, ap, ◌∙◌, subst, arith, take-append-drop, length-take, get_or-set_same, ltb-false, ltb-true, lt-ltb, ne_eqb}
use lib.ListN.{get_or-eq_default}
use lib.Seq.{set_out, drop-append-le}
use Rattle.std.specs.Char.{is_ascii_hexdigit}
use Rattle.hex_pairs.specs.Hex.{is_hex}
use Rattle.hex_pairs.proofs.RoundTrip.{hex_other, cr_not_hex}
use Rattle.pending.specs.declared.Pending.{Pending}
use Rattle.pending.specs.Held.{pushed}
use Rattle.pending.specs.Scanning.{Scan, scan_from, scan_on}
use Rattle.pending.proofs.Scans.{scan_append}
use Rattle.ascii_scan.specs.Scan.{ended, digit_fits, goes_on, fed, feeding}
use Rattle.ascii_scan.proofs.Turns.{digit_told, open_ends, keeps_next, next_same}

-- ---- a digit goes on freely
module _ (l : List ℕ) (k b : ℕ) (few : k < 509) (hex : is_hex b ≡ true) where
  -- and is not CR
  last : (t : Bool) → ltb k (length l) ≡ t → eqb (get_or (set l k b) k 0) 0x0D ≡ false
  last true e = rw (get_or-set_same l k b 0 (ltb-true k (length l) e)) (ne_eqb b 0x0D (λ q. hex_other b 0x0D hex cr_not_hex q))
  last false e = rw (set_out l k b (ltb-false k (length l) e), get_or-eq_default l 0 {n = k} (ltb-false k (length l) e))

  still_open : ended (record { bytes = set l k b; len = k + 1 }) ≡ false
  unfolding ended
  still_open =
      let m : min (k + 1) 512 - 1 ≡ k = omega arith in
      rw (ne_eqb (k + 1) 0 (λ q. omega arith), m) (last (ltb k (length l)) refl)

  goes : 1 ≤ k → true ≡ goes_on (record { bytes = l; len = k }) b
  unfolding goes_on digit_fits
  goes h = simp (hex, lt-ltb k 509 few, lt-ltb 0 k h)

  pushes : record { bytes = set l k b; len = k + 1 } ≡ pushed (record { bytes = l; len = k }) b
  unfolding pushed
  pushes = simp (lt-ltb k 512 (omega arith))

-- ---- `push_digits`: after i of the bytes s, scanning those left gives what scanning all does, and CR has not come
pub record Running (s : List ℕ) (p₀ p : Pending) (i : ℕ) : Type 0 where
  pub opened : ended p ≡ false
  pub same : scan_from feeding p i (drop i s) ≡ scan_from feeding p₀ 0 s

-- the byte at place i is a digit, and has room, as the first e have
pub run_again : (u l : List ℕ) (p₀ : Pending) (n e i m : ℕ) (t : Bool) → 1 ≤ n → n < 509 → e ≡ min m (509 - n) → i < length (take e u)
    → t ≡ is_ascii_hexdigit (get_or (take e u) i 0) → t ≡ true → Running (take e u) p₀ (record { bytes = l; len = n + i }) i
    → Running (take e u) p₀ (record { bytes = set l (n + i) (get_or (take e u) i 0); len = n + (i + 1) }) (i + 1)
run_again u l p₀ n e i m t some low room h told digit r =
    let s : List ℕ = take e u in
    let b : ℕ = get_or s i 0 in
    let p : Pending = record { bytes = l; len = n + i } in
    let q : Pending = record { bytes = set l (n + i) b; len = n + i + 1 } in
    let few : n + i < 509 = omega (arith, length-take e u) in
    let hex : is_hex b ≡ true = sym (digit_told b) ∙ sym told ∙ digit in
    let onto : n + i + 1 ≡ n + (i + 1) = omega arith in
    let next : q ≡ fed p b = keeps_next p q b (ended p) refl r.opened true (goes l (n + i) b few hex (omega arith)) refl (pushes l (n + i) b few hex) in
    subst (λ (m : ℕ). Running s p₀ (record { bytes = set l (n + i) b; len = m }) (i + 1)) onto
    (record { opened = still_open l (n + i) b few hex; same = next_same s p q i h (open_ends p q b (ended p) refl r.opened) next ∙ r.same })

-- the bytes that have room are the first e of the bytes s
pub run_cut : (s : List ℕ) (p₀ p : Pending) (e i : ℕ) → i ≤ length (take e s) → Running (take e s) p₀ p i → scan_from feeding p i (drop i s) ≡ scan_from feeding p₀ 0 s
run_cut s p₀ p e i h c =
    ap (scan_from feeding p i) (ap (drop i) (sym (take-append-drop e s)) ∙ drop-append-le i (take e s) (drop e s) h)
    ∙ scan_append feeding (drop i (take e s)) (drop e s) p i
    ∙ ap (λ (x : Scan). scan_on feeding x (drop e s)) c.same
    ∙ sym (scan_append feeding (take e s) (drop e s) p₀ 0)
    ∙ ap (scan_from feeding p₀ 0) (take-append-drop e s)

-- all of them are digits
pub run_all : (s l : List ℕ) (p₀ : Pending) (n e i m : ℕ) → length (take e s) ≤ i → i ≤ length (take e s) → e ≡ min (length s) m
    → Running (take e s) p₀ (record { bytes = l; len = n + i }) i → scan_from feeding (record { bytes = l; len = n + e }) e (drop e s) ≡ scan_from feeding p₀ 0 s
run_all s l p₀ n e i m h k w c =
    let at : i ≡ e = omega (arith, length-take e s) in
    subst (λ (j : ℕ). scan_from feeding (record { bytes = l; len = n + j }) j (drop j s) ≡ scan_from feeding p₀ 0 s) at (run_cut s p₀ (record { bytes = l; len = n + i }) e i k c)
