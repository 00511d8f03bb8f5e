-- What a byte does to a beginning, by the count and the bytes that the scan looks at, is what it does by the format. Assumes nothing.
use Rattle.std.proofs.Common.{◌≡◌, ℕ, ◌+◌, ◌-◌, ◌*◌, ◌/◌, ◌%◌, ◌≤◌, min, Bool, true, false, eqb, ltb, List, [], ◌∷◌, ◌++◌, length, get_or, drop, sym, refl, ap, ◌∙◌, ⊎_elim, arith, length-drop, length-take, get_or-take, ltb-false, ltb-true, lt-ltb, eq-eqb, eqb-true}
use borrow.Author.Tests.{eqb-false}
use Rattle.base.specs.Choice.{pick, both, either}
use Rattle.base.proofs.Tests.{both_out, either_out, same_test}
use Rattle.hex_pairs.specs.Hex.{is_hex, all_hex, digit_of, capital_of, bytes_of}
use Rattle.hex_pairs.proofs.RoundTrip.{length_bytes}
use Rattle.checks.specs.Lrc.{lrc_of}
use Rattle.pending.specs.declared.Pending.{Pending}
use Rattle.pending.specs.Held.{held, Sized}
use Rattle.ascii.specs.Ascii.{bytes_in, right, lrc_begun, full, free, begun, viable}
use Rattle.ascii.specs.Ascii as Ascii
use Rattle.ascii.proofs.Limit.{last_pair}
use Rattle.ascii.proofs.Becoming.{free_out, begun_out, full_out}
use Rattle.ascii.proofs.Step.{ends_in_cr, still_begun, step_free, step_509, step_510, step_over, step_cr, step_other}
use Rattle.ascii_scan.specs.Scan.{ended, digit_fits, cr_fits, goes_on}

-- `:` and 509 digits are a beginning only where the last is the high digit of the LRC
begun_509 : (p : List ℕ) → begun p ≡ true → length p ≡ 510
    → (all_hex (drop 1 p) ≡ true) × (capital_of (get_or (drop 1 p) 508 0) ≡ digit_of (lrc_of (bytes_of (drop 1 p)) / 16))
unfolding begun Ascii.goes_on
begun_509 [] e n = absurd (omega arith)
begun_509 (c ∷ d) e n =
    let h = both_out (all_hex d) (either (free d) (either (lrc_begun d) (full d))) (both_out (eqb c 0x3A) (both (all_hex d) (either (free d) (either (lrc_begun d) (full d)))) e).1 in (
      h.0,
      ⊎_elim (λ k. absurd (omega (arith, free_out d k)))
          (λ k. ⊎_elim (λ g. (begun_out d g).1) (λ g. absurd (omega (arith, (full_out d g).0))) (either_out (lrc_begun d) (full d) k))
          (either_out (free d) (either (lrc_begun d) (full d)) h.1),
    )

-- ---- the bytes pending, in the array
module _ (p : Pending) (size : Sized p) where
  pub held_count : length (held p) ≡ min p.len 512
  unfolding held
  held_count = omega (arith, length-take p.len p.bytes)

  pub ended_held : ended p ≡ ends_in_cr (held p)
  unfolding ended held
  ended_held = go (eqb p.len 0) refl
    where
      go : (t : Bool) → eqb p.len 0 ≡ t → pick t false (eqb (get_or p.bytes (min p.len 512 - 1) 0) 0x0D) ≡ ends_in_cr (held p)
      go true e = rw (eqb-true p.len 0 e)
      go false e =
          let some : p.len ≡ 0 → ⊥ = eqb-false p.len 0 e in
          rw (held_count, get_or-take p.len p.bytes (min p.len 512 - 1) 0 (omega arith))

-- ---- a byte behind a beginning that is not empty and not ended by CR
module _ (p : Pending) (b : ℕ) (size : Sized p) (v : viable (held p) ≡ true) (opened : ends_in_cr (held p) ≡ false) (some : 1 ≤ p.len) where
  n : length (held p) ≡ min p.len 512
  n = held_count p size

  any : 1 ≤ length (held p)
  any = omega (arith, n)

  digit_goes : is_hex b ≡ true → digit_fits p.len (lrc_of (bytes_in (held p))) b ≡ viable (held p ++ b ∷ [])
  unfolding digit_fits bytes_in
  digit_goes h = go (ltb p.len 509) refl (eqb p.len 509) refl (eqb p.len 510) refl
    where
      go : (s : Bool) → ltb p.len 509 ≡ s → (t : Bool) → eqb p.len 509 ≡ t → (u : Bool) → eqb p.len 510 ≡ u
          → pick s (ltb 0 p.len)
          (pick t (eqb (capital_of b) (digit_of (lrc_of (bytes_of (drop 1 (held p))) / 16))) (both u (eqb (capital_of b) (digit_of (lrc_of (bytes_of (drop 1 (held p))) % 16)))))
          ≡ viable (held p ++ b ∷ [])
      go true s t i u j = lt-ltb 0 p.len (omega arith) ∙ sym (step_free (held p) b v any opened h (omega (arith, n, ltb-true p.len 509 s)))
      go false s true i u j = sym (step_509 (held p) b v any opened h (omega (arith, n, eqb-true p.len 509 i)))
      go false s false i true j =
          let l : length (held p) ≡ 510 = omega (arith, n, eqb-true p.len 510 j) in
          let k = begun_509 (held p) (still_begun (held p) v opened) l in
          let d : List ℕ = drop 1 (held p) in
          let low : Bool = eqb (capital_of b) (digit_of (lrc_of (bytes_of d) % 16)) in
          sym
          (step_510 (held p) b v any opened h l
          ∙ last_pair d b k.0 (omega (arith, length-drop 1 (held p))) h
          ∙ ap (λ (t : Bool). both t low) (eq-eqb (capital_of (get_or d 508 0)) (digit_of (lrc_of (bytes_of d) / 16)) k.1))
      go false s false i false j =
          let x : p.len ≡ 509 → ⊥ = eqb-false p.len 509 i in
          let y : p.len ≡ 510 → ⊥ = eqb-false p.len 510 j in
          sym (step_over (held p) b v any opened h (omega (arith, n, ltb-false p.len 509 s)))

  cr_goes : b ≡ 0x0D → cr_fits p.len (bytes_in (held p)) ≡ viable (held p ++ b ∷ [])
  unfolding cr_fits bytes_in
  cr_goes h =
      let d : List ℕ = drop 1 (held p) in
      let k : ℕ = length (bytes_of d) in
      let few : 2 * k ≤ length d = length_bytes d in
      let m : length d ≡ length (held p) - 1 = length-drop 1 (held p) in
      ap (λ (t : Bool). both t (right (bytes_of d)))
      (same_test (eqb p.len (2 * k + 1)) (eqb (2 * k) (length d))
      (λ e. eq-eqb (2 * k) (length d) (omega (arith, n, eqb-true p.len (2 * k + 1) e)))
      (λ e. eq-eqb p.len (2 * k + 1) (omega (arith, n, eqb-true (2 * k) (length d) e))))
      ∙ sym (step_cr (held p) b v any opened h)

  pub goes_viable : goes_on p b ≡ viable (held p ++ b ∷ [])
  unfolding goes_on
  goes_viable = go (is_hex b) refl (eqb b 0x0D) refl
    where
      go : (t : Bool) → is_hex b ≡ t → (u : Bool) → eqb b 0x0D ≡ u
          → pick t (digit_fits p.len (lrc_of (bytes_in (held p))) b) (both u (cr_fits p.len (bytes_in (held p)))) ≡ viable (held p ++ b ∷ [])
      go true h u e = digit_goes h
      go false h true e = cr_goes (eqb-true b 0x0D e)
      go false h false e = sym (step_other (held p) b v any opened h (eqb-false b 0x0D e))
