-- What the code's loop, tests and calls show of the pairs pending. Assumes nothing.
use Rattle.std.proofs.Common.{◌≡◌, ℕ, zero, suc, ◌+◌, ◌-◌, ◌*◌, ◌<◌, ◌≤◌, true, false, eqb, List, [], ◌∷◌, length, take, drop, sym, refl, ap, ◌∙◌, arith, length-drop, length-take, w64, Fits, eq-eqb, eqb-true}
use lib.Seq.{take-nil}
use Rattle.base.specs.Choice.{both}
use Rattle.base.proofs.Tests.{both_out, is_false}
use Rattle.hex_pairs.specs.Hex.{bytes_of}
use Rattle.hex_pairs.proofs.RoundTrip.{length_bytes}
use Rattle.checks.specs.Lrc.{sum_of, adds_to_zero, lrc_after, lrc_of}
use Rattle.ascii.specs.Ascii.{bytes_in, counted, right}
use Rattle.ascii.proofs.Message.{counted_out, counted_in}
use Rattle.ascii_scan.specs.declared.pairs.Pairs.{Pairs}
use Rattle.ascii_scan.specs.Pairs.{pairs_of}
use Rattle.ascii_scan.specs.Scan.{cr_fits}

-- ---- the digits pending are the part from the second byte on
pub part_drop : (l : List ℕ) (n : ℕ) → take (n - 1) (drop 1 l) ≡ drop 1 (take n l)
part_drop l zero = refl
part_drop [] (suc n) = take-nil (suc n - 1)
part_drop (x ∷ l) (suc n) = let m : suc n - 1 ≡ n = omega arith in ap (λ (k : ℕ). take k l) m

pub part_bytes : (l : List ℕ) (n : ℕ) → bytes_of (take (n - 1) (drop 1 l)) ≡ bytes_in (take n l)
unfolding bytes_in
part_bytes l n = ap bytes_of (part_drop l n)

pub pairs_part : (l : List ℕ) (n : ℕ) (r : Pairs) → r ≡ pairs_of (bytes_of (take (n - 1) (drop 1 l))) → r ≡ pairs_of (bytes_in (take n l))
pairs_part l n r e = e ∙ ap pairs_of (part_bytes l n)

-- there are no more than half as many as digits
module _ (l : List ℕ) (n : ℕ) (r : Pairs) (e : r ≡ pairs_of (bytes_in (take n l))) (few : n ≤ 511) where
  pub pairs_few : 2 * r.count ≤ 511
  unfolding pairs_of bytes_in
  pairs_few =
      let k : r.count ≡ length (bytes_of (drop 1 (take n l))) = ap (λ (x : Pairs). x.count) e in
      omega (arith, length_bytes (drop 1 (take n l)), length-drop 1 (take n l), length-take n l)

  pub twice_fits : Fits w64 (2 * r.count)
  twice_fits = omega (arith, pairs_few)

-- ---- the LRC, by the sum
pub lrc_told : (b : List ℕ) (p : Pairs) (r : ℕ) → p ≡ pairs_of b → r ≡ lrc_after p.sum → r ≡ lrc_of b
unfolding pairs_of lrc_of
lrc_told b p r e h = h ∙ ap (λ (x : Pairs). lrc_after x.sum) e

-- ---- CR, by the count of bytes pending and by the pairs
module _ (n : ℕ) (b : List ℕ) where
  fits_out : cr_fits n b ≡ true → (n ≡ 2 * length b + 1) × (3 ≤ length b) × (length b ≤ 255)
  unfolding cr_fits right
  fits_out e =
      let h = both_out (eqb n (2 * length b + 1)) (both (counted b) (adds_to_zero b)) e in
      let k = counted_out b (both_out (counted b) (adds_to_zero b) h.1).0 in
      (eqb-true n (2 * length b + 1) h.0, k.0, k.1)

  pub cr_under : n < 7 → false ≡ cr_fits n b
  cr_under l = sym (is_false (cr_fits n b) (λ e. let h = fits_out e in omega (arith, h.0, h.1)))

  pub cr_over : 511 < n → false ≡ cr_fits n b
  cr_over l = sym (is_false (cr_fits n b) (λ e. let h = fits_out e in omega (arith, h.0, h.2)))

  module _ (p : Pairs) (q : p ≡ pairs_of b) where
    pub cr_unpaired : (n ≡ 2 * p.count + 1 → ⊥) → false ≡ cr_fits n b
    unfolding pairs_of
    cr_unpaired w =
        let k : p.count ≡ length b = ap (λ (x : Pairs). x.count) q in
        sym (is_false (cr_fits n b) (λ e. w (omega (arith, (fits_out e).0))))

    pub cr_paired : n ≡ 2 * p.count + 1 → 7 ≤ n → n ≤ 511 → eqb p.sum 0 ≡ cr_fits n b
    unfolding pairs_of cr_fits right adds_to_zero
    cr_paired w l h =
        let k : p.count ≡ length b = ap (λ (x : Pairs). x.count) q in
        let s : p.sum ≡ sum_of b = ap (λ (x : Pairs). x.sum) q in
        simp (s, eq-eqb n (2 * length b + 1) (omega arith), counted_in b (omega arith) (omega arith))
