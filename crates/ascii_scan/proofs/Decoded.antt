-- What the code decodes: the bytes that the pairs behind the first byte held spell. Assumes nothing.
use Rattle.std.proofs.Common.{◌≡◌, ℕ, suc, ◌-◌, ◌<◌, ◌≤◌, min, Bool, true, false, ltb, List, [], ◌∷◌, length, take, drop, sym, refl, ap, ◌∙◌, arith, length-drop, length-take, take_all, ltb-false, ltb-true}
use borrow.Rule.Slice.PartMut.{mid_of}
use lib.Seq.{sets}
use Rattle.base.specs.Buffers.{front}
use Rattle.base.proofs.Sets.{sets_front}
use Rattle.hex_pairs.specs.Hex.{bytes_of}
use Rattle.hex_pairs.proofs.RoundTrip.{length_bytes}
use Rattle.ascii.specs.Ascii.{bytes_in, unit_among}
use Rattle.ascii_scan.proofs.Summed.{part_bytes}

-- ---- `message_bytes`: k digits are held behind the first byte of the 512 of the array l
module _ (l : List ℕ) (n j k : ℕ) (size : length l ≡ 512) (d : j ≡ n - 1) (e : k ≡ min j 511) where
  spelt : bytes_of (take k (mid_of 1 511 l)) ≡ bytes_in (take n l)
  spelt = ap bytes_of (ap (take k) (take_all 511 (drop 1 l) (omega (arith, length-drop 1 l))) ∙ go (ltb j 511) refl ∙ ap (λ (i : ℕ). take i (drop 1 l)) d) ∙ part_bytes l n
    where
      go : (t : Bool) → ltb j 511 ≡ t → take k (drop 1 l) ≡ take j (drop 1 l)
      go true q = let m : k ≡ j = omega (arith, ltb-true j 511 q) in ap (λ (i : ℕ). take i (drop 1 l)) m
      go false q =
          let h : 511 ≤ j = ltb-false j 511 q in
          take_all k (drop 1 l) (omega (arith, length-drop 1 l)) ∙ sym (take_all j (drop 1 l) (omega (arith, length-drop 1 l)))

  pub message_count : (r : ℕ) → r ≡ length (bytes_of (take k (mid_of 1 511 l))) → r ≡ length (bytes_in (take n l))
  message_count r q = q ∙ ap length spelt

  pub message_lent : (o r : List ℕ) → length o ≡ 256 → r ≡ sets o 0 (bytes_of (take k (mid_of 1 511 l))) → r ≡ front (bytes_in (take n l)) o
  message_lent o r room q =
      q
      ∙ sets_front (bytes_of (take k (mid_of 1 511 l))) o
      (omega (arith, length_bytes (take k (mid_of 1 511 l)), length-take k (mid_of 1 511 l), length-take 511 (drop 1 l)))
      ∙ ap (λ (b : List ℕ). front b o) spelt

-- ---- the data unit is the part between the first byte and the last
pub unit_none : (b : List ℕ) → length b < 2 → [] ≡ unit_among b
unfolding unit_among
unit_none [] h = refl
unit_none (x ∷ []) h = refl
unit_none (x ∷ y ∷ b) h = absurd (omega arith)

pub unit_part : (b : List ℕ) → 2 ≤ length b → take (length b - 1 - 1) (drop 1 b) ≡ unit_among b
unfolding unit_among
unit_part [] h = absurd (omega arith)
unit_part (x ∷ b) h = let n : suc (length (x ∷ b) - 1 - 1) ≡ length (x ∷ b) - 1 = omega arith in ap (λ (n : ℕ). drop 1 (take n (x ∷ b))) n
