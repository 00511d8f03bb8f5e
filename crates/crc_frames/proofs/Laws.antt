-- What a line says, by the code's tests. Assumes nothing.
use Rattle.std.proofs.Common.{◌≡◌, ℕ, ◌-◌, ◌*◌, ◌<◌, ◌≤◌, true, false, eqb, List, [], ◌∷◌, length, take, sym, refl, ap, ◌∙◌, arith, eq-eqb, le-ltb, lt-ltb, Some, None}
use borrow.Author.Tests.{ne_eqb}
use lib.Pointwise.{pointwise}
use lib.Seq.{sets}
use Rattle.std.proofs.Math.Bool.{and-true, and-false}
use Rattle.std.specs.List.{slice_range}
use Rattle.base.proofs.Sets.{take_sets}
use Rattle.hex_pairs.specs.Hex.{bytes_of}
use Rattle.checks.specs.Crc.{crc_of}
use Rattle.crc_frames.specs.Line.{is_dash, answer_of}

-- the code's `==`
dash_alone : (line : List ℕ) → pointwise eqb line (0x2D ∷ []) ≡ is_dash line
unfolding is_dash
dash_alone [] = refl
dash_alone (x ∷ []) = and-true (eqb x 0x2D)
dash_alone (x ∷ y ∷ t) = let more : eqb (length (x ∷ y ∷ t)) 1 ≡ false = ne_eqb (length (x ∷ y ∷ t)) 1 (λ e. absurd (omega arith)) in simp (more, and-false)

pub answer_dash : (line : List ℕ) → pointwise eqb line (0x2D ∷ []) ≡ true → answer_of line ≡ Some (crc_of [])
unfolding answer_of
answer_dash line h = simp (sym (dash_alone line) ∙ h)

module _ (line : List ℕ) (h : pointwise eqb line (0x2D ∷ []) ≡ false) where
  pub answer_none : length (bytes_of line) ≡ 0 → answer_of line ≡ None
  unfolding answer_of
  answer_none z = simp (sym (dash_alone line) ∙ h, z)

  pub answer_many : 512 < length (bytes_of line) → answer_of line ≡ None
  unfolding answer_of
  answer_many m = simp (sym (dash_alone line) ∙ h, ne_eqb (length (bytes_of line)) 0 (λ z. absurd (omega arith)), lt-ltb 512 (length (bytes_of line)) m)

  pub answer_spoilt : 0 < length (bytes_of line) → length (bytes_of line) ≤ 512 → (2 * length (bytes_of line) ≡ length line → ⊥) → answer_of line ≡ None
  unfolding answer_of
  answer_spoilt z m w =
      simp (sym (dash_alone line) ∙ h, ne_eqb (length (bytes_of line)) 0 (λ e. absurd (omega arith)), le-ltb 512 (length (bytes_of line)) m, ne_eqb (2 * length (bytes_of line)) (length line) w)

  pub answer_frame : 0 < length (bytes_of line) → length (bytes_of line) ≤ 512 → 2 * length (bytes_of line) ≡ length line → answer_of line ≡ Some (crc_of (bytes_of line))
  unfolding answer_of
  answer_frame z m w =
      simp (sym (dash_alone line) ∙ h, ne_eqb (length (bytes_of line)) 0 (λ e. absurd (omega arith)), le-ltb 512 (length (bytes_of line)) m, eq-eqb (2 * length (bytes_of line)) (length line) w)

-- what was decoded, where there is room for it, is there
pub read_back : (bytes l : List ℕ) (n : ℕ) → n ≡ length bytes → length bytes ≤ length l → slice_range (sets l 0 bytes) 0 n ≡ bytes
read_back bytes l n e h = let all : n - 0 ≡ length bytes = omega arith in ap (λ (k : ℕ). take k (sets l 0 bytes)) all ∙ take_sets bytes l h

-- what the tests of `line_crc` show
pub ruleset answers = (answer_dash, answer_none, answer_many, answer_spoilt, answer_frame, read_back)
