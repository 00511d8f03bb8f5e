-- The limit: behind 508 digits only the two of the LRC have room. The bytes add to 0 exactly where the last two digits are these, in either letters.
-- Assumes nothing.
use Rattle.std.proofs.Common.{◌≡◌, ℕ, suc, ◌/◌, ◌%◌, true, eqb, List, [], ◌∷◌, ◌++◌, length, get_or, take, sym, refl, ap, ◌∙◌, arith, length-take-le, take_all, take-suc, eq-eqb, eqb-true, Option, Some}
use lib.Seq.{append_snoc}
use Rattle.base.specs.Choice.{both}
use Rattle.base.proofs.Tests.{both_out, both_in, same_test}
use Rattle.hex_pairs.specs.Hex.{is_hex, all_hex, digit_of, capital_of, pair_value, spelt, bytes_of}
use Rattle.hex_pairs.proofs.RoundTrip.{Whole, all_append, hex_whole, bytes_append, hex_pair, pair_below, pair_digits, digits_pair}
use Rattle.hex_pairs.proofs.Capitals.{pair_of_capitals}
use Rattle.checks.specs.Lrc.{adds_to_zero, lrc_of}
use Rattle.checks.proofs.Laws.{lrc_below, adds_lrc, adds_only}
use Rattle.ascii.proofs.Message.{whole_bytes}

-- one character is no pair
pub one_none : (c : ℕ) → bytes_of (c ∷ []) ≡ []
unfolding bytes_of
one_none c = refl

-- 509 hex digits d, and the digit b behind them
module _ (d : List ℕ) (b : ℕ) (hex : all_hex d ≡ true) (n : length d ≡ 509) (digit : is_hex b ≡ true) where
  -- the 509th
  x : ℕ
  x = get_or d 508 0

  split : d ≡ take 508 d ++ x ∷ []
  unfolding x
  split = sym (take_all (suc 508) d (omega arith)) ∙ take-suc d 508 0 (omega arith)

  parts : (all_hex (take 508 d) ≡ true) × (all_hex (x ∷ []) ≡ true)
  parts = both_out (all_hex (take 508 d)) (all_hex (x ∷ [])) (sym (all_append (take 508 d) (x ∷ [])) ∙ ap all_hex (sym split) ∙ hex)

  whole : Whole (take 508 d)
  whole = hex_whole (take 508 d) 254 parts.0 (length-take-le 508 d (omega arith))

  body : bytes_of (take 508 d) ≡ bytes_of d
  body = sym (ap bytes_of split ∙ whole_bytes (take 508 d) (x ∷ []) whole (one_none x))

  all : bytes_of (d ++ b ∷ []) ≡ bytes_of d ++ bytes_of (x ∷ b ∷ [])
  all =
      ap (λ (q : List ℕ). bytes_of (q ++ b ∷ [])) split
      ∙ ap bytes_of (append_snoc (take 508 d) x (b ∷ []))
      ∙ bytes_append (take 508 d) (x ∷ b ∷ []) whole
      ∙ ap (λ (q : List ℕ). q ++ bytes_of (x ∷ b ∷ [])) body

  -- the last pair spells y
  last : (y : ℕ) → pair_value x b ≡ Some y → bytes_of (d ++ b ∷ []) ≡ bytes_of d ++ y ∷ []
  unfolding bytes_of
  last y e = all ∙ ap (λ (p : Option ℕ). bytes_of d ++ spelt p []) e

  pub last_pair : adds_to_zero (bytes_of (d ++ b ∷ []))
      ≡ both (eqb (capital_of (get_or d 508 0)) (digit_of (lrc_of (bytes_of d) / 16))) (eqb (capital_of b) (digit_of (lrc_of (bytes_of d) % 16)))
  unfolding all_hex x
  last_pair = same_test _ _ there back
    where
      lrc : ℕ
      lrc = lrc_of (bytes_of d)

      y : (v : ℕ) × (pair_value x b ≡ Some v)
      y = hex_pair x b (both_out (is_hex x) true parts.1).0 digit

      there : adds_to_zero (bytes_of (d ++ b ∷ [])) ≡ true → both (eqb (capital_of x) (digit_of (lrc / 16))) (eqb (capital_of b) (digit_of (lrc % 16))) ≡ true
      there e =
          let is : y.0 ≡ lrc = adds_only (bytes_of d) y.0 (pair_below x b y.0 y.1) (sym (ap adds_to_zero (last y.0 y.1)) ∙ e) in
          let digits = digits_pair x b y.0 y.1 in
          both_in (eq-eqb (capital_of x) _ (sym digits.0 ∙ ap (λ (v : ℕ). digit_of (v / 16)) is)) (eq-eqb (capital_of b) _ (sym digits.1 ∙ ap (λ (v : ℕ). digit_of (v % 16)) is))

      back : both (eqb (capital_of x) (digit_of (lrc / 16))) (eqb (capital_of b) (digit_of (lrc % 16))) ≡ true → adds_to_zero (bytes_of (d ++ b ∷ [])) ≡ true
      back e =
          let h = both_out (eqb (capital_of x) (digit_of (lrc / 16))) (eqb (capital_of b) (digit_of (lrc % 16))) e in
          let high : capital_of x ≡ digit_of (lrc / 16) = eqb-true (capital_of x) _ h.0 in
          let low : capital_of b ≡ digit_of (lrc % 16) = eqb-true (capital_of b) _ h.1 in
          let is : pair_value x b ≡ Some lrc = sym (pair_of_capitals x b) ∙ (λ i. pair_value (high i) (low i)) ∙ pair_digits lrc (lrc_below (bytes_of d)) in
          ap adds_to_zero (last lrc is) ∙ adds_lrc (bytes_of d)
