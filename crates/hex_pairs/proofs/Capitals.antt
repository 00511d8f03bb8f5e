-- A text in capitals spells what the text spells; and what is written is in capitals. Assumes nothing.
use Rattle.std.proofs.Common.{◌≡◌, ℕ, suc, ◌-◌, ◌/◌, ◌%◌, false, List, [], ◌∷◌, ◌++◌, length, sym, refl, ap, ◌∙◌, ap₂, arith, le-leb, Some}
use mathlib.Core.List.{head-eq_of_cons-eq, tail-eq_of_cons-eq}
use Rattle.base.proofs.Tests.{both_in, not_both}
use Rattle.hex_pairs.specs.Hex.{is_capital, is_hex, digit_value, digit_of, capital_of, capitals, joined, pair_value, hex_of, spelt, bytes_of}
use Rattle.hex_pairs.proofs.Characters.{value_capital, value_small, capital_below, by_case, digit_rest}
use Rattle.hex_pairs.proofs.RoundTrip.{value_digit, digit_value_lem, is_value, hex_is_value}

-- ---- characters
-- a letter is worth what its capital is, and a digit where that is one
pub value_of_capital : (c : ℕ) → digit_value (capital_of c) ≡ digit_value c
value_of_capital c =
    by_case (λ (x : ℕ). digit_value x ≡ digit_value c) c
    (λ h k. sym (value_capital (c - 0x20) (omega arith) (omega arith)) ∙ ap Some (omega arith) ∙ value_small c h k)
    (λ e. refl)

pub hex_of_capital : (c : ℕ) → is_hex (capital_of c) ≡ is_hex c
hex_of_capital c = hex_is_value (capital_of c) ∙ ap is_value (value_of_capital c) ∙ sym (hex_is_value c)

-- what is in capitals stays, and a digit that is written is
pub capital_twice : (c : ℕ) → capital_of (capital_of c) ≡ capital_of c
capital_twice c = by_case (λ (x : ℕ). capital_of x ≡ x) c (λ h k. sym (capital_below (c - 0x20) (omega arith))) sym

pub capital_digit : (n : ℕ) → capital_of (digit_of n) ≡ digit_of n
capital_digit n = ap capital_of (sym (digit_rest n)) ∙ sym (digit_value_lem (digit_of (n % 16)) (n % 16) (value_digit (n % 16) (omega arith))) ∙ digit_rest n

-- what is no A-F in capitals was there already: `:`, CR, LF and `=`
pub capital_only : (c k : ℕ) → is_capital k ≡ false → capital_of c ≡ k → c ≡ k
capital_only c k n =
    by_case (λ (x : ℕ). x ≡ k → c ≡ k) c
    (λ h g e. absurd (not_both (both_in (le-leb 0x41 k (omega (arith, e))) (le-leb k 0x46 (omega (arith, e)))) n))
    (λ e q. q)

-- ---- texts
pub length_capitals : (t : List ℕ) → length (capitals t) ≡ length t
unfolding capitals
length_capitals [] = refl
length_capitals (c ∷ t) = ap suc (length_capitals t)

pub capitals_append : (t u : List ℕ) → capitals (t ++ u) ≡ capitals t ++ capitals u
unfolding capitals
capitals_append [] u = refl
capitals_append (c ∷ t) u = ap (λ (s : List ℕ). capital_of c ∷ s) (capitals_append t u)

pub capitals_twice : (t : List ℕ) → capitals (capitals t) ≡ capitals t
unfolding capitals
capitals_twice [] = refl
capitals_twice (c ∷ t) = ap₂ ◌∷◌ (capital_twice c) (capitals_twice t)

pub capitals_hex : (s : List ℕ) → capitals (hex_of s) ≡ hex_of s
unfolding capitals hex_of
capitals_hex [] = refl
capitals_hex (b ∷ s) = (λ i. capital_digit (b / 16) i ∷ capital_digit (b % 16) i ∷ capitals_hex s i)

-- the pairs of a text spell the same bytes in capitals
pub pair_of_capitals : (high low : ℕ) → pair_value (capital_of high) (capital_of low) ≡ pair_value high low
unfolding pair_value
pair_of_capitals high low = ap₂ joined (value_of_capital high) (value_of_capital low)

pub bytes_of_capitals : (t : List ℕ) → bytes_of (capitals t) ≡ bytes_of t
unfolding capitals bytes_of
bytes_of_capitals [] = refl
bytes_of_capitals (c ∷ []) = refl
bytes_of_capitals (high ∷ low ∷ t) = ap₂ spelt (pair_of_capitals high low) (bytes_of_capitals t)

-- what is x and y in capitals has a part for each
pub record Parts (t x y : List ℕ) : Type 0 where
  pub left : List ℕ
  pub right : List ℕ
  pub text : t ≡ left ++ right
  pub left_is : capitals left ≡ x
  pub right_is : capitals right ≡ y

pub capitals_parts : (t x y : List ℕ) → capitals t ≡ x ++ y → Parts t x y
unfolding capitals
capitals_parts t [] y e = record { left = []; right = t; text = refl; left_is = refl; right_is = e }
capitals_parts [] (c ∷ x) y e = absurd (omega (arith, ap length e))
capitals_parts (d ∷ t) (c ∷ x) y e =
    let r = capitals_parts t x y (tail-eq_of_cons-eq e) in
    record {
      left = d ∷ r.left;
      right = r.right;
      text = ap (λ (s : List ℕ). d ∷ s) r.text;
      left_is = ap₂ ◌∷◌ (head-eq_of_cons-eq e) r.left_is;
      right_is = r.right_is;
    }
