-- Four characters that spell a word, in either letters. Assumes nothing.
use Rattle.std.proofs.Common.{Some}
use mathlib.Core.Path.{◌≡◌, refl, sym, ap, ap₂, ◌∙◌}
use mathlib.Core.Bool.{true}
use mathlib.Core.List.{List, [], ◌∷◌, ◌++◌, head-eq_of_cons-eq, tail-eq_of_cons-eq}
use Prim.Native.Nat.{ℕ, ◌/◌, ◌%◌, ◌<◌}
use native.Mathlib.Omega.{arith}
use lib.ListN.{length}
use Rattle.hex_pairs.specs.Hex.{is_hex, digit_of, capital_of, capitals, pair_value, hex_of}
use Rattle.hex_pairs.proofs.RoundTrip.{digit_hex, pair_digits}
use Rattle.hex_pairs.proofs.Capitals.{hex_of_capital, pair_of_capitals, capitals_append, capitals_hex}
use Rattle.nfo_parts.specs.Parts.{word_in}
use Rattle.nfo_parts.specs.Replies.{digits_of, Spells, body_of}

-- the digits that are written spell it
pub digits_spell : (word : ℕ) → Spells (digits_of word) word
unfolding digits_of
digits_spell word = capitals_hex (word / 256 ∷ word % 256 ∷ [])

-- so what the BCC of a written REPLY is made of is in capitals
pub body_capitals : (e word : ℕ) → capitals (body_of e word) ≡ body_of e word
unfolding body_of capitals capital_of
body_capitals e word =
    let value : capitals (digits_of word ++ (0x03 ∷ [])) ≡ digits_of word ++ (0x03 ∷ []) =
    capitals_append (digits_of word) (0x03 ∷ []) ∙ ap (λ (t : List ℕ). t ++ (0x03 ∷ [])) (digits_spell word) in
    ap (λ (t : List ℕ). 0x45 ∷ t)
    (capitals_append (digits_of e) (0x3D ∷ digits_of word ++ (0x03 ∷ [])) ∙ (λ i. digits_spell e i ++ (0x3D ∷ value i)))

-- a character that is a digit in capitals is a hex digit
is_hex_lem : (c n : ℕ) → capital_of c ≡ digit_of n → is_hex c ≡ true
is_hex_lem c n e = sym (hex_of_capital c) ∙ ap is_hex e ∙ digit_hex n

-- two that are the digits of a byte in capitals spell the byte
spell_byte : (high low b : ℕ) → b < 256 → capital_of high ≡ digit_of (b / 16) → capital_of low ≡ digit_of (b % 16) → pair_value high low ≡ Some b
spell_byte high low b h p q = sym (pair_of_capitals high low) ∙ ap₂ pair_value p q ∙ pair_digits b h

-- four hex digits, and the word that they are worth
pub record Four (characters : List ℕ) (word : ℕ) : Type 0 where
  pub a : ℕ
  pub b : ℕ
  pub c : ℕ
  pub d : ℕ
  pub are : characters ≡ a ∷ b ∷ c ∷ d ∷ []
  pub hex : (is_hex a ≡ true) × (is_hex b ≡ true) × (is_hex c ≡ true) × (is_hex d ≡ true)
  pub value : word < 65536 → word_in (pair_value a b) (pair_value c d) ≡ Some word

pub four : (characters : List ℕ) (word : ℕ) → Spells characters word → Four characters word
unfolding capitals digits_of hex_of
four [] word e = absurd (omega (arith, ap length e))
four (a ∷ []) word e = absurd (omega (arith, ap length e))
four (a ∷ b ∷ []) word e = absurd (omega (arith, ap length e))
four (a ∷ b ∷ c ∷ []) word e = absurd (omega (arith, ap length e))
four (a ∷ b ∷ c ∷ d ∷ x ∷ more) word e = absurd (omega (arith, ap length e))
four (a ∷ b ∷ c ∷ d ∷ []) word e =
    let p : capital_of a ≡ digit_of (word / 256 / 16) = head-eq_of_cons-eq e in
    let q : capital_of b ≡ digit_of (word / 256 % 16) = head-eq_of_cons-eq (tail-eq_of_cons-eq e) in
    let r : capital_of c ≡ digit_of (word % 256 / 16) = head-eq_of_cons-eq (tail-eq_of_cons-eq (tail-eq_of_cons-eq e)) in
    let s : capital_of d ≡ digit_of (word % 256 % 16) = head-eq_of_cons-eq (tail-eq_of_cons-eq (tail-eq_of_cons-eq (tail-eq_of_cons-eq e))) in
    record {
      a = a;
      b = b;
      c = c;
      d = d;
      are = refl;
      hex = (is_hex_lem a _ p, is_hex_lem b _ q, is_hex_lem c _ r, is_hex_lem d _ s);
      value = λ h.
          ap₂ word_in (spell_byte a b (word / 256) (omega arith) p q) (spell_byte c d (word % 256) (omega arith) r s) ∙ ap Some (omega arith);
    }
