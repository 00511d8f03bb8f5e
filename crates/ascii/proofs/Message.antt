-- Messages and their digits: `:`, whole pairs whose bytes are right, CR LF is a message, in either letters, and every message is such a text. Assumes nothing.
use Rattle.std.proofs.Common.{◌≡◌, ℕ, ◌+◌, ◌*◌, ◌≤◌, true, leb, List, [], ◌∷◌, ◌++◌, length, sym, refl, ap, ◌∙◌, append-nil, arith, length-append, le-leb, leb-true}
use mathlib.Core.List.{head-eq_of_cons-eq, tail-eq_of_cons-eq}
use Rattle.base.specs.Bytes.{AllBelow, Bytes, same}
use Rattle.base.proofs.Tests.{both_out, both_in}
use Rattle.base.proofs.Lists.{below_append, same_out, same_in}
use Rattle.hex_pairs.specs.Hex.{is_hex, all_hex, digit_value, capital_of, capitals, pair_value, hex_of, bytes_of}
use Rattle.hex_pairs.proofs.RoundTrip.{Whole, hex_range, length_hex, hex_all, bytes_of_hex, bytes_below, hex_whole, whole_hex, hex_of_bytes, bytes_append}
use Rattle.hex_pairs.proofs.Capitals.{capital_only, length_capitals, capitals_append, capitals_hex, capitals_twice, bytes_of_capitals, capitals_parts}
use Rattle.checks.specs.Lrc.{adds_to_zero}
use Rattle.ascii.specs.Ascii.{text_of, bytes_in, counted, right, formed}

-- ---- the pairs end at CR
pub cr_none : (z : List ℕ) → bytes_of (0x0D ∷ z) ≡ []
unfolding bytes_of pair_value digit_value
cr_none [] = refl
cr_none (y ∷ z) = refl

-- behind whole pairs, what spells nothing adds nothing
pub whole_bytes : (d z : List ℕ) → Whole d → bytes_of z ≡ [] → bytes_of (d ++ z) ≡ bytes_of d
whole_bytes d z w e = bytes_append d z w ∙ ap (λ (q : List ℕ). bytes_of d ++ q) e ∙ append-nil (bytes_of d)

pub encoded_whole : (b : List ℕ) → Whole (hex_of b)
encoded_whole b = hex_whole (hex_of b) (length b) (hex_all b) (length_hex b)

pub text_bytes : (b : List ℕ) → Bytes b → bytes_in (text_of b) ≡ b
unfolding bytes_in text_of
text_bytes b h = whole_bytes (hex_of b) (0x0D ∷ 0x0A ∷ []) (encoded_whole b) (cr_none (0x0A ∷ [])) ∙ bytes_of_hex b h

pub text_length : (b : List ℕ) → length (text_of b) ≡ 2 * length b + 3
unfolding text_of
text_length b = omega (arith, length-append (hex_of b) (0x0D ∷ 0x0A ∷ []), length_hex b)

-- it is in capitals
pub text_capitals : (b : List ℕ) → capitals (text_of b) ≡ text_of b
unfolding text_of capitals capital_of
text_capitals b = ap (λ (t : List ℕ). 0x3A ∷ t) (capitals_append (hex_of b) (0x0D ∷ 0x0A ∷ []) ∙ ap (λ (t : List ℕ). t ++ 0x0D ∷ 0x0A ∷ []) (capitals_hex b))

-- ---- a message, taken apart and put together
pub record Message (m : List ℕ) : Type 0 where
  pub digits : List ℕ
  pub text : m ≡ 0x3A ∷ digits ++ 0x0D ∷ 0x0A ∷ []
  pub whole : Whole digits
  pub low : 3 ≤ length (bytes_of digits)
  pub high : length (bytes_of digits) ≤ 255
  pub zeroed : adds_to_zero (bytes_of digits) ≡ true

pub counted_out : (b : List ℕ) → counted b ≡ true → (3 ≤ length b) × (length b ≤ 255)
unfolding counted
counted_out b e =
    let h = both_out (leb 3 (length b)) (leb (length b) 255) e in
    (leb-true 3 (length b) h.0, leb-true (length b) 255 h.1)

pub counted_in : (b : List ℕ) → 3 ≤ length b → length b ≤ 255 → counted b ≡ true
unfolding counted
counted_in b l h = both_in (le-leb 3 (length b) l) (le-leb (length b) 255 h)

-- CR LF in capitals is CR LF
ending : (r : List ℕ) → capitals r ≡ 0x0D ∷ 0x0A ∷ [] → r ≡ 0x0D ∷ 0x0A ∷ []
unfolding capitals
ending [] e = absurd (omega (arith, ap length e))
ending (x ∷ []) e = absurd (omega (arith, ap length e))
ending (x ∷ y ∷ []) e =
    (λ i. capital_only x 0x0D refl (head-eq_of_cons-eq e) i ∷ capital_only y 0x0A refl (head-eq_of_cons-eq (tail-eq_of_cons-eq e)) i ∷ [])
ending (x ∷ y ∷ z ∷ r) e = absurd (omega (arith, ap length e))

-- what is the text of bytes b in capitals: `:`, digits that are those of b in capitals, CR LF
record Spelt (m b : List ℕ) : Type 0 where
  digits : List ℕ
  text : m ≡ 0x3A ∷ digits ++ 0x0D ∷ 0x0A ∷ []
  are : capitals digits ≡ hex_of b

spelt : (m b : List ℕ) → capitals m ≡ text_of b → Spelt m b
unfolding capitals text_of
spelt [] b e = absurd (omega (arith, ap length e))
spelt (x ∷ m) b e =
    let r = capitals_parts m (hex_of b) (0x0D ∷ 0x0A ∷ []) (tail-eq_of_cons-eq e) in
    record {
      digits = r.left;
      text = (λ i. capital_only x 0x3A refl (head-eq_of_cons-eq e) i ∷ (r.text ∙ ap (λ (z : List ℕ). r.left ++ z) (ending r.right r.right_is)) i);
      are = r.left_is;
    }

-- the digits spell b
spelt_bytes : (d b : List ℕ) → Bytes b → capitals d ≡ hex_of b → bytes_of d ≡ b
spelt_bytes d b h e = sym (bytes_of_capitals d) ∙ ap bytes_of e ∙ bytes_of_hex b h

spelt_whole : (d b : List ℕ) → Bytes b → capitals d ≡ hex_of b → Whole d
spelt_whole d b h e = omega (arith, ap length (spelt_bytes d b h e), length_hex b, ap length e, length_capitals d)

-- a message in capitals is the text of its bytes
pub message_text : (m : List ℕ) → formed m ≡ true → capitals m ≡ text_of (bytes_in m)
unfolding formed
message_text m e = same_out (capitals m) (text_of (bytes_in m)) (both_out (same (capitals m) (text_of (bytes_in m))) (right (bytes_in m)) e).0

pub message_right : (m : List ℕ) → formed m ≡ true → (3 ≤ length (bytes_in m)) × (length (bytes_in m) ≤ 255) × (adds_to_zero (bytes_in m) ≡ true)
unfolding formed right
message_right m e =
    let h = both_out (same (capitals m) (text_of (bytes_in m))) (right (bytes_in m)) e in
    let k = both_out (counted (bytes_in m)) (adds_to_zero (bytes_in m)) h.1 in
    let l = counted_out (bytes_in m) k.0 in
    (l.0, l.1, k.1)

pub message_out : (m : List ℕ) → formed m ≡ true → Message m
unfolding bytes_in
message_out m e =
    let s = spelt m (bytes_in m) (message_text m e) in
    let bytes : bytes_of s.digits ≡ bytes_in m = spelt_bytes s.digits (bytes_in m) (bytes_below _) s.are in
    let r = message_right m e in
    record {
      digits = s.digits;
      text = s.text;
      whole = spelt_whole s.digits (bytes_in m) (bytes_below _) s.are;
      low = rw bytes r.0;
      high = rw bytes r.1;
      zeroed = rw bytes r.2;
    }

-- the bytes of whole digits between `:` and CR LF
pub line_bytes : (d : List ℕ) → Whole d → bytes_in (0x3A ∷ d ++ 0x0D ∷ 0x0A ∷ []) ≡ bytes_of d
unfolding bytes_in
line_bytes d w = whole_bytes d (0x0D ∷ 0x0A ∷ []) w (cr_none (0x0A ∷ []))

line_text : (d : List ℕ) → Whole d → capitals (0x3A ∷ d ++ 0x0D ∷ 0x0A ∷ []) ≡ text_of (bytes_of d)
unfolding capitals capital_of text_of
line_text d w = ap (λ (t : List ℕ). 0x3A ∷ t) (capitals_append d (0x0D ∷ 0x0A ∷ []) ∙ ap (λ (t : List ℕ). t ++ 0x0D ∷ 0x0A ∷ []) (sym (hex_of_bytes d w)))

pub line_formed : (d : List ℕ) → Whole d → formed (0x3A ∷ d ++ 0x0D ∷ 0x0A ∷ []) ≡ right (bytes_of d)
unfolding formed
line_formed d w = rw (line_bytes d w, line_text d w, same_in (text_of (bytes_of d)))

pub message_in : (d : List ℕ) → Whole d → 3 ≤ length (bytes_of d) → length (bytes_of d) ≤ 255 → adds_to_zero (bytes_of d) ≡ true
    → formed (0x3A ∷ d ++ 0x0D ∷ 0x0A ∷ []) ≡ true
unfolding right
message_in d w l h z = line_formed d w ∙ both_in (counted_in (bytes_of d) l h) z

-- the text of right bytes is one
pub text_formed : (b : List ℕ) → Bytes b → 3 ≤ length b → length b ≤ 255 → adds_to_zero b ≡ true → formed (text_of b) ≡ true
unfolding text_of
text_formed b h l g z =
    let is : bytes_of (hex_of b) ≡ b = bytes_of_hex b h in
    message_in (hex_of b) (encoded_whole b) (rw is l) (rw is g) (rw is z)

-- ---- letters: a text is a message where it is one in capitals, and spells the same bytes
pub bytes_in_capitals : (m : List ℕ) → bytes_in (capitals m) ≡ bytes_in m
unfolding bytes_in capitals
bytes_in_capitals [] = refl
bytes_in_capitals (x ∷ m) = bytes_of_capitals m

pub formed_in_capitals : (m : List ℕ) → formed (capitals m) ≡ formed m
unfolding formed
formed_in_capitals m = rw (bytes_in_capitals m, capitals_twice m)

-- ---- hex digits are bytes
pub hex_bytes_below : (t : List ℕ) → all_hex t ≡ true → Bytes t
unfolding all_hex AllBelow
hex_bytes_below [] e = tt
hex_bytes_below (c ∷ t) e =
    let h = both_out (is_hex c) (all_hex t) e in
    (omega (arith, (hex_range c h.0).1), hex_bytes_below t h.1)

pub message_below : (m : List ℕ) → formed m ≡ true → Bytes m
unfolding AllBelow
message_below m e =
    let r = message_out m e in
    rw r.text
    (omega arith, below_append 256 r.digits (0x0D ∷ 0x0A ∷ []) (hex_bytes_below r.digits (whole_hex r.digits r.whole)) (omega arith, (omega arith, tt)))
