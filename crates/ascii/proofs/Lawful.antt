-- Modbus ASCII is a lawful format, so the theorem of left-to-right reading holds of it. Assumes nothing.
use Rattle.std.proofs.Common.{◌≡◌, ℕ, ◌≤◌, true, eqb, List, [], ◌∷◌, ◌++◌, length, sym, refl, ap, ◌∙◌, ⊎_elim, append_assoc, arith, length-append}
use mathlib.Core.List.{tail-eq_of_cons-eq}
use Rattle.base.specs.Choice.{both}
use Rattle.base.proofs.Tests.{both_out, either_out}
use Rattle.stream.specs.Format.{Lawful, Without}
use Rattle.stream.specs.Theorem.{StreamTheorem}
use Rattle.stream.proofs.Theorem.{stream}
use Rattle.hex_pairs.specs.Hex.{is_hex, all_hex, bytes_of}
use Rattle.hex_pairs.proofs.RoundTrip.{hex_other, colon_not_hex, whole_hex}
use Rattle.ascii.specs.Ascii.{formed, goes_on, begun, viable, ascii}
use Rattle.ascii.proofs.Message.{cr_none, whole_bytes, message_out, message_below}
use Rattle.ascii.proofs.Becoming.{could_viable, viable_could}

-- ---- no message is the beginning of another: the bytes end at the first CR
none : (z : List ℕ) → length z ≤ 0 → z ≡ []
none [] h = refl
none (x ∷ z) h = absurd (omega arith)

prefix_free : (m z : List ℕ) → formed m ≡ true → formed (m ++ z) ≡ true → z ≡ []
prefix_free m z e f =
    let p = message_out m e in
    let q = message_out (m ++ z) f in
    let texts : p.digits ++ 0x0D ∷ 0x0A ∷ z ≡ q.digits ++ 0x0D ∷ 0x0A ∷ [] =
    sym (append_assoc p.digits (0x0D ∷ 0x0A ∷ []) z) ∙ tail-eq_of_cons-eq (ap (λ (t : List ℕ). t ++ z) (sym p.text) ∙ q.text) in
    let bytes : bytes_of p.digits ≡ bytes_of q.digits =
    sym (whole_bytes p.digits (0x0D ∷ 0x0A ∷ z) p.whole (cr_none (0x0A ∷ z)))
    ∙ ap bytes_of texts
    ∙ whole_bytes q.digits (0x0D ∷ 0x0A ∷ []) q.whole (cr_none (0x0A ∷ [])) in
    none z
    (omega (arith, p.whole, q.whole, ap length bytes, ap length texts, length-append p.digits (0x0D ∷ 0x0A ∷ z), length-append q.digits (0x0D ∷ 0x0A ∷ [])))

-- ---- `:` and one byte more at least
begins : (m : List ℕ) → formed m ≡ true → (b : ℕ) × (more : List ℕ) × (m ≡ 0x3A ∷ b ∷ more)
begins m e = let p = message_out m e in go p.digits p.text
  where
    go : (d : List ℕ) → m ≡ 0x3A ∷ d ++ 0x0D ∷ 0x0A ∷ [] → (y : ℕ) × (more : List ℕ) × (m ≡ 0x3A ∷ y ∷ more)
    go [] h = (0x0D, 0x0A ∷ [], h)
    go (x ∷ d) h = (x, d ++ 0x0D ∷ 0x0A ∷ [], h)

-- ---- no hex digit is `:`
hex_without : (t r : List ℕ) → all_hex t ≡ true → Without 0x3A r → Without 0x3A (t ++ r)
unfolding all_hex
hex_without [] r e w = w
hex_without (c ∷ t) r e w =
    let h = both_out (is_hex c) (all_hex t) e in
    (λ q. hex_other c 0x3A h.0 colon_not_hex q, hex_without t r h.1 w)

without_left : (c : ℕ) (s t : List ℕ) → Without c (s ++ t) → Without c s
without_left c [] t w = tt
without_left c (x ∷ s) t w = (w.0, without_left c s t w.1)

inner : (x : ℕ) (p : List ℕ) → viable (x ∷ p) ≡ true → Without 0x3A p
unfolding viable begun
inner x p e = ⊎_elim
    (λ h. without_left 0x3A p [] (hex_without p [] (both_out (all_hex p) (goes_on p) (both_out (eqb x 0x3A) (both (all_hex p) (goes_on p)) h).1).0 tt))
    (λ h.
    let m = message_out (x ∷ p ++ 0x0A ∷ []) h in
    let text : p ++ 0x0A ∷ [] ≡ m.digits ++ 0x0D ∷ 0x0A ∷ [] = tail-eq_of_cons-eq m.text in
    without_left 0x3A p (0x0A ∷ []) (rw text (hex_without m.digits (0x0D ∷ 0x0A ∷ []) (whole_hex m.digits m.whole) (λ q. omega arith, (λ q. omega arith, tt)))))
    (either_out (begun (x ∷ p)) (formed (x ∷ p ++ 0x0A ∷ [])) e)

empty_viable : viable [] ≡ true
unfolding viable begun
empty_viable = refl

pub ascii_lawful : Lawful ascii
ascii_lawful = record {
  bytes = message_below;
  some_message = viable_could [] empty_viable;
  viable_iff = λ s. (viable_could s, could_viable s);
  prefix_free = prefix_free;
  begins = begins;
  inner = inner;
}

pub ascii_stream_lem : StreamTheorem ascii
ascii_stream_lem = stream ascii ascii_lawful
