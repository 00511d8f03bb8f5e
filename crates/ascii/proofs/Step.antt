-- One byte more: of bytes that are a beginning, only the new byte, the length, and whether the last byte is CR are to be looked at. The sum is needed
-- at CR, and at 509 and 510 digits. Assumes nothing.
use Rattle.std.proofs.Common.{◌≡◌, ℕ, zero, suc, ◌-◌, ◌*◌, ◌/◌, ◌<◌, ◌≤◌, Bool, true, false, eqb, List, [], ◌∷◌, ◌++◌, length, get_or, drop, sym, refl, ap, ◌∙◌, ⊎_elim, arith, length-append, length-drop, eq-eqb, ne_eqb, eqb-true}
use mathlib.Core.List.{append_cancel_right, head-eq_of_cons-eq, tail-eq_of_cons-eq}
use borrow.Author.Tests.{lt-leb}
use lib.Seq.{get_or_at, append_snoc}
use Rattle.base.specs.Choice.{both, either}
use Rattle.base.proofs.Tests.{both_out, both_in, either_out, either_left, not_both, is_false, same_test}
use Rattle.stream.proofs.Lists.{append_cons_ne_nil}
use Rattle.hex_pairs.specs.Hex.{is_hex, all_hex, digit_of, capital_of, bytes_of}
use Rattle.hex_pairs.proofs.RoundTrip.{Whole, hex_other, cr_not_hex, all_append, hex_whole}
use Rattle.checks.specs.Lrc.{adds_to_zero, lrc_of}
use Rattle.ascii.specs.Ascii.{counted, right, formed, free, lrc_begun, full, goes_on, begun, viable}
use Rattle.ascii.proofs.Message.{whole_bytes, counted_out, counted_in, message_out}
use Rattle.ascii.proofs.Limit.{one_none}
use Rattle.ascii.proofs.Becoming.{free_out, free_in, begun_out, full_out, even_formed}

-- the last byte is CR
abbrev pub ends_in_cr : List ℕ → Bool
ends_in_cr p = eqb (get_or p (length p - 1) 0) 0x0D

-- ---- lists that end in a byte
snoc_parts : (s t : List ℕ) (x y : ℕ) → s ++ x ∷ [] ≡ t ++ y ∷ [] → (s ≡ t) × (x ≡ y)
snoc_parts [] [] x y e = (refl, head-eq_of_cons-eq e)
snoc_parts [] (b ∷ t) x y e = absurd (append_cons_ne_nil t y [] (sym (tail-eq_of_cons-eq e)))
snoc_parts (a ∷ s) [] x y e = absurd (append_cons_ne_nil s x [] (tail-eq_of_cons-eq e))
snoc_parts (a ∷ s) (b ∷ t) x y e =
    let r = snoc_parts s t x y (tail-eq_of_cons-eq e) in
    ((λ i. head-eq_of_cons-eq e i ∷ r.0 i), r.1)

last_is : (s : List ℕ) (x : ℕ) → get_or (s ++ x ∷ []) (length (s ++ x ∷ []) - 1) 0 ≡ x
last_is s x = get_or_at s x [] 0 (length (s ++ x ∷ []) - 1) (omega (arith, length-append s (x ∷ [])))

hex_at : (d : List ℕ) (i : ℕ) → all_hex d ≡ true → i < length d → is_hex (get_or d i 0) ≡ true
unfolding all_hex
hex_at [] i e h = absurd (omega arith)
hex_at (c ∷ d) zero e h = (both_out (is_hex c) (all_hex d) e).0
hex_at (c ∷ d) (suc i) e h = hex_at d i (both_out (is_hex c) (all_hex d) e).1 (omega arith)

-- ---- which of the two a beginning is
-- a message without its last byte ends in CR, and that byte is LF
pub record Ends (p : List ℕ) (b : ℕ) : Type 0 where
  pub digits : List ℕ
  pub whole : Whole digits
  pub text : p ≡ 0x3A ∷ digits ++ 0x0D ∷ []
  pub lf : b ≡ 0x0A

pub message_ends : (p : List ℕ) (b : ℕ) → formed (p ++ b ∷ []) ≡ true → Ends p b
message_ends p b e =
    let m = message_out (p ++ b ∷ []) e in
    let r = snoc_parts p (0x3A ∷ m.digits ++ 0x0D ∷ []) b 0x0A (m.text ∙ ap (λ (q : List ℕ). 0x3A ∷ q) (sym (append_snoc m.digits 0x0D (0x0A ∷ [])))) in
    record { digits = m.digits; whole = m.whole; text = r.0; lf = r.1 }

ends_cr : (p d : List ℕ) → p ≡ 0x3A ∷ d ++ 0x0D ∷ [] → ends_in_cr p ≡ true
ends_cr p d e = rw e (eq-eqb _ 0x0D (last_is (0x3A ∷ d) 0x0D))

begun_ends : (p : List ℕ) → begun p ≡ true → ends_in_cr p ≡ false
unfolding begun
begun_ends [] e = refl
begun_ends (x ∷ d) e =
    let h = both_out (eqb x 0x3A) (both (all_hex d) (goes_on d)) e in
    ne_eqb _ 0x0D (other d (eqb-true x 0x3A h.0) (both_out (all_hex d) (goes_on d) h.1).0)
  where
    other : (d : List ℕ) → x ≡ 0x3A → all_hex d ≡ true → get_or (x ∷ d) (length (x ∷ d) - 1) 0 ≡ 0x0D → ⊥
    other [] c e q = omega (arith, c, q)
    other (y ∷ d) c e q =
        let n : length (x ∷ y ∷ d) - 1 ≡ suc (length d) = omega arith in
        let k : get_or (y ∷ d) (length d) 0 ≡ 0x0D = ap (λ (i : ℕ). get_or (x ∷ y ∷ d) i 0) (sym n) ∙ q in
        hex_other (get_or (y ∷ d) (length d) 0) 0x0D (hex_at (y ∷ d) (length d) e (omega arith)) cr_not_hex k

pub still_begun : (p : List ℕ) → viable p ≡ true → ends_in_cr p ≡ false → begun p ≡ true
unfolding viable
still_begun p e n = ⊎_elim (λ h. h)
    (λ h. let r = message_ends p 0x0A h in absurd (not_both (ends_cr p r.digits r.text) n))
    (either_out (begun p) (formed (p ++ 0x0A ∷ [])) e)

pub wants_lf : (p : List ℕ) → viable p ≡ true → ends_in_cr p ≡ true → formed (p ++ 0x0A ∷ []) ≡ true
unfolding viable
wants_lf p e n = ⊎_elim (λ h. absurd (not_both n (begun_ends p h))) (λ h. h) (either_out (begun p) (formed (p ++ 0x0A ∷ [])) e)

-- ---- no more than 512 bytes are ever pending: `:`, 510 digits, CR
goes_length : (d : List ℕ) → goes_on d ≡ true → length d ≤ 510
unfolding goes_on
goes_length d e = ⊎_elim
    (λ h. omega (arith, free_out d h))
    (λ h. ⊎_elim (λ k. omega (arith, (begun_out d k).0)) (λ k. omega (arith, (full_out d k).0)) (either_out (lrc_begun d) (full d) h))
    (either_out (free d) (either (lrc_begun d) (full d)) e)

begun_length : (p : List ℕ) → begun p ≡ true → length p ≤ 511
unfolding begun
begun_length [] e = omega arith
begun_length (x ∷ d) e = omega (arith, goes_length d (both_out (all_hex d) (goes_on d) (both_out (eqb x 0x3A) (both (all_hex d) (goes_on d)) e).1).1)

pub viable_length : (p : List ℕ) → viable p ≡ true → length p ≤ 512
unfolding viable
viable_length p e = ⊎_elim
    (λ h. omega (arith, begun_length p h))
    (λ h. let m = message_out (p ++ 0x0A ∷ []) h in omega (arith, m.high, m.whole, ap length m.text, length-append m.digits (0x0D ∷ 0x0A ∷ []), length-append p (0x0A ∷ [])))
    (either_out (begun p) (formed (p ++ 0x0A ∷ [])) e)

-- CR is no digit
cr_inside : (s t : List ℕ) → all_hex (s ++ 0x0D ∷ t) ≡ true → ⊥
unfolding all_hex
cr_inside s t e =
    let h = both_out (all_hex s) (both (is_hex 0x0D) (all_hex t)) (sym (all_append s (0x0D ∷ t)) ∙ e) in
    not_both (both_out (is_hex 0x0D) (all_hex t) h.1).0 cr_not_hex

begun_hex : (x : ℕ) (d : List ℕ) → begun (x ∷ d) ≡ true → all_hex d ≡ true
unfolding begun
begun_hex x d e = (both_out (all_hex d) (goes_on d) (both_out (eqb x 0x3A) (both (all_hex d) (goes_on d)) e).1).0

-- ---- after CR: only LF makes a message, and nothing else goes on
module _ (p : List ℕ) (b : ℕ) (v : viable p ≡ true) (cr : ends_in_cr p ≡ true) where
  pub ended_formed : formed (p ++ b ∷ []) ≡ eqb b 0x0A
  ended_formed = same_test (formed (p ++ b ∷ [])) (eqb b 0x0A)
      (λ h. eq-eqb b 0x0A (message_ends p b h).lf)
      (λ h. rw (eqb-true b 0x0A h) (wants_lf p v cr))

  pub ended_viable : viable (p ++ b ∷ []) ≡ false
  ended_viable = is_false (viable (p ++ b ∷ [])) (λ h. go (ends_in_cr (p ++ b ∷ [])) refl h)
    where
      a : Ends p 0x0A
      a = message_ends p 0x0A (wants_lf p v cr)

      go : (t : Bool) → ends_in_cr (p ++ b ∷ []) ≡ t → viable (p ++ b ∷ []) ≡ true → ⊥
      go true t h =
          let c = message_ends (p ++ b ∷ []) 0x0A (wants_lf (p ++ b ∷ []) h t) in
          let q = snoc_parts p (0x3A ∷ c.digits) b 0x0D c.text in
          omega (arith, ap length a.text, ap length q.0, length-append a.digits (0x0D ∷ []), a.whole, c.whole)
      go false t h =
          let q : begun (0x3A ∷ (a.digits ++ 0x0D ∷ []) ++ b ∷ []) ≡ true = rw a.text at (still_begun (p ++ b ∷ []) h t) in
          cr_inside a.digits (b ∷ []) (rw append_snoc at (begun_hex 0x3A ((a.digits ++ 0x0D ∷ []) ++ b ∷ []) q))

-- ---- before CR: no byte makes a message
pub begun_formed : (p : List ℕ) (b : ℕ) → begun p ≡ true → formed (p ++ b ∷ []) ≡ false
begun_formed p b e = is_false (formed (p ++ b ∷ [])) (λ h. let r = message_ends p b h in not_both (ends_cr p r.digits r.text) (begun_ends p e))

-- ---- the first byte
pub first_viable : (b : ℕ) → viable (b ∷ []) ≡ eqb b 0x3A
unfolding viable begun all_hex goes_on free
first_viable b = rw (is_false (formed (b ∷ 0x0A ∷ [])) short) (alone (eqb b 0x3A))
  where
    short : formed (b ∷ 0x0A ∷ []) ≡ true → ⊥
    short h =
        let r = message_ends (b ∷ []) 0x0A h in
        append_cons_ne_nil r.digits 0x0D [] (sym (tail-eq_of_cons-eq r.text))

    alone : (t : Bool) → either (both t true) false ≡ t
    alone true = refl
    alone false = refl

-- ---- a byte behind `:` and the digits d
either_none : (t : Bool) → either t false ≡ t
either_none true = refl
either_none false = refl

module _ (x : ℕ) (d : List ℕ) (b : ℕ) (e : begun (x ∷ d) ≡ true) where
  colon : x ≡ 0x3A
  unfolding begun
  colon = eqb-true x 0x3A (both_out (eqb x 0x3A) (both (all_hex d) (goes_on d)) e).0

  -- with LF it would be a message only if b is CR
  no_message : (b ≡ 0x0D → ⊥) → formed (x ∷ d ++ b ∷ [] ++ 0x0A ∷ []) ≡ false
  no_message n = is_false (formed (x ∷ d ++ b ∷ [] ++ 0x0A ∷ []))
      (λ h. let r = message_ends (x ∷ d ++ b ∷ []) 0x0A h in n (snoc_parts (x ∷ d) (0x3A ∷ r.digits) b 0x0D r.text).1)

  hexes : all_hex (d ++ b ∷ []) ≡ is_hex b
  unfolding all_hex
  hexes = all_append d (b ∷ []) ∙ rw (begun_hex x d e) (both_one (is_hex b))
    where
      both_one : (t : Bool) → both t true ≡ t
      both_one true = refl
      both_one false = refl

  -- a hex digit: by how many digits there are
  pub digit_viable : is_hex b ≡ true → viable (x ∷ d ++ b ∷ []) ≡ goes_on (d ++ b ∷ [])
  unfolding viable begun
  digit_viable h = rw (no_message (λ q. hex_other b 0x0D h cr_not_hex q), eq-eqb x 0x3A colon, hexes ∙ h) (either_none (goes_on (d ++ b ∷ [])))

  -- neither a digit nor CR
  pub other_viable : is_hex b ≡ false → (b ≡ 0x0D → ⊥) → viable (x ∷ d ++ b ∷ []) ≡ false
  unfolding viable begun
  other_viable h n = rw (no_message n, eq-eqb x 0x3A colon, hexes ∙ h)

-- CR: the digits are pairs, and their bytes right
pub cr_viable : (x : ℕ) (d : List ℕ) → begun (x ∷ d) ≡ true → viable (x ∷ d ++ 0x0D ∷ []) ≡ both (eqb (2 * length (bytes_of d)) (length d)) (right (bytes_of d))
unfolding viable begun right
cr_viable x d e = rw (eq-eqb x 0x3A (colon x d 0x0D e), hexes x d 0x0D e ∙ cr_not_hex) (same_test (formed (x ∷ d ++ 0x0D ∷ [] ++ 0x0A ∷ [])) _ there back)
  where
    there : formed (x ∷ d ++ 0x0D ∷ [] ++ 0x0A ∷ []) ≡ true → both (eqb (2 * length (bytes_of d)) (length d)) (right (bytes_of d)) ≡ true
    there h =
        let m = message_out (x ∷ d ++ 0x0D ∷ [] ++ 0x0A ∷ []) h in
        let is : d ≡ m.digits = append_cancel_right d m.digits (0x0D ∷ 0x0A ∷ []) (sym (append_snoc d 0x0D (0x0A ∷ [])) ∙ tail-eq_of_cons-eq m.text) in
        rw is (both_in (eq-eqb _ (length m.digits) m.whole) (both_in (counted_in (bytes_of m.digits) m.low m.high) m.zeroed))

    back : both (eqb (2 * length (bytes_of d)) (length d)) (right (bytes_of d)) ≡ true → formed (x ∷ d ++ 0x0D ∷ [] ++ 0x0A ∷ []) ≡ true
    back h =
        let k : ℕ = length (bytes_of d) in
        let r = both_out (eqb (2 * k) (length d)) (right (bytes_of d)) h in
        let q = both_out (counted (bytes_of d)) (adds_to_zero (bytes_of d)) r.1 in
        let l = counted_out (bytes_of d) q.0 in
        rw (colon x d 0x0D e, append_snoc d 0x0D (0x0A ∷ []))
        (even_formed d k (begun_hex x d e) (sym (eqb-true (2 * k) (length d) r.0)) l.0 l.1 q.1)

-- ---- how many digits may go on
-- up to 508 freely
pub goes_free : (d : List ℕ) → length d ≤ 508 → goes_on d ≡ true
unfolding goes_on
goes_free d h = either_left (free d) (either (lrc_begun d) (full d)) (free_in d h)

-- the 509th is the high digit of the LRC of the bytes before it, in either letters
pub goes_509 : (d : List ℕ) (b : ℕ) → all_hex d ≡ true → length d ≡ 508 → goes_on (d ++ b ∷ []) ≡ eqb (capital_of b) (digit_of (lrc_of (bytes_of d) / 16))
unfolding goes_on free lrc_begun full
goes_509 d b hex n =
    let size : length (d ++ b ∷ []) ≡ 509 = omega (arith, length-append d (b ∷ [])) in
    let bytes : bytes_of (d ++ b ∷ []) ≡ bytes_of d = whole_bytes d (b ∷ []) (hex_whole d 254 hex n) (one_none b) in
    rw (size, get_or_at d b [] 0 508 n, bytes) (either_none (eqb (capital_of b) (digit_of (lrc_of (bytes_of d) / 16))))

-- with the 510th all bytes add to 0
pub goes_510 : (d : List ℕ) → length d ≡ 510 → goes_on d ≡ adds_to_zero (bytes_of d)
unfolding goes_on free lrc_begun full
goes_510 d n = rw n

-- there is no 511th
pub goes_over : (d : List ℕ) → 510 < length d → goes_on d ≡ false
unfolding goes_on free lrc_begun full
goes_over d h = simp (lt-leb (length d) 508 (omega arith), ne_eqb (length d) 509 (λ q. omega arith), ne_eqb (length d) 510 (λ q. omega arith))

-- ---- the same, of the bytes pending: p is a beginning, not empty and not yet ended by CR, and b comes
module _ (p : List ℕ) (b : ℕ) (v : viable p ≡ true) (some : 1 ≤ length p) (opened : ends_in_cr p ≡ false) where
  begins : (x : ℕ) × (d : List ℕ) × (p ≡ x ∷ d) × (begun (x ∷ d) ≡ true)
  begins = go p some (still_begun p v opened)
    where
      go : (q : List ℕ) → 1 ≤ length q → begun q ≡ true → (x : ℕ) × (d : List ℕ) × (q ≡ x ∷ d) × (begun (x ∷ d) ≡ true)
      go [] h e = absurd (omega arith)
      go (x ∷ d) h e = (x, d, refl, e)

  pub open_formed : formed (p ++ b ∷ []) ≡ false
  open_formed = begun_formed p b (still_begun p v opened)

  -- a hex digit: with it there are as many digits as p has bytes
  step_digit : is_hex b ≡ true → viable (p ++ b ∷ []) ≡ goes_on (drop 1 p ++ b ∷ [])
  step_digit h = let r = begins in rw r.2 (digit_viable r.0 r.1 b r.3 h)

  pub step_free : is_hex b ≡ true → length p ≤ 508 → viable (p ++ b ∷ []) ≡ true
  step_free h n = step_digit h ∙ goes_free (drop 1 p ++ b ∷ []) (omega (arith, length-append (drop 1 p) (b ∷ []), length-drop 1 p))

  pub step_509 : is_hex b ≡ true → length p ≡ 509 → viable (p ++ b ∷ []) ≡ eqb (capital_of b) (digit_of (lrc_of (bytes_of (drop 1 p)) / 16))
  step_509 h n =
      let r = begins in
      step_digit h ∙ goes_509 (drop 1 p) b (rw r.2 (begun_hex r.0 r.1 r.3)) (omega (arith, length-drop 1 p))

  pub step_510 : is_hex b ≡ true → length p ≡ 510 → viable (p ++ b ∷ []) ≡ adds_to_zero (bytes_of (drop 1 p ++ b ∷ []))
  step_510 h n = step_digit h ∙ goes_510 (drop 1 p ++ b ∷ []) (omega (arith, length-append (drop 1 p) (b ∷ []), length-drop 1 p))

  pub step_over : is_hex b ≡ true → 510 < length p → viable (p ++ b ∷ []) ≡ false
  step_over h n = step_digit h ∙ goes_over (drop 1 p ++ b ∷ []) (omega (arith, length-append (drop 1 p) (b ∷ []), length-drop 1 p))

  -- CR, and anything else
  pub step_cr : b ≡ 0x0D → viable (p ++ b ∷ []) ≡ both (eqb (2 * length (bytes_of (drop 1 p))) (length (drop 1 p))) (right (bytes_of (drop 1 p)))
  step_cr h = let r = begins in rw (h, r.2) (cr_viable r.0 r.1 r.3)

  pub step_other : is_hex b ≡ false → (b ≡ 0x0D → ⊥) → viable (p ++ b ∷ []) ≡ false
  step_other h n = let r = begins in rw r.2 (other_viable r.0 r.1 b r.3 h n)
