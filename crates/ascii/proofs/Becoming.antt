-- The test of a beginning tells what could still become a message, and only that. Assumes nothing.
use Rattle.std.proofs.Common.{◌≡◌, ℕ, zero, suc, ◌-◌, ◌*◌, ◌/◌, ◌%◌, ◌≤◌, Bool, true, false, eqb, leb, List, [], ◌∷◌, ◌++◌, length, get_or, replicate, sym, refl, ap, ◌∙◌, ⊎_elim, append_assoc, append-nil, arith, length-append, eq-eqb, eqb-true, le-leb, leb-false, leb-true}
use mathlib.Core.List.{head-eq_of_cons-eq, tail-eq_of_cons-eq}
use lib.ListN.{length-replicate}
use lib.Seq.{get_or_at, append_snoc}
use Rattle.base.specs.Choice.{both, either}
use Rattle.base.proofs.Tests.{both_out, both_in, either_out, either_left, either_right}
use Rattle.stream.specs.Format.{CouldBecome}
use Rattle.stream.proofs.Lists.{cut, append_cons_ne_nil}
use Rattle.hex_pairs.specs.Hex.{is_hex, all_hex, digit_of, capital_of, bytes_of}
use Rattle.hex_pairs.proofs.RoundTrip.{Whole, digit_hex, all_append, hex_whole, whole_hex}
use Rattle.hex_pairs.proofs.Capitals.{capital_digit}
use Rattle.checks.specs.Lrc.{adds_to_zero, lrc_of}
use Rattle.ascii.specs.Ascii.{formed, free, lrc_begun, full, goes_on, begun, viable, ascii}
use Rattle.ascii.proofs.Message.{whole_bytes, Message, message_out, message_in}
use Rattle.ascii.proofs.Limit.{one_none, last_pair}

-- ---- what the tests of the digits tell
pub free_out : (d : List ℕ) → free d ≡ true → length d ≤ 508
unfolding free
free_out d e = leb-true (length d) 508 e

pub free_in : (d : List ℕ) → length d ≤ 508 → free d ≡ true
unfolding free
free_in d h = le-leb (length d) 508 h

pub begun_out : (d : List ℕ) → lrc_begun d ≡ true → (length d ≡ 509) × (capital_of (get_or d 508 0) ≡ digit_of (lrc_of (bytes_of d) / 16))
unfolding lrc_begun
begun_out d e =
    let r = both_out (eqb (length d) 509) (eqb (capital_of (get_or d 508 0)) (digit_of (lrc_of (bytes_of d) / 16))) e in
    (eqb-true (length d) 509 r.0, eqb-true _ _ r.1)

pub begun_in : (d : List ℕ) → length d ≡ 509 → capital_of (get_or d 508 0) ≡ digit_of (lrc_of (bytes_of d) / 16) → lrc_begun d ≡ true
unfolding lrc_begun
begun_in d n h = both_in (eq-eqb (length d) 509 n) (eq-eqb (capital_of (get_or d 508 0)) (digit_of (lrc_of (bytes_of d) / 16)) h)

pub full_out : (d : List ℕ) → full d ≡ true → (length d ≡ 510) × (adds_to_zero (bytes_of d) ≡ true)
unfolding full
full_out d e =
    let r = both_out (eqb (length d) 510) (adds_to_zero (bytes_of d)) e in
    (eqb-true (length d) 510 r.0, r.1)

pub full_in : (d : List ℕ) → length d ≡ 510 → adds_to_zero (bytes_of d) ≡ true → full d ≡ true
unfolding full
full_in d n z = both_in (eq-eqb (length d) 510 n) z

-- ---- what could become a message passes the test
-- the digits t of a message, followed by e, may go on
goes_on_lem : (d t e : List ℕ) → Whole d → length (bytes_of d) ≤ 255 → adds_to_zero (bytes_of d) ≡ true → d ≡ t ++ e → goes_on t ≡ true
unfolding goes_on all_hex
goes_on_lem d t e whole high zeroed h = go (leb (length t) 508) refl e h
  where
    go : (u : Bool) → leb (length t) 508 ≡ u → (e : List ℕ) → d ≡ t ++ e → either (free t) (either (lrc_begun t) (full t)) ≡ true
    go true u e h = either_left (free t) (either (lrc_begun t) (full t)) (free_in t (leb-true (length t) 508 u))
    go false u [] h =
        let is : d ≡ t = h ∙ append-nil t in
        let size : length t ≡ 510 = omega (arith, leb-false (length t) 508 u, ap length is, whole) in
        either_right (free t) (either (lrc_begun t) (full t)) (either_right (lrc_begun t) (full t) (full_in t size (rw (← is) zeroed)))
    go false u (l ∷ []) h =
        let size : length t ≡ 509 = omega (arith, leb-false (length t) 508 u, ap length h, whole, length-append t (l ∷ [])) in
        let hexes = both_out (all_hex t) (both (is_hex l) true) (sym (all_append t (l ∷ [])) ∙ ap all_hex (sym h) ∙ whole_hex d whole) in
        let digit = (both_out (is_hex l) true hexes.1).0 in
        let pair = both_out (eqb (capital_of (get_or t 508 0)) (digit_of (lrc_of (bytes_of t) / 16))) _ (sym (last_pair t l hexes.0 size digit) ∙ ap (λ (q : List ℕ). adds_to_zero (bytes_of q)) (sym h) ∙ zeroed) in
        either_right (free t) (either (lrc_begun t) (full t)) (either_left (lrc_begun t) (full t) (begun_in t size (eqb-true (capital_of (get_or t 508 0)) _ pair.0)))
    go false u (l ∷ m ∷ e) h = absurd (omega (arith, leb-false (length t) 508 u, ap length h, whole, length-append t (l ∷ m ∷ e)))

pub could_viable : (s : List ℕ) → CouldBecome ascii s → viable s ≡ true
unfolding viable begun
could_viable [] c = refl
could_viable (x ∷ t) c = ⊎_elim
    (λ r.
    let hex : both (all_hex t) (all_hex r.0) ≡ true = sym (all_append t r.0) ∙ ap all_hex (sym r.1) ∙ whole_hex m.digits m.whole in
    either_left _ _ (both_in (eq-eqb x 0x3A colon) (both_in (both_out (all_hex t) (all_hex r.0) hex).0 (goes_on_lem m.digits t r.0 m.whole m.high m.zeroed r.1))))
    (λ r. either_right (both (eqb x 0x3A) (both (all_hex t) (goes_on t))) _ (rw (colon, r.2 ∙ ap (λ (z : List ℕ). m.digits ++ z) (cr r.0 r.1 r.3)) ended))
    (cut t (c.0 ∷ c.1) m.digits (0x0D ∷ 0x0A ∷ []) rest)
  where
    m : Message (x ∷ t ++ c.0 ∷ c.1)
    m = message_out (x ∷ t ++ c.0 ∷ c.1) c.2

    colon : x ≡ 0x3A
    colon = head-eq_of_cons-eq m.text

    rest : t ++ c.0 ∷ c.1 ≡ m.digits ++ 0x0D ∷ 0x0A ∷ []
    rest = tail-eq_of_cons-eq m.text

    ended : formed (0x3A ∷ (m.digits ++ 0x0D ∷ []) ++ 0x0A ∷ []) ≡ true
    ended = rw append_snoc (message_in m.digits m.whole m.low m.high m.zeroed)

    cr : (y : ℕ) (e : List ℕ) → y ∷ e ++ c.0 ∷ c.1 ≡ 0x0D ∷ 0x0A ∷ [] → y ∷ e ≡ 0x0D ∷ []
    cr y [] h = ap (λ (z : ℕ). z ∷ []) (head-eq_of_cons-eq h)
    cr y (w ∷ e) h = absurd (append_cons_ne_nil e c.0 c.1 (tail-eq_of_cons-eq (tail-eq_of_cons-eq h)))

-- ---- what passes the test could become a message
-- an even number of hex digits, and CR LF
pub even_formed : (d : List ℕ) (k : ℕ) → all_hex d ≡ true → length d ≡ 2 * k → 3 ≤ k → k ≤ 255 → adds_to_zero (bytes_of d) ≡ true
    → formed (0x3A ∷ d ++ 0x0D ∷ 0x0A ∷ []) ≡ true
even_formed d k hex size low high zeroed =
    let whole : Whole d = hex_whole d k hex size in
    message_in d whole (omega arith) (omega arith) zeroed

-- with 509 digits, the last of them the LRC's high one: its low one
module _ (d : List ℕ) (hex : all_hex d ≡ true) (size : length d ≡ 509) (high : capital_of (get_or d 508 0) ≡ digit_of (lrc_of (bytes_of d) / 16)) where
  low : ℕ
  low = digit_of (lrc_of (bytes_of d) % 16)

  low_formed : formed (0x3A ∷ d ++ low ∷ 0x0D ∷ 0x0A ∷ []) ≡ true
  unfolding low all_hex
  low_formed =
      let digit : is_hex low ≡ true = digit_hex (lrc_of (bytes_of d) % 16) in
      let zeroed : adds_to_zero (bytes_of (d ++ low ∷ [])) ≡ true = last_pair d low hex size digit ∙ both_in (eq-eqb _ _ high) (eq-eqb _ _ (capital_digit (lrc_of (bytes_of d) % 16))) in
      rw append_snoc at
      (even_formed (d ++ low ∷ []) 255 (all_append d (low ∷ []) ∙ both_in hex (both_in digit refl)) (omega (arith, length-append d (low ∷ []))) (omega arith) (omega arith) zeroed)

  last_could : CouldBecome ascii (0x3A ∷ d)
  last_could = (low, 0x0D ∷ 0x0A ∷ [], low_formed)

-- what z, y and w make a message could become one
could_then : (s z : List ℕ) (y : ℕ) (w : List ℕ) → formed (s ++ (z ++ y ∷ w)) ≡ true → CouldBecome ascii s
could_then s [] y w e = (y, w, e)
could_then s (x ∷ z) y w e = (x, z ++ y ∷ w, e)

-- with 508 digits or fewer: as many zeros as bring them to 508, and the LRC
zeros : ℕ → List ℕ
zeros n = replicate n 0x30

zeros_hex : (n : ℕ) → all_hex (zeros n) ≡ true
unfolding zeros all_hex is_hex
zeros_hex zero = refl
zeros_hex (suc n) = zeros_hex n

zeros_length : (n : ℕ) → length (zeros n) ≡ n
unfolding zeros
zeros_length n = length-replicate n _

full_could : (d : List ℕ) → all_hex d ≡ true → length d ≡ 508 → (l : ℕ) × (formed (0x3A ∷ d ++ digit_of (lrc_of (bytes_of d) / 16) ∷ l ∷ 0x0D ∷ 0x0A ∷ []) ≡ true)
unfolding all_hex
full_could d hex size =
    let h : ℕ = digit_of (lrc_of (bytes_of d) / 16) in
    let hexes : all_hex (d ++ h ∷ []) ≡ true = all_append d (h ∷ []) ∙ both_in hex (both_in (digit_hex (lrc_of (bytes_of d) / 16)) refl) in
    let n : length (d ++ h ∷ []) ≡ 509 = omega (arith, length-append d (h ∷ [])) in
    let bytes : bytes_of (d ++ h ∷ []) ≡ bytes_of d = whole_bytes d (h ∷ []) (hex_whole d 254 hex size) (one_none h) in
    let high : capital_of (get_or (d ++ h ∷ []) 508 0) ≡ digit_of (lrc_of (bytes_of (d ++ h ∷ [])) / 16) =
    ap capital_of (get_or_at d h [] 0 508 size) ∙ capital_digit (lrc_of (bytes_of d) / 16) ∙ ap (λ (q : List ℕ). digit_of (lrc_of q / 16)) (sym bytes) in
    (low (d ++ h ∷ []) hexes n high, rw append_snoc at (low_formed (d ++ h ∷ []) hexes n high))

free_could : (d : List ℕ) → all_hex d ≡ true → length d ≤ 508 → CouldBecome ascii (0x3A ∷ d)
free_could d hex size = go (zeros (508 - length d)) (zeros_hex (508 - length d)) (zeros_length (508 - length d))
  where
    go : (z : List ℕ) → all_hex z ≡ true → length z ≡ 508 - length d → CouldBecome ascii (0x3A ∷ d)
    go z zs n =
        could_then (0x3A ∷ d) z _ _
        (rw (append_assoc d z) at (full_could (d ++ z) (all_append d z ∙ both_in hex zs) (omega (arith, length-append d z))).1)

begun_could : (s : List ℕ) → begun s ≡ true → CouldBecome ascii s
unfolding begun goes_on all_hex
begun_could [] e = let c = free_could [] refl (omega arith) in (0x3A, c.0 ∷ c.1, c.2)
begun_could (x ∷ d) e =
    let h = both_out (eqb x 0x3A) (both (all_hex d) (goes_on d)) e in
    let k = both_out (all_hex d) (goes_on d) h.1 in
    let colon : x ≡ 0x3A = eqb-true x 0x3A h.0 in
    rw colon (⊎_elim
    (λ a. free_could d k.0 (free_out d a))
    (λ a. ⊎_elim
    (λ c. let r = begun_out d c in last_could d k.0 r.0 r.1)
    (λ c. let r = full_out d c in (0x0D, 0x0A ∷ [], even_formed d 255 k.0 r.0 (omega arith) (omega arith) r.1))
    (either_out (lrc_begun d) (full d) a))
    (either_out (free d) (either (lrc_begun d) (full d)) k.1))

pub viable_could : (s : List ℕ) → viable s ≡ true → CouldBecome ascii s
unfolding viable
viable_could s e = ⊎_elim (begun_could s) (λ h. (0x0A, [], h)) (either_out (begun s) (formed (s ++ 0x0A ∷ [])) e)
