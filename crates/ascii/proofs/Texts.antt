-- What the code stores of a message: `:`, the pairs through the part of the text behind it, that of their LRC, CR LF. Assumes nothing.
use Rattle.std.proofs.Common.{◌≡◌, ℕ, suc, ◌+◌, ◌-◌, ◌*◌, ◌/◌, ◌%◌, ◌<◌, ◌≤◌, List, [], ◌∷◌, ◌++◌, length, get_or, drop, set, sym, refl, ap, ◌∙◌, append_assoc, arith, length-append}
use borrow.Rule.Slice.PartMut.{mid_of, put_mid}
use lib.Seq.{sets}
use Rattle.base.specs.Buffers.{front, fitting}
use Rattle.base.proofs.Lists.{Folding, fold_starts, fold_again, fold_done}
use Rattle.base.proofs.Sets.{headed, sets_append, sets_front, fitting_all, fitting_none}
use Rattle.hex_pairs.specs.Hex.{digit_of, hex_of}
use Rattle.hex_pairs.proofs.RoundTrip.{length_hex, hex_append}
use Rattle.hex_pairs.proofs.Laws.{two_stores, none_left}
use Rattle.checks.specs.Lrc.{add_byte, sum_of, lrc_after, lrc_of}
use Rattle.ascii.specs.Ascii.{text_of, with_lrc}
use Rattle.ascii.proofs.Message.{text_length}

-- ---- the pairs: the digits of the bytes left, stored behind those passed, would give the whole, and so would the sum of the bytes left
pub record Putting (bytes text₀ text : List ℕ) (sum i : ℕ) : Type 0 where
  pub left : sets text (2 * i) (hex_of (drop i bytes)) ≡ sets text₀ 0 (hex_of bytes)
  pub added : Folding add_byte 0 bytes sum i

pub put_starts : (bytes text : List ℕ) → Putting bytes text text 0 0
put_starts bytes text = record { left = refl; added = fold_starts add_byte 0 bytes }

pub put_again : (bytes text₀ text : List ℕ) (sum i high low more : ℕ) → Putting bytes text₀ text sum i → i < length bytes → high ≡ digit_of (get_or bytes i 0 / 16)
    → low ≡ digit_of (get_or bytes i 0 % 16) → more ≡ add_byte sum (get_or bytes i 0) → Putting bytes text₀ (set (set text (2 * i) high) (2 * i + 1) low) more (i + 1)
put_again bytes text₀ text sum i high low more p h e q s =
    record { left = rw (e, q) (sym (two_stores bytes text i 0 h) ∙ p.left); added = fold_again add_byte 0 bytes sum more i p.added h s }

pub pairs_put : (bytes text₀ text : List ℕ) (sum i : ℕ) → Putting bytes text₀ text sum i → length bytes ≤ i → text ≡ sets text₀ 0 (hex_of bytes)
pairs_put bytes text₀ text sum i p h = sym (none_left bytes text i h) ∙ p.left

pub pairs_lrc : (bytes text₀ text : List ℕ) (sum i r : ℕ) → Putting bytes text₀ text sum i → length bytes ≤ i → r ≡ lrc_after sum → r ≡ lrc_of bytes
unfolding lrc_of sum_of
pairs_lrc bytes text₀ text sum i r p h e = e ∙ ap lrc_after (fold_done add_byte 0 bytes sum i p.added h)

-- ---- a text that is too short gets nothing
long : (b : List ℕ) → length (text_of (with_lrc b)) ≡ 2 * length b + 5
long b = omega (arith, text_length (with_lrc b), length-append b (lrc_of b ∷ []))

module _ (b t : List ℕ) (short : (length t + 1) / 2 < length b + 3) where
  nothing : fitting (text_of (with_lrc b)) (length t) ≡ []
  nothing = fitting_none (text_of (with_lrc b)) (length t) (omega (arith, long b))

  pub short_count : 0 ≡ length (fitting (text_of (with_lrc b)) (length t))
  short_count = rw nothing

  pub short_lent : t ≡ front (fitting (text_of (with_lrc b)) (length t)) t
  unfolding front
  short_lent = rw nothing

-- ---- four stores, one behind the other
four : (l : List ℕ) (i x y z w : ℕ) → set (set (set (set l i x) (i + 1) y) (i + 2) z) (i + 3) w ≡ sets l i (x ∷ y ∷ z ∷ w ∷ [])
four l i x y z w = λ j. set (set (set (set l i x) (one j) y) (two j) z) (three j) w
  where
    one : i + 1 ≡ suc i
    one = omega arith

    two : i + 2 ≡ suc (suc i)
    two = omega arith

    three : i + 3 ≡ suc (suc (suc i))
    three = omega arith

-- ---- the text t is long enough: `:` was stored at its start, and its part behind that came back as l with the pairs
module _ (b t l : List ℕ) (room : length b + 3 ≤ (length t + 1) / 2) where
  whole : fitting (text_of (with_lrc b)) (length t) ≡ text_of (with_lrc b)
  whole = fitting_all (text_of (with_lrc b)) (length t) (omega (arith, long b))

  pub text_count : 2 * length b + 1 + 4 ≡ length (fitting (text_of (with_lrc b)) (length t))
  text_count = rw whole (omega (arith, long b))

  -- behind the pairs, the digits of the LRC, CR and LF were stored
  pub text_lent : (r x y : ℕ) → l ≡ sets (mid_of 1 (length (set t 0 0x3A) - 1) (set t 0 0x3A)) 0 (hex_of b) → r ≡ lrc_of b → x ≡ digit_of (r / 16) → y ≡ digit_of (r % 16)
      → set (set (set (set (put_mid 1 (length (set t 0 0x3A) - 1) (set t 0 0x3A) l) (2 * length b + 1) x) (2 * length b + 1 + 1) y) (2 * length b + 1 + 2) 0x0D) (2 * length b + 1 + 3) 0x0A
      ≡ front (fitting (text_of (with_lrc b)) (length t)) t
  unfolding text_of hex_of
  text_lent r x y e is high low =
      let pairs : put_mid 1 (length (set t 0 0x3A) - 1) (set t 0 0x3A) l ≡ sets t 0 (0x3A ∷ hex_of b) = headed t (hex_of b) l 0x3A (omega arith) e in
      let at : 2 * length b + 1 ≡ 0 + length (0x3A ∷ hex_of b) = omega (arith, length_hex b) in
      rw (whole, pairs, four (sets t 0 (0x3A ∷ hex_of b)) (2 * length b + 1) x y 0x0D 0x0A, at, high, low, is)
      (sym (sets_append (0x3A ∷ hex_of b) (hex_of (lrc_of b ∷ []) ++ 0x0D ∷ 0x0A ∷ []) t 0)
      ∙ ap (λ (s : List ℕ). sets t 0 (0x3A ∷ s)) (sym (append_assoc (hex_of b) (hex_of (lrc_of b ∷ [])) (0x0D ∷ 0x0A ∷ [])) ∙ ap (λ (s : List ℕ). s ++ 0x0D ∷ 0x0A ∷ []) (sym (hex_append b (lrc_of b ∷ []))))
      ∙ sets_front (text_of (with_lrc b)) t (omega (arith, long b)))
