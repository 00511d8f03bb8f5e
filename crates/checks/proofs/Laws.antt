-- What the three checks make of bytes joined, in which range they lie, and that a message with its own check passes, and no other.
-- Assumes nothing.
use Rattle.std.proofs.Common.{◌≡◌, ℕ, zero, suc, ◌+◌, ◌-◌, ◌*◌, ◌/◌, ◌%◌, ◌^◌, ◌<◌, ◌≤◌, true, eqb, leb, List, [], ◌∷◌, ◌++◌, length, get_or, take, drop, sym, ap, ◌∙◌, lt_trans, lt_of_le_of_lt, div-le_self, arith, lit<, length-append, take-append-drop, drop_of_length-le, length-take, drop-cons, take_at, get_or-append-add, pow_pos, eq-eqb, eqb-true, le-leb, leb-true}
use mathlib.Core.List.{foldl, foldl-append}
use lib.Bits.{bit_and, bit_xor, xor_lt, xor_zero_l, xor_zero_r}
use Rattle.base.specs.Bytes.{AllBelow, Bytes}
use Rattle.base.proofs.Tests.{both_out, both_in, pick_both}
use Rattle.base.proofs.Lists.{below_element, below_take}
use Rattle.checks.specs.Bcc.{bcc_of}
use Rattle.checks.specs.Lrc.{add_byte, sum_of, total_of, adds_to_zero, lrc_of}
use Rattle.checks.specs.Crc.{crc_bit, crc_bits, crc_byte, crc_of, crc_bytes, body_of, crc_told, crc_holds}
use Rattle.checks.proofs.Xor.{xor_assoc}

-- ---- BCC

xor_from : (x : ℕ) (s : List ℕ) → foldl bit_xor x s ≡ bit_xor x (foldl bit_xor 0 s)
xor_from x [] = sym (xor_zero_r x)
xor_from x (b ∷ s) =
    xor_from (bit_xor x b) s
    ∙ xor_assoc x b (foldl bit_xor 0 s)
    ∙ ap (bit_xor x) (sym (xor_from b s) ∙ ap (λ (y : ℕ). foldl bit_xor y s) (sym (xor_zero_l b)))

pub bcc_append : (a b : List ℕ) → bcc_of (a ++ b) ≡ bit_xor (bcc_of a) (bcc_of b)
unfolding bcc_of
bcc_append a b = foldl-append bit_xor 0 a b ∙ xor_from (foldl bit_xor 0 a) b

xor_below : (k x : ℕ) (s : List ℕ) → x < 2 ^ k → AllBelow (2 ^ k) s → foldl bit_xor x s < 2 ^ k
unfolding AllBelow
xor_below k x [] h hs = h
xor_below k x (b ∷ s) h hs = xor_below k (bit_xor x b) s (xor_lt k x b h hs.0) hs.1

-- of numbers of k bits, it has k bits: at 7 for characters, at 8 for bytes
pub bcc_below : (k : ℕ) (s : List ℕ) → AllBelow (2 ^ k) s → bcc_of s < 2 ^ k
unfolding bcc_of
bcc_below k s hs = xor_below k 0 s (pow_pos k) hs

-- ---- LRC

sum_from : (x : ℕ) (s : List ℕ) → foldl add_byte x s % 256 ≡ (x + total_of s) % 256
unfolding total_of
sum_from x [] = omega arith
sum_from x (b ∷ s) = omega (arith, sum_from (add_byte x b) s)

add_below : (x : ℕ) (s : List ℕ) → x < 256 → foldl add_byte x s < 256
add_below x [] h = h
add_below x (b ∷ s) h = add_below (add_byte x b) s (omega arith)

pub sum_below : (s : List ℕ) → sum_of s < 256
unfolding sum_of
sum_below s = add_below 0 s (omega arith)

pub sum_total : (s : List ℕ) → sum_of s ≡ total_of s % 256
unfolding sum_of
sum_total s = omega (arith, sum_from 0 s, add_below 0 s (omega arith))

total_append : (a b : List ℕ) → total_of (a ++ b) ≡ total_of a + total_of b
unfolding total_of
total_append [] b = omega arith
total_append (x ∷ a) b = omega (arith, total_append a b)

pub sum_append : (a b : List ℕ) → sum_of (a ++ b) ≡ (sum_of a + sum_of b) % 256
sum_append a b = omega (arith, sum_total (a ++ b), sum_total a, sum_total b, total_append a b)

sum_last : (s : List ℕ) (x : ℕ) → sum_of (s ++ (x ∷ [])) ≡ (sum_of s + x) % 256
unfolding sum_of
sum_last s x = foldl-append add_byte 0 s (x ∷ [])

pub lrc_below : (s : List ℕ) → lrc_of s < 256
unfolding lrc_of
lrc_below s = omega arith

-- bytes with their LRC last add to 0, and no other byte last makes them do so
pub sum_lrc : (s : List ℕ) → sum_of (s ++ (lrc_of s ∷ [])) ≡ 0
unfolding lrc_of
sum_lrc s = omega (arith, sum_last s ((256 - sum_of s) % 256), sum_below s)

pub lrc_only : (s : List ℕ) (x : ℕ) → x < 256 → sum_of (s ++ (x ∷ [])) ≡ 0 → x ≡ lrc_of s
unfolding lrc_of
lrc_only s x h e = omega (arith, sum_last s x, sum_below s)

pub adds_lrc : (s : List ℕ) → adds_to_zero (s ++ (lrc_of s ∷ [])) ≡ true
unfolding adds_to_zero
adds_lrc s = eq-eqb (sum_of (s ++ (lrc_of s ∷ []))) 0 (sum_lrc s)

pub adds_only : (s : List ℕ) (x : ℕ) → x < 256 → adds_to_zero (s ++ (x ∷ [])) ≡ true → x ≡ lrc_of s
unfolding adds_to_zero
adds_only s x h e = lrc_only s x h (eqb-true (sum_of (s ++ (x ∷ []))) 0 e)

-- ---- CRC

pub crc_append : (a b : List ℕ) → crc_of (a ++ b) ≡ foldl crc_byte (crc_of a) b
unfolding crc_of
crc_append a b = foldl-append crc_byte 0xFFFF a b

bit_below : (x : ℕ) → x < 2 ^ 16 → crc_bit x < 2 ^ 16
unfolding crc_bit
bit_below x h =
    let half : x / 2 < 2 ^ 16 = lt_of_le_of_lt (div-le_self x 2) h in
    pick_both (λ (n : ℕ). n < 2 ^ 16) (eqb (bit_and x 1) 1) (λ e. xor_lt 16 (x / 2) 0xA001 half (lit< tt)) (λ e. half)

bits_below : (n x : ℕ) → x < 2 ^ 16 → crc_bits n x < 2 ^ 16
bits_below zero x h = h
bits_below (suc n) x h = bits_below n (crc_bit x) (bit_below x h)

pub crc_byte_below : (x b : ℕ) → x < 65536 → b < 256 → crc_byte x b < 65536
unfolding crc_byte
crc_byte_below x b h k = bits_below 8 (bit_xor x b) (xor_lt 16 x b h (lt_trans k (lit< tt)))

from_below : (x : ℕ) (s : List ℕ) → x < 65536 → Bytes s → foldl crc_byte x s < 65536
unfolding AllBelow
from_below x [] h hs = h
from_below x (b ∷ s) h hs = from_below (crc_byte x b) s (crc_byte_below x b h hs.0) hs.1

pub crc_below : (s : List ℕ) → Bytes s → crc_of s < 65536
unfolding crc_of
crc_below s hs = from_below 0xFFFF s (lit< tt) hs

-- its two bytes are bytes
pub crc_bytes_below : (s : List ℕ) → Bytes s → Bytes (crc_bytes s)
unfolding crc_bytes AllBelow
crc_bytes_below s hs = (omega arith, (omega (arith, crc_below s hs), tt))

-- the parts of a body with its CRC put after it
module _ (s : List ℕ) where
  own_length : length (s ++ crc_bytes s) ≡ length s + 2
  unfolding crc_bytes
  own_length = length-append s (crc_bytes s)

  pub own_body : body_of (s ++ crc_bytes s) ≡ s
  unfolding body_of
  own_body = take_at s (crc_bytes s) (length (s ++ crc_bytes s) - 2) (omega (arith, own_length))

  own_byte : (k i : ℕ) → i ≡ length s + k → get_or (s ++ crc_bytes s) i 0 ≡ get_or (crc_bytes s) k 0
  own_byte k i e = ap (λ (n : ℕ). get_or (s ++ crc_bytes s) n 0) e ∙ get_or-append-add s (crc_bytes s) k 0

  pub own_told : crc_told (s ++ crc_bytes s) ≡ crc_of s
  unfolding crc_told crc_bytes
  own_told =
      omega (
        arith,
        own_byte 0 (length (s ++ crc_bytes s) - 2) (omega (arith, own_length)),
        own_byte 1 (length (s ++ crc_bytes s) - 1) (omega (arith, own_length)),
      )

-- it passes, and no other two bytes after it do
pub own_holds : (s : List ℕ) → crc_holds (s ++ crc_bytes s) ≡ true
unfolding crc_holds
own_holds s =
    both_in (le-leb 2 (length (s ++ crc_bytes s)) (omega (arith, own_length s)))
    (eq-eqb (crc_of (body_of (s ++ crc_bytes s))) (crc_told (s ++ crc_bytes s)) (ap crc_of (own_body s) ∙ sym (own_told s)))

pub holds_length : (f : List ℕ) → crc_holds f ≡ true → 2 ≤ length f
unfolding crc_holds
holds_length f h = leb-true 2 (length f) (both_out (leb 2 (length f)) (eqb (crc_of (body_of f)) (crc_told f)) h).0

pub body_length : (f : List ℕ) → length (body_of f) ≡ length f - 2
unfolding body_of
body_length f = omega (arith, length-take (length f - 2) f)

pub body_below : (f : List ℕ) → Bytes f → Bytes (body_of f)
unfolding body_of
body_below f h = below_take 256 (length f - 2) f h

last_two : (f : List ℕ) → 2 ≤ length f → f ≡ body_of f ++ (get_or f (length f - 2) 0 ∷ get_or f (length f - 1) 0 ∷ [])
unfolding body_of
last_two f h =
    let a : length f - 2 < length f = omega arith in
    let n : suc (length f - 2) ≡ length f - 1 = omega arith in
    let b : length f - 1 < length f = omega arith in
    let z : length f ≤ suc (length f - 1) = omega arith in
    sym (take-append-drop (length f - 2) f)
    ∙ ap (λ (l : List ℕ). take (length f - 2) f ++ l)
    (drop-cons f (length f - 2) 0 a
    ∙ ap (λ (l : List ℕ). get_or f (length f - 2) 0 ∷ l)
    (ap (λ (m : ℕ). drop m f) n ∙ drop-cons f (length f - 1) 0 b ∙ ap (λ (l : List ℕ). get_or f (length f - 1) 0 ∷ l) (drop_of_length-le f z)))

pub holds_only : (f : List ℕ) → Bytes f → crc_holds f ≡ true → f ≡ body_of f ++ crc_bytes (body_of f)
unfolding crc_holds crc_told crc_bytes
holds_only f hf h =
    let long : 2 ≤ length f = holds_length f h in
    let low : get_or f (length f - 2) 0 < 256 = below_element 256 f (length f - 2) hf (omega arith) in
    let high : get_or f (length f - 1) 0 < 256 = below_element 256 f (length f - 1) hf (omega arith) in
    let told : crc_of (body_of f) ≡ get_or f (length f - 2) 0 + 256 * get_or f (length f - 1) 0 =
    eqb-true (crc_of (body_of f)) (crc_told f) (both_out (leb 2 (length f)) (eqb (crc_of (body_of f)) (crc_told f)) h).1 in
    let p : get_or f (length f - 2) 0 ≡ crc_of (body_of f) % 256 = omega arith in
    let q : get_or f (length f - 1) 0 ≡ crc_of (body_of f) / 256 = omega arith in
    last_two f long ∙ (λ i. body_of f ++ (p i ∷ q i ∷ []))
