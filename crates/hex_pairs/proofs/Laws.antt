-- What the code's loops show: those of `encode` and `decode`, turn by turn. Assumes nothing.
use Rattle.std.proofs.Common.{◌≡◌, ℕ, zero, suc, ◌+◌, ◌*◌, ◌/◌, ◌%◌, ◌<◌, ◌≤◌, List, [], ◌∷◌, length, get_or, take, drop, set, sym, refl, ap, ◌∙◌, ap₂, le_of_suc-le-suc, not-suc-le-zero, add-one, arith, length-drop, length-take, length-set, drop_of_length-le, drop-cons, Option, Some, None}
use Rattle.std.proofs.lemmas.List.{get_or-take, get_or-drop, drop-drop}
use Rattle.std.specs.Simd.{first_chunks}
use lib.Seq.{sets, set_out}
use Rattle.base.proofs.Sets.{sets_out}
use Rattle.hex_pairs.specs.Hex.{digit_of, pair_value, hex_of, spelt, bytes_of}

-- ---- `encode`: stores of all digits of the bytes left would give the whole
twice : (i : ℕ) → suc (suc (2 * i)) ≡ 2 * (i + 1)
twice i = omega arith

pub two_stores : (s d : List ℕ) (i x : ℕ) → i < length s
    → sets d (2 * i) (hex_of (drop i s)) ≡ sets (set (set d (2 * i) (digit_of (get_or s i x / 16))) (2 * i + 1) (digit_of (get_or s i x % 16))) (2 * (i + 1)) (hex_of (drop (i + 1) s))
unfolding hex_of
two_stores s d i x h =
    rw (drop-cons s i x)
    (λ j. sets (set (set d (2 * i) (digit_of (get_or s i x / 16))) (sym (add-one (2 * i)) j) (digit_of (get_or s i x % 16))) (twice i j) (hex_of (drop (sym (add-one i) j) s)))

pub encode_again : (bytes text : List ℕ) (whole i high low : ℕ) → whole ≤ length bytes → i < length (take whole bytes) → high ≡ digit_of (get_or (take whole bytes) i 0 / 16)
    → low ≡ digit_of (get_or (take whole bytes) i 0 % 16)
    → sets (set (set text (2 * i) high) (2 * i + 1) low) (2 * (i + 1)) (hex_of (drop (i + 1) bytes)) ≡ sets text (2 * i) (hex_of (drop i bytes))
encode_again bytes text whole i high low w h p q =
    let k : i < whole = omega (arith, length-take whole bytes) in
    let e = get_or-take whole bytes i 0 k in
    rw (p, q, e) (sym (two_stores bytes text i 0 (omega arith)))

-- all bytes are done
pub none_left : (bytes text : List ℕ) (i : ℕ) → length bytes ≤ i → sets text (2 * i) (hex_of (drop i bytes)) ≡ text
unfolding hex_of
none_left bytes text i h = rw (drop_of_length-le bytes h)

-- the text has room for a high digit at most
pub high_left : (bytes text : List ℕ) (i byte : ℕ) → i < length bytes → length text ≤ 2 * i + 1 → byte ≡ get_or bytes i byte
    → sets text (2 * i) (hex_of (drop i bytes)) ≡ set text (2 * i) (digit_of (byte / 16))
high_left bytes text i byte h k b =
    let one : List ℕ = set text (2 * i) (digit_of (byte / 16)) in
    let full : length one ≤ 2 * i + 1 = simp length-set k in
    two_stores bytes text i byte h
    ∙ rw (sym b) (ap (λ (l : List ℕ). sets l (2 * (i + 1)) (hex_of (drop (i + 1) bytes))) (set_out one (2 * i + 1) (digit_of (byte % 16)) full))
    ∙ sets_out (hex_of (drop (i + 1) bytes)) one (2 * (i + 1)) (omega arith)

-- ---- `decode`: the bytes that the text left spells, stored after those passed, would give the whole
chunk_at : (k i : ℕ) (s : List ℕ) → i < k → get_or (first_chunks 2 k s) i [] ≡ take 2 (drop (2 * i) s)
chunk_at zero i s h = absurd (omega arith)
chunk_at (suc k) zero s h = refl
chunk_at (suc k) (suc i) s h = chunk_at k i (drop 2 s) (omega arith) ∙ ap (take 2) (drop-drop (2 * i) 2 s ∙ ap (λ (n : ℕ). drop n s) (omega arith))

-- the characters of the next pair
pair_at : (t : List ℕ) (pairs : List (List ℕ)) (i j n : ℕ) → pairs ≡ first_chunks 2 (length t / 2) t → i < length t / 2 → j < 2 → 2 * i + j ≡ n
    → get_or (get_or pairs i []) j 0 ≡ get_or t n 0
pair_at t pairs i j n e h k m =
    ap (λ (l : List (List ℕ)). get_or (get_or l i []) j 0) e
    ∙ ap (λ (l : List ℕ). get_or l j 0) (chunk_at (length t / 2) i t h)
    ∙ get_or-take 2 (drop (2 * i) t) j 0 k
    ∙ get_or-drop (2 * i) t j 0
    ∙ ap (λ (x : ℕ). get_or t x 0) m

next_pair : (t : List ℕ) (pairs : List (List ℕ)) (i : ℕ) (p : Option ℕ) → pairs ≡ first_chunks 2 (length t / 2) t → i < length pairs → length pairs ≡ length t / 2
    → p ≡ pair_value (get_or (get_or pairs i []) 0 0) (get_or (get_or pairs i []) 1 0) → bytes_of (drop (2 * i) t) ≡ spelt p (bytes_of (drop (2 * (i + 1)) t))
unfolding bytes_of
next_pair t pairs i p e l m q =
    let a : 2 * i < length t = omega arith in
    let b : suc (2 * i) < length t = omega arith in
    let h : i < length t / 2 = omega arith in
    let high = pair_at t pairs i 0 (2 * i) e h (omega arith) (omega arith) in
    let low = pair_at t pairs i 1 (suc (2 * i)) e h (omega arith) (omega arith) in
    rw (drop-cons t (2 * i) 0 a, drop-cons t (suc (2 * i)) 0 b) (λ j. spelt (sym (q ∙ ap₂ pair_value high low) j) (bytes_of (drop (twice i j) t)))

pub record Decoding (text bytes₀ bytes : List ℕ) (i : ℕ) : Type 0 where
  pub count : i + length (bytes_of (drop (2 * i) text)) ≡ length (bytes_of text)
  pub left : sets bytes i (bytes_of (drop (2 * i) text)) ≡ sets bytes₀ 0 (bytes_of text)

module _ (text bytes₀ bytes : List ℕ) (pairs : List (List ℕ)) (i : ℕ) (p : Option ℕ) (d : Decoding text bytes₀ bytes i) (e : pairs ≡ first_chunks 2 (length text / 2) text)
    (l : i < length pairs) (m : length pairs ≡ length text / 2) (q : p ≡ pair_value (get_or (get_or pairs i []) 0 0) (get_or (get_or pairs i []) 1 0)) where
  -- the next pair spells a byte
  pub decode_again : (r : List ℕ) (b : ℕ) → p ≡ Some b → r ≡ set bytes i b → Decoding text bytes₀ r (i + 1)
  decode_again r b h s =
      let one : bytes_of (drop (2 * i) text) ≡ b ∷ bytes_of (drop (2 * (i + 1)) text) =
      next_pair text pairs i p e l m q ∙ ap (λ (x : Option ℕ). spelt x (bytes_of (drop (2 * (i + 1)) text))) h in
      record {
        count = omega (arith, ap length one, d.count);
        left = rw s (ap (λ (n : ℕ). sets (set bytes i b) n (bytes_of (drop (2 * (i + 1)) text))) (add-one i) ∙ sym (ap (sets bytes i) one) ∙ d.left);
      }

-- it stops where what is left spells nothing
pub decode_count : (text bytes₀ bytes : List ℕ) (i n : ℕ) → Decoding text bytes₀ bytes i → bytes_of (drop (2 * i) text) ≡ [] → n ≡ i → n ≡ length (bytes_of text)
decode_count text bytes₀ bytes i n d none e = omega (arith, ap length none, d.count)

pub decode_stores : (text bytes₀ bytes : List ℕ) (i : ℕ) → Decoding text bytes₀ bytes i → bytes_of (drop (2 * i) text) ≡ [] → bytes ≡ sets bytes₀ 0 (bytes_of text)
decode_stores text bytes₀ bytes i d none = sym (ap (sets bytes i) none) ∙ d.left

-- the next pair spells no byte
pub spoilt : (text : List ℕ) (pairs : List (List ℕ)) (i : ℕ) (p : Option ℕ) → pairs ≡ first_chunks 2 (length text / 2) text → i < length pairs → length pairs ≡ length text / 2
    → p ≡ pair_value (get_or (get_or pairs i []) 0 0) (get_or (get_or pairs i []) 1 0) → p ≡ None → bytes_of (drop (2 * i) text) ≡ []
spoilt text pairs i p e l m q n = next_pair text pairs i p e l m q ∙ ap (λ (x : Option ℕ). spelt x (bytes_of (drop (2 * (i + 1)) text))) n

short : (t : List ℕ) → length t ≤ 1 → bytes_of t ≡ []
unfolding bytes_of
short [] h = refl
short (x ∷ []) h = refl
short (x ∷ y ∷ t) h = absurd (not-suc-le-zero (le_of_suc-le-suc h))

-- no pair is left
pub no_pair : (text : List ℕ) (i : ℕ) → length text / 2 ≤ i → bytes_of (drop (2 * i) text) ≡ []
no_pair text i h = short (drop (2 * i) text) (simp length-drop (omega arith))
