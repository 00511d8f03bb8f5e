-- A text that begins with `:` and ends with CR LF, and the bytes that the characters between spell: it is a message exactly where these are all of it, and right.
-- Assumes nothing.
use mathlib.Core.Path.{◌≡◌, refl, sym, ap, ◌∙◌}
use mathlib.Core.Bool.{Bool, true}
use mathlib.Core.List.{List, [], ◌∷◌, ◌++◌}
use Prim.Native.Nat.{ℕ, suc, ◌+◌, ◌-◌, ◌*◌, ◌≤◌, ◌<◌}
use native.Mathlib.Omega.{arith}
use borrow.Author.Tests.{leb-true, le-leb, eqb-true, eq-eqb}
use lib.Dec.{leb, eqb}
use lib.ListN.{length, take, drop, get_or, length-take, length-drop, length-append, take-append-drop, drop_of_length-le}
use lib.Seq.{drop-cons, drop-drop, take_at, get_or_at, get_or-append-add}
use Rattle.base.specs.Choice.{both}
use Rattle.base.proofs.Tests.{both_out, both_in}
use Rattle.hex_pairs.specs.Hex.{bytes_of}
use Rattle.hex_pairs.proofs.RoundTrip.{Whole, length_bytes}
use Rattle.modbus.specs.Request.{between}
use Rattle.ascii.specs.Ascii.{bytes_in, right, formed}
use Rattle.ascii.proofs.Message.{line_bytes, line_formed, message_out}
use Rattle.master_ascii.specs.Heard.{framed}

-- the characters between
abbrev pub inner : List ℕ → List ℕ
inner m = take (length m - 2 - 1) (drop 1 m)

-- ---- what the test tells
record Framed (m : List ℕ) : Type 0 where
  least : 9 ≤ length m
  most : length m ≤ 513
  colon : get_or m 0 0 ≡ 0x3A
  cr : get_or m (length m - 2) 0 ≡ 0x0D
  lf : get_or m (length m - 1) 0 ≡ 0x0A

framed_out : (m : List ℕ) → framed m ≡ true → Framed m
unfolding framed
framed_out m e =
    let n : ℕ = length m in
    let c : Bool = eqb (get_or m (n - 2) 0) 0x0D in
    let l : Bool = eqb (get_or m (n - 1) 0) 0x0A in
    let h = both_out (between 9 513 n) (both (eqb (get_or m 0 0) 0x3A) (both c l)) e in
    let k = both_out (leb 9 n) (leb n 513) h.0 in
    let i = both_out (eqb (get_or m 0 0) 0x3A) (both c l) h.1 in
    let j = both_out c l i.1 in
    record {
      least = leb-true 9 n k.0;
      most = leb-true n 513 k.1;
      colon = eqb-true (get_or m 0 0) 0x3A i.0;
      cr = eqb-true (get_or m (n - 2) 0) 0x0D j.0;
      lf = eqb-true (get_or m (n - 1) 0) 0x0A j.1;
    }

framed_in : (m : List ℕ) → Framed m → framed m ≡ true
unfolding framed
framed_in m h =
    both_in (both_in (le-leb 9 (length m) h.least) (le-leb (length m) 513 h.most))
    (both_in (eq-eqb (get_or m 0 0) 0x3A h.colon) (both_in (eq-eqb (get_or m (length m - 2) 0) 0x0D h.cr) (eq-eqb (get_or m (length m - 1) 0) 0x0A h.lf)))

-- there are characters between, and their bytes fit an array of 255
pub inner_least : (m : List ℕ) → framed m ≡ true → 9 ≤ length m
inner_least m e = (framed_out m e).least

pub inner_starts : (m : List ℕ) → framed m ≡ true → 1 ≤ length m - 2
inner_starts m e = omega (arith, (framed_out m e).least)

pub inner_ends : (m : List ℕ) → framed m ≡ true → 2 ≤ length m
inner_ends m e = omega (arith, (framed_out m e).least)

pub inner_few : (m : List ℕ) → framed m ≡ true → length (bytes_of (inner m)) ≤ 255
inner_few m e =
    let h = framed_out m e in
    omega (arith, length_bytes (inner m), length-take (length m - 2 - 1) (drop 1 m), h.most)

-- ---- a text so framed, whose characters between are all pairs, is `:`, these and CR LF
split : (m : List ℕ) → 3 ≤ length m → m ≡ get_or m 0 0 ∷ inner m ++ (get_or m (length m - 2) 0 ∷ get_or m (length m - 1) 0 ∷ [])
split m h =
    let n : ℕ = length m - 2 - 1 in
    let a : 0 < length m = omega arith in
    let b : suc n < length m = omega arith in
    let c : suc (suc n) < length m = omega arith in
    let d : length m ≤ suc (suc (suc n)) = omega arith in
    let o : 1 + n ≡ suc n = omega arith in
    let p : suc n ≡ length m - 2 = omega arith in
    let q : suc (suc n) ≡ length m - 1 = omega arith in
    drop-cons m 0 0 a
    ∙ ap (λ (t : List ℕ). get_or m 0 0 ∷ t)
    (sym (take-append-drop n (drop 1 m)) ∙ ap (λ (t : List ℕ). inner m ++ t)
    (drop-drop n 1 m
    ∙ ap (λ (k : ℕ). drop k m) o
    ∙ drop-cons m (suc n) 0 b
    ∙ ap (λ (t : List ℕ). get_or m (suc n) 0 ∷ t) (drop-cons m (suc (suc n)) 0 c ∙ ap (λ (t : List ℕ). get_or m (suc (suc n)) 0 ∷ t) (drop_of_length-le m d))
    ∙ (λ i. get_or m (p i) 0 ∷ get_or m (q i) 0 ∷ [])))

module _ (m : List ℕ) (e : framed m ≡ true) (whole : 2 * length (bytes_of (inner m)) + 3 ≡ length m) where
  all : Whole (inner m)
  all = omega (arith, whole, length-take (length m - 2 - 1) (drop 1 m), length-drop 1 m, (framed_out m e).least)

  is_text : m ≡ 0x3A ∷ inner m ++ 0x0D ∷ 0x0A ∷ []
  is_text =
      let h = framed_out m e in
      split m (omega (arith, h.least)) ∙ (λ i. h.colon i ∷ inner m ++ (h.cr i ∷ h.lf i ∷ []))

  pub inner_bytes : bytes_in m ≡ bytes_of (inner m)
  inner_bytes = ap bytes_in is_text ∙ line_bytes (inner m) all

  -- it is a message where these are right
  pub inner_formed : formed m ≡ right (bytes_in m)
  inner_formed = ap formed is_text ∙ line_formed (inner m) all ∙ ap right (sym inner_bytes)

-- ---- a message is such a text
module _ (d : List ℕ) (whole : Whole d) (low : 3 ≤ length (bytes_of d)) (high : length (bytes_of d) ≤ 255) where
  text : List ℕ
  text = 0x3A ∷ d ++ 0x0D ∷ 0x0A ∷ []

  size : length text ≡ length d + 3
  unfolding text
  size = omega (arith, length-append d (0x0D ∷ 0x0A ∷ []))

  text_framed : Framed text
  unfolding text
  text_framed =
      let k : length (0x3A ∷ d) ≡ length text - 2 = omega (arith, size) in
      let l : length text - 1 ≡ length (0x3A ∷ d) + 1 = omega (arith, size) in
      record {
        least = omega (arith, size, whole);
        most = omega (arith, size, whole);
        colon = refl;
        cr = get_or_at (0x3A ∷ d) 0x0D (0x0A ∷ []) 0 (length text - 2) k;
        lf = rw l (get_or-append-add (0x3A ∷ d) (0x0D ∷ 0x0A ∷ []) 1 0);
      }

  text_inner : inner text ≡ d
  unfolding text
  text_inner = take_at d (0x0D ∷ 0x0A ∷ []) (length text - 2 - 1) (omega (arith, size))

  text_whole : 2 * length (bytes_of (inner text)) + 3 ≡ length text
  text_whole = rw text_inner (omega (arith, size, whole))

pub formed_framed : (m : List ℕ) → formed m ≡ true → framed m ≡ true
unfolding text
formed_framed m e = let r = message_out m e in rw r.text (framed_in _ (text_framed r.digits r.whole r.low r.high))

pub formed_whole : (m : List ℕ) → formed m ≡ true → 2 * length (bytes_of (inner m)) + 3 ≡ length m
unfolding text
formed_whole m e = let r = message_out m e in rw r.text (text_whole r.digits r.whole r.low r.high)
