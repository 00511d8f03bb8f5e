-- A message that was made of an address and a unit is well-formed, and they are read from it again; and a well-formed message is, in capitals, made so.
-- Assumes nothing.
use Rattle.std.proofs.Common.{◌≡◌, ℕ, zero, suc, ◌+◌, ◌-◌, ◌≤◌, true, List, [], ◌∷◌, ◌++◌, length, get_or, take, drop, sym, refl, ap, ◌∙◌, arith, length-append, take_all, take-suc, take_at}
use Rattle.base.specs.Bytes.{AllBelow, Bytes}
use Rattle.base.proofs.Lists.{below_append, below_element}
use Rattle.hex_pairs.specs.Hex.{capitals}
use Rattle.hex_pairs.proofs.RoundTrip.{bytes_below}
use Rattle.checks.specs.Lrc.{adds_to_zero, lrc_of}
use Rattle.checks.proofs.Laws.{lrc_below, adds_lrc, adds_only}
use Rattle.ascii.specs.Ascii.{text_of, bytes_in, formed, ascii_of, address_among, unit_among}
use Rattle.ascii.proofs.Message.{text_bytes, text_formed, message_text, message_right}

-- ---- what was made is read
module _ (a : ℕ) (u : List ℕ) (below : Bytes (a ∷ u)) where
  all_below : Bytes ((a ∷ u) ++ lrc_of (a ∷ u) ∷ [])
  unfolding AllBelow
  all_below = below_append 256 (a ∷ u) (lrc_of (a ∷ u) ∷ []) below (lrc_below (a ∷ u), tt)

  pub own_bytes : bytes_in (ascii_of a u) ≡ (a ∷ u) ++ lrc_of (a ∷ u) ∷ []
  unfolding ascii_of
  own_bytes = text_bytes ((a ∷ u) ++ lrc_of (a ∷ u) ∷ []) all_below

  pub own_address : address_among (bytes_in (ascii_of a u)) ≡ a
  own_address = ap (λ (b : List ℕ). get_or b 0 0) own_bytes

  pub own_unit : unit_among (bytes_in (ascii_of a u)) ≡ u
  unfolding unit_among
  own_unit =
      ap (λ (b : List ℕ). drop 1 (take (length b - 1) b)) own_bytes
      ∙ ap (drop 1) (take_at (a ∷ u) (lrc_of (a ∷ u) ∷ []) (length ((a ∷ u) ++ lrc_of (a ∷ u) ∷ []) - 1) (omega (arith, length-append (a ∷ u) (lrc_of (a ∷ u) ∷ []))))

  pub own_formed : 1 ≤ length u → length u ≤ 253 → formed (ascii_of a u) ≡ true
  unfolding ascii_of
  own_formed l h =
      let n : length ((a ∷ u) ++ lrc_of (a ∷ u) ∷ []) ≡ length u + 2 = omega (arith, length-append (a ∷ u) (lrc_of (a ∷ u) ∷ [])) in
      text_formed ((a ∷ u) ++ lrc_of (a ∷ u) ∷ []) all_below (omega arith) (omega arith) (adds_lrc (a ∷ u))

-- ---- what is well-formed was made
-- the address and the unit among the bytes
abbrev body : List ℕ → List ℕ
body b = get_or b 0 0 ∷ drop 1 (take (length b - 1) b)

head_tail : (s : List ℕ) (n : ℕ) → 1 ≤ n → 1 ≤ length s → take n s ≡ get_or s 0 0 ∷ drop 1 (take n s)
head_tail [] n h l = absurd (omega arith)
head_tail (x ∷ s) zero h l = absurd (omega arith)
head_tail (x ∷ s) (suc n) h l = refl

-- the last of bytes that add to 0 is the LRC of those before it
with_lrc : (b : List ℕ) → Bytes b → adds_to_zero b ≡ true → (n : ℕ) → length b ≡ suc n → b ≡ take n b ++ lrc_of (take n b) ∷ []
with_lrc b below zeroed n size =
    let split : b ≡ take n b ++ get_or b n 0 ∷ [] = sym (take_all (suc n) b (omega arith)) ∙ take-suc b n 0 (omega arith) in
    let last : get_or b n 0 ≡ lrc_of (take n b) = adds_only (take n b) (get_or b n 0) (below_element 256 b n below (omega arith)) (sym (ap adds_to_zero split) ∙ zeroed) in
    split ∙ ap (λ (y : ℕ). take n b ++ y ∷ []) last

parts : (b : List ℕ) → Bytes b → 3 ≤ length b → adds_to_zero b ≡ true → b ≡ body b ++ lrc_of (body b) ∷ []
parts b below low zeroed =
    with_lrc b below zeroed (length b - 1) (omega arith)
    ∙ ap (λ (c : List ℕ). c ++ lrc_of c ∷ []) (head_tail b (length b - 1) (omega arith) (omega arith))

pub formed_only : (m : List ℕ) → formed m ≡ true → capitals m ≡ ascii_of (address_among (bytes_in m)) (unit_among (bytes_in m))
unfolding ascii_of unit_among bytes_in
formed_only m e =
    let r = message_right m e in
    message_text m e ∙ ap text_of (parts (bytes_in m) (bytes_below _) r.0 r.2)
