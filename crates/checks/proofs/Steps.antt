-- What the code's loop and tests show: the eight steps of a byte, and the last two bytes of a frame. Assumes nothing.
use Rattle.std.proofs.Common.{◌≡◌, ℕ, suc, ◌+◌, ◌-◌, ◌*◌, ◌<◌, ◌≤◌, false, eqb, List, length, get_or, take, drop, sym, ap, ◌∙◌, arith, le-leb}
use Rattle.std.proofs.lemmas.List.{get_or-drop}
use borrow.Author.Tests.{lt-leb}
use Rattle.checks.specs.Crc.{crc_bit, crc_bits, crc_of, body_of, crc_told, crc_holds}

-- ---- `crc_byte`: of the steps left, one is done
pub step_left : (y z k r : ℕ) → crc_bits (8 - k) y ≡ r → k < 8 → z ≡ crc_bit y → crc_bits (8 - (k + 1)) z ≡ r
step_left y z k r h l e =
    let n : 8 - k ≡ suc (8 - (k + 1)) = omega arith in
    ap (crc_bits (8 - (k + 1))) e ∙ ap (λ (m : ℕ). crc_bits m y) (sym n) ∙ h

-- ---- `crc_holds`: fewer than two bytes, and two or more
pub holds_short : (f : List ℕ) → length f < 2 → false ≡ crc_holds f
unfolding crc_holds
holds_short f h = simp (lt-leb 2 (length f) h)

pub holds_long : (f body last : List ℕ) (c w : ℕ) → body ≡ take (length f - 2) f → last ≡ drop (length f - 2) f → length body + 2 ≡ length f
    → c ≡ crc_of body → w ≡ get_or last 0 0 + get_or last 1 0 * 256 → eqb c w ≡ crc_holds f
unfolding crc_holds body_of crc_told
holds_long f body last c w b l n p q =
    let long : 2 ≤ length f = omega arith in
    let low : get_or last 0 0 ≡ get_or f (length f - 2) 0 = ap (λ (s : List ℕ). get_or s 0 0) l ∙ get_or-drop (length f - 2) f 0 0 ∙ ap (λ (i : ℕ). get_or f i 0) (omega arith) in
    let high : get_or last 1 0 ≡ get_or f (length f - 1) 0 = ap (λ (s : List ℕ). get_or s 1 0) l ∙ get_or-drop (length f - 2) f 1 0 ∙ ap (λ (i : ℕ). get_or f i 0) (omega arith) in
    let told : w ≡ get_or f (length f - 2) 0 + 256 * get_or f (length f - 1) 0 = omega arith in
    simp (p, b, told, le-leb 2 (length f) long)
