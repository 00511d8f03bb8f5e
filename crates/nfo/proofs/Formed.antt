-- A REPLY with 04 in front is a SELECT, in either letters. Assumes nothing.
use mathlib.Core.Path.{◌≡◌}
use mathlib.Core.Bool.{true}
use mathlib.Core.List.{List, ◌∷◌}
use Prim.Native.Nat.{ℕ}
use native.Mathlib.Omega.{arith}
use borrow.Author.Tests.{le-leb}
use Rattle.base.proofs.Tests.{both_in}
use Rattle.hex_pairs.specs.Hex.{is_hex}
use Rattle.hex_pairs.proofs.RoundTrip.{hex_range}
use Rattle.nfo_parts.specs.Replies.{Spells, body_with, reply_with}
use Rattle.nfo_parts.proofs.Spelt.{four}
use Rattle.nfo.specs.Shape.{text, fits, whole}
use Rattle.nfo.specs.Message.{ADR, bcc_in, formed}
use Rattle.nfo.proofs.Narrow.{select_body}
use Rattle.nfo.proofs.Lawful.{select_formed}

-- each digit is one of 20h to 7Fh
pub digit_text : (c : ℕ) → is_hex c ≡ true → fits text c ≡ true
digit_text c h =
    let r = hex_range c h in
    both_in (le-leb 0x20 c (omega (arith, r.0))) (le-leb c 0x7F (omega (arith, r.1)))

module _ (adr e w : ℕ) (number value : List ℕ) (p : Spells number e) (v : Spells value w) (h : fits ADR adr ≡ true) where
  body_shape : whole select_body (0x04 ∷ adr ∷ 0x02 ∷ body_with number value) ≡ true
  unfolding whole
  body_shape =
      let f = four number e p in
      let g = four value w v in
      rw (f.are, g.are)
      (simp (
        h,
        digit_text f.a f.hex.0,
        digit_text f.b f.hex.1,
        digit_text f.c f.hex.2,
        digit_text f.d f.hex.3,
        digit_text g.a g.hex.0,
        digit_text g.b g.hex.1,
        digit_text g.c g.hex.2,
        digit_text g.d g.hex.3,
      ))

  pub reply_formed : formed (0x04 ∷ reply_with adr number value) ≡ true
  unfolding bcc_in
  reply_formed =
      let f = four number e p in
      let g = four value w v in
      rw (f.are, g.are) (rw (f.are, g.are) at (select_formed (0x04 ∷ adr ∷ 0x02 ∷ body_with number value) body_shape))
