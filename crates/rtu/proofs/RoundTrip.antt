-- A frame that was made of an address and a unit holds, and they are read from it again; and a frame that holds is made so. Assumes nothing.
use mathlib.Core.Path.{◌≡◌, refl, sym, ap, ◌∙◌}
use mathlib.Core.Bool.{true}
use mathlib.Core.List.{List, [], ◌∷◌, ◌++◌}
use Prim.Native.Nat.{ℕ, ◌+◌, ◌-◌, ◌≤◌}
use native.Mathlib.Omega.{arith}
use borrow.Author.Tests.{leb-true, le-leb}
use lib.Dec.{leb}
use lib.ListN.{length, drop, get_or}
use lib.Seq.{get_or-take}
use Rattle.base.specs.Bytes.{Bytes}
use Rattle.base.proofs.Tests.{both_out, both_in}
use Rattle.checks.specs.Crc.{body_of, crc_bytes, crc_holds}
use Rattle.checks.proofs.Laws.{own_body, own_holds, holds_only, body_length}
use Rattle.modbus.specs.Request.{between}
use Rattle.rtu.specs.Rtu.{frame_holds, address_in, unit_in, rtu_of}
use Rattle.rtu.proofs.Replies.{rtu_length}

-- ---- what was made is read
module _ (a : ℕ) (u : List ℕ) where
  pub own_address : address_in (rtu_of a u) ≡ a
  unfolding address_in rtu_of
  own_address = refl

  pub own_unit : unit_in (rtu_of a u) ≡ u
  unfolding unit_in rtu_of
  own_unit = ap (drop 1) (own_body (a ∷ u))

  pub own_frame : 1 ≤ length u → length u ≤ 253 → frame_holds (rtu_of a u) ≡ true
  unfolding frame_holds rtu_of
  own_frame l h =
      let n : length (rtu_of a u) ≡ length u + 3 = rtu_length a u in
      both_in (both_in (le-leb 4 (length (rtu_of a u)) (omega arith)) (le-leb (length (rtu_of a u)) 256 (omega arith))) (own_holds (a ∷ u))

-- ---- what holds was made
parts : (s : List ℕ) → 1 ≤ length s → get_or s 0 0 ∷ drop 1 s ≡ s
parts [] h = absurd (omega arith)
parts (x ∷ s) h = refl

first : (f : List ℕ) → 4 ≤ length f → get_or f 0 0 ≡ get_or (body_of f) 0 0
unfolding body_of
first f h = sym (get_or-take (length f - 2) f 0 0 (omega arith))

pub frame_only : (f : List ℕ) → Bytes f → frame_holds f ≡ true → f ≡ rtu_of (address_in f) (unit_in f)
unfolding frame_holds address_in unit_in rtu_of
frame_only f below e =
    let h = both_out (between 4 256 (length f)) (crc_holds f) e in
    let long : 4 ≤ length f = leb-true 4 (length f) (both_out (leb 4 (length f)) (leb (length f) 256) h.0).0 in
    let body : address_in f ∷ unit_in f ≡ body_of f =
    ap (λ (x : ℕ). x ∷ drop 1 (body_of f)) (first f long) ∙ parts (body_of f) (omega (arith, body_length f)) in
    holds_only f below h.1 ∙ ap (λ (b : List ℕ). b ++ crc_bytes b) (sym body)
