-- What a caller of `body_of` learns: none where the request cannot be said, else the address and the unit, with room behind them.
-- Assumes nothing.
use Rattle.std.proofs.Common.{Some, None}
use mathlib.Core.Path.{◌≡◌, refl, sym, ap, ap₂, ◌∙◌}
use mathlib.Core.Bool.{Bool, true, false}
use mathlib.Core.List.{List, ◌∷◌}
use Prim.Native.Nat.{ℕ, ◌+◌, ◌≤◌, ◌<◌}
use native.Mathlib.Omega.{arith}
use mir.Syntax.{w64}
use mir.Val.{Fits}
use lib.ListN.{length, take}
use lib.Seq.{sets, length-sets}
use Rattle.base.specs.Choice.{pick}
use Rattle.base.proofs.Sets.{sets_front, take_sets}
use Rattle.master_request.specs.declared.Body.{Body}
use Rattle.master_request.specs.declared.Ask.{Ask}
use Rattle.master_request.specs.Ask.{sayable, request_unit, body_with, body_said}
use Rattle.master_request.proofs.Bodies.{room}
use Rattle.master_request.proofs.AsSaid.{said_most}

pub unsaid : (a : ℕ) (ask : Ask) (s : List ℕ) → None ≡ body_said a ask s → sayable a ask (length s) ≡ false
unfolding body_said
unsaid a ask s = go (sayable a ask (length s))
  where
    go : (t : Bool) → None ≡ pick t (Some (body_with (a ∷ request_unit ask s))) None → t ≡ false
    go true q = cc
    go false q = refl

module _ (a : ℕ) (ask : Ask) (s : List ℕ) (b : Body) (made : Some b ≡ body_said a ask s) where
  pub said : sayable a ask (length s) ≡ true
  unfolding body_said
  said = go (sayable a ask (length s)) made
    where
      go : (t : Bool) → Some b ≡ pick t (Some (body_with (a ∷ request_unit ask s))) None → t ≡ true
      go true q = refl
      go false q = cc

  body_is : b ≡ body_with (a ∷ request_unit ask s)
  unfolding body_said
  body_is = go (sayable a ask (length s)) made
    where
      go : (t : Bool) → Some b ≡ pick t (Some (body_with (a ∷ request_unit ask s))) None → b ≡ body_with (a ∷ request_unit ask s)
      go true q = cc
      go false q = cc

  pub body_end : b.size ≡ length (a ∷ request_unit ask s)
  body_end = ap (λ (x : Body). x.size) body_is

  -- there is room behind it
  pub first_within : b.size < 256
  first_within = omega (arith, body_end, said_most a ask s said)

  pub second_within : b.size + 1 < 256
  second_within = omega (arith, body_end, said_most a ask s said)

  pub end_fits : (k : ℕ) → k ≤ 2 → Fits w64 (b.size + k)
  end_fits k h = omega (arith, first_within)

  pub body_stored : b.bytes ≡ sets room 0 (a ∷ request_unit ask s)
  body_stored = ap (λ (x : Body). x.bytes) body_is ∙ sym (sets_front (a ∷ request_unit ask s) room (omega (arith, body_end, first_within)))

  pub array_length : length b.bytes ≡ 256
  array_length = ap length body_stored ∙ length-sets room 0 (a ∷ request_unit ask s)

  pub end_within : b.size ≤ length b.bytes
  end_within = omega (arith, array_length, first_within)

  pub body_taken : take b.size b.bytes ≡ a ∷ request_unit ask s
  body_taken = ap₂ take body_end body_stored ∙ take_sets (a ∷ request_unit ask s) room (omega (arith, body_end, first_within))
