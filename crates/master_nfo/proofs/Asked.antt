-- To whom a request can be said: "addresses above 95 .., a broadcast read". Assumes nothing.
use mathlib.Core.Path.{◌≡◌}
use mathlib.Core.Bool.{true, not}
use Prim.Native.Nat.{ℕ, ◌<◌}
use native.Mathlib.Omega.{arith}
use borrow.Author.Tests.{leb-true, eqb-false, not-true}
use lib.Dec.{eqb, leb}
use Rattle.base.proofs.Tests.{both_out}
use Rattle.master_nfo.specs.Requests.{enquirable, selectable}

pub enquirable_is : (a : ℕ) → enquirable a ≡ true → a < 95
unfolding enquirable
enquirable_is a h =
    let r = both_out (leb a 95) (not (eqb a 95)) h in
    let other : a ≡ 95 → ⊥ = eqb-false a 95 (not-true (eqb a 95) r.1) in
    omega (arith, leb-true a 95 r.0)

pub selectable_is : (a : ℕ) → selectable a ≡ true → a < 96
unfolding selectable
selectable_is a h = omega (arith, leb-true a 95 h)
