-- What a byte does past both shapes. (At a place of theirs the definition computes.) Assumes nothing.
use mathlib.Core.Path.{◌≡◌}
use mathlib.Core.List.{List}
use Prim.Native.Nat.{ℕ, ◌≤◌}
use native.Mathlib.Omega.{arith}
use borrow.Author.Tests.{le-ltb}
use lib.Dec.{eqb, ltb}
use lib.ListN.{length}
use Rattle.base.specs.Choice.{pick}
use Rattle.base.proofs.Tests.{pick_both}
use Rattle.nfo.specs.Shape.{Kind}
use Rattle.nfo.specs.Message.{enquiry, select}
use Rattle.nfo.specs.Scan.{fits_at, step_in, step_of}
use Rattle.nfo.specs.declared.scanning.Step.{Step}
use Rattle.nfo.specs.declared.scanning.Step.TheVariants.{Ends, Checks, Spoils}

spoils_in : (ks : List Kind) (last : Step) (n b : ℕ) → length ks ≤ n → Spoils ≡ step_in ks last n b
unfolding step_in fits_at
spoils_in ks last n b l = simp (le-ltb n (length ks) l)

pub step_past : (n third b : ℕ) → 15 ≤ n → Spoils ≡ step_of n third b
unfolding step_of select enquiry
step_past n third b h =
    pick_both (λ (x : Step). Spoils ≡ x) (eqb (pick (ltb 2 n) third b) 0x02)
    (λ e. spoils_in select Checks n b h)
    (λ e. spoils_in enquiry Ends n b (omega (arith, h)))
