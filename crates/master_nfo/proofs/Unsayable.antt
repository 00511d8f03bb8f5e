-- "13 (addresses above 95 .., a broadcast read ..)": to whom nothing can be said is exactly that. Assumes nothing.
use mathlib.Core.Path.{◌≡◌, refl}
use mathlib.Core.Logic.{◌↔◌}
use mathlib.Core.Bool.{Bool, true, false, not}
use Prim.Native.Nat.{ℕ, ◌≤◌, ◌<◌}
use native.Mathlib.Omega.{arith}
use borrow.Author.Tests.{ne_eqb, eqb-false, le-leb, lt-leb, leb-true, leb-false, ltb-true, ltb-false, not-true}
use lib.Dec.{leb, eqb, ltb}
use Rattle.base.proofs.Tests.{both_out, both_in, not_both, not_yes, is_false}
use Rattle.master_nfo.specs.Requests.{enquirable, selectable}

-- an ENQUIRY: "95 is broadcast"
pub unenquirable : (address : ℕ) → (enquirable address ≡ false) ↔ (95 ≤ address)
unfolding enquirable
unenquirable address = (go (ltb address 95) refl, λ h. is_false (enquirable address) (refused h))
  where
    go : (t : Bool) → ltb address 95 ≡ t → enquirable address ≡ false → 95 ≤ address
    go true q e =
        let below : address < 95 = ltb-true address 95 q in
        absurd (not_both (both_in (le-leb address 95 (omega arith)) (not_yes (eqb address 95) (ne_eqb address 95 (λ z. omega arith)))) e)
    go false q e = ltb-false address 95 q

    refused : 95 ≤ address → enquirable address ≡ true → ⊥
    refused h e =
        let t = both_out (leb address 95) (not (eqb address 95)) e in
        let most : address ≤ 95 = leb-true address 95 t.0 in
        eqb-false address 95 (not-true (eqb address 95) t.1) (omega arith)

-- a SELECT
pub unselectable : (address : ℕ) → (selectable address ≡ false) ↔ (95 < address)
unfolding selectable
unselectable address = (leb-false address 95, lt-leb address 95)
