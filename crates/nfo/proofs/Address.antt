-- "ADR is address + 32, so 20h to 7Fh for 0 to 95": ADR takes these bytes, and no others. Assumes nothing.
use mathlib.Core.Path.{◌≡◌}
use mathlib.Core.Bool.{true}
use Prim.Native.Nat.{ℕ, ◌+◌, ◌-◌, ◌<◌}
use native.Mathlib.Omega.{arith}
use borrow.Author.Tests.{leb-true, le-leb}
use lib.Dec.{leb}
use Rattle.base.proofs.Tests.{both_out, both_in}
use Rattle.nfo.specs.Shape.{fits}
use Rattle.nfo.specs.Message.{ADR}

pub adr_fits : (a : ℕ) → a < 96 → fits ADR (a + 32) ≡ true
adr_fits a h = both_in (le-leb 0x20 (a + 32) (omega arith)) (le-leb (a + 32) 0x7F (omega arith))

pub adr_only : (x : ℕ) → fits ADR x ≡ true → (a : ℕ) × (a < 96) × (x ≡ a + 32)
adr_only x e =
    let h = both_out (leb 0x20 x) (leb x 0x7F) e in
    (x - 32, omega (arith, leb-true 0x20 x h.0, leb-true x 0x7F h.1), omega (arith, leb-true 0x20 x h.0))
