-- What a read tells and does, row by row, in the words of document 01. Assumes nothing.
use mathlib.Core.Path.{◌≡◌, refl}
use Prim.Native.Nat.{ℕ, ◌<◌}
use borrow.Author.Tests.{ne_eqb, lt-ltb}
use lib.ListN.{get_or}
use Rattle.table.specs.Names.{Inv-St-ack, Inv-St, SioErr, row_count}
use Rattle.port.specs.Port.{Numbers, sioerr, with_sioerr}
use Rattle.drive.specs.Plant.{Plant}
use Rattle.drive.specs.Status.{status_of}
use Rattle.drive.specs.Faults.{acknowledged, without14}
use Rattle.reading.specs.Read.{telling, stored, told}

-- a row that is stored tells its word, and the read changes nothing
pub tells_stored : (p : Plant) (q : Numbers) (row : ℕ) → row < row_count → (row ≡ Inv-St-ack → ⊥) → (row ≡ Inv-St → ⊥) → (row ≡ SioErr → ⊥)
    → told p q row ≡ telling p q (get_or p row 0)
unfolding stored told
tells_stored p q row h a b c = simp (lt-ltb _ _ h, ne_eqb _ _ a, ne_eqb _ _ b, ne_eqb _ _ c)

-- "A read of 00E8 or 02A4h tells this, then clears flags whose cause has ended, but not 14"
pub tells_ack : (p : Plant) (q : Numbers) → told p q Inv-St-ack ≡ telling (acknowledged p) q (status_of p)
unfolding told
tells_ack p q = refl

-- a read of 00E9 or 02A5h tells the same, and clears nothing
pub tells_status : (p : Plant) (q : Numbers) → told p q Inv-St ≡ telling p q (status_of p)
unfolding told
tells_status p q = refl

-- "Reading SioErr tells it, then zeroes it and flag 14"
pub tells_sioerr : (p : Plant) (q : Numbers) → told p q SioErr ≡ telling (without14 p) (with_sioerr 0 q) (sioerr q)
unfolding told
tells_sioerr p q = refl
