-- Reading a row: the word that it tells, and what the read does. Assumes nothing.
use Rattle.std.specs.Prelude.{ℕ, eqb, ltb, get_or}
use Rattle.base.specs.Choice.{pick}
use Rattle.table.specs.Names.{Inv-St-ack, Inv-St, SioErr, row_count}
use Rattle.port.specs.Port.{Numbers, sioerr, with_sioerr}
use Rattle.drive.specs.Plant.{Plant}
use Rattle.drive.specs.Status.{status_of}
use Rattle.drive.specs.Faults.{acknowledged, without14}

-- the plant and the port after a read, and the word that it told
pub record Told : Type 0 where
  pub plant : Plant
  pub port : Numbers
  pub word : ℕ

-- a read that changes nothing
abbrev pub telling : Plant → Numbers → ℕ → Told
telling p q word = record { plant = p; port = q; word = word }

-- the word at a row's line; past the table there is none, and 0 is told
unfoldable pub stored : Plant → ℕ → ℕ
stored p row = pick (ltb row row_count) (get_or p row 0) 0

-- "A read of 00E8 or 02A4h tells this, then clears flags whose cause has ended, but not 14"; "Reading SioErr tells it, then zeroes it and flag 14". Any other row
-- tells its word
unfoldable pub told : Plant → Numbers → ℕ → Told
told p q row =
    pick (eqb row Inv-St-ack) (telling (acknowledged p) q (status_of p))
    (pick (eqb row Inv-St) (telling p q (status_of p))
    (pick (eqb row SioErr) (telling (without14 p) (with_sioerr 0 q) (sioerr q)) (telling p q (stored p row))))
