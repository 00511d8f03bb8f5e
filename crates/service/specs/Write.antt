-- What a write changes. Assumes nothing.
use Rattle.std.specs.Prelude.{ℕ, eqb, ltb, get_or, set, Result, Ok, Err}
use Rattle.base.specs.Choice.{pick}
use Rattle.table.specs.Names.{Mode, Setpoint, MODE, SCMD}
use Rattle.drive.specs.Plant.{Plant, with_scmd}
use Rattle.drive.specs.Status.{righted}
use Rattle.permit.specs.Permit.{permit_of}
use Rattle.answers.specs.declared.Change.{Change}
use Rattle.answers.specs.declared.Refusal.{Refusal}

-- "A write of a different Mode also sets Setpoint to 0"; "SCMD becomes 0 when .. MODE changes to a different number"
unfoldable pub followed : ℕ → Plant → Plant
followed row p = pick (eqb row Mode) (set p Setpoint 0) (pick (eqb row MODE) (with_scmd 0 p) p)

-- a row holds this word then, and where it is a different one, Drive Status is made right; rows past SCMD are never written
unfoldable pub applied : ℕ → ℕ → Plant → Plant
applied row w p = pick (ltb SCMD row) p (pick (eqb (get_or p row 0) w) (set p row w) (righted (followed row (set p row w))))

-- "Refusals 2 to 9 change no state but the time sum"
abbrev pub after : Result Change Refusal → Plant → Plant
after (Ok change) p = applied change.row.0 change.word p
after (Err refusal) p = p

-- the plant after a write, and what was written or the refusal
pub record Written : Type 0 where
  pub plant : Plant
  pub permit : Result Change Refusal

unfoldable pub written : Plant → ℕ → ℕ → Written
written p row w = record { plant = after (permit_of p row w) p; permit = permit_of p row w }
