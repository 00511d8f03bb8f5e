-- Every routine leaves the status word right, because each change of a plant does; so a read tells it right. Assumes nothing.
use mathlib.Core.Path.{refl}
use Rattle.table.specs.Table.{rows, line_at}
use Rattle.table.specs.Address.{address, first_register}
use Rattle.table.specs.Find.{first_row, row_of_span}
use Rattle.drive.specs.Status.{Right}
use Rattle.drive.proofs.Righted.{raised_right, ended_right, active_right, measured_right, fault_right, restarted_right, acknowledged_right, without14_right, stopped_right, started_right}
use Rattle.permit.specs.Refusals.{read_only}
use Rattle.permit.specs.Permit.{permit_of}
use Rattle.service.proofs.Stores.{applied_right}
use Rattle.card.specs.State.{started, restarted}
use Rattle.card.specs.declared.state.Card.{Card}
use Rattle.demands.specs.Calls.{Run, done, then}
use Rattle.demands.specs.Kept.{Sound}
use Rattle.demands.specs.Status.{ToldRight, StatusKept}
use Rattle.demands.proofs.Changes.{Changes, step_keeps, run_keeps}
use Rattle.demands.proofs.Kept.{kept}
use Rattle.demands.proofs.Effects.{effects}

changes : Changes Right
changes =
    record {
      raises = raised_right;
      ends = ended_right;
      activates = active_right;
      measures = measured_right;
      faults = fault_right;
      restarts = λ p right. restarted_right p right.sized;
      acknowledges = acknowledged_right;
      clears_14 = without14_right;
      stops = stopped_right;
      writes = λ row w p can. applied_right row w p;
    }

-- any number of them keep a card sound
run_sound : (c d : Card) → Run c d → Sound c → Sound d
run_sound c d done sound = sound
run_sound c d (then {d = e} step later) sound = run_sound e d later (kept.each c e step sound)

told : (c d : Card) → Sound c → Right c.plant → Run c d → ToldRight d
told c d sound right run = effects.drive_status d (run_sound c d run sound) (run_keeps Right changes c d run right)

pub status_kept : StatusKept
unfolding row_of_span first_row rows first_register address permit_of read_only line_at started restarted
status_kept =
    record {
      register = refl;
      write = λ p w. refl;
      start = λ protocol i. started_right;
      each = step_keeps Right changes;
      restart = λ c sized. restarted_right c.plant sized;
      told = told;
      always = λ protocol i given c run. told (started protocol i) c (kept.start protocol i given) started_right run;
    }
