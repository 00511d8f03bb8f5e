-- `nfo::next_step` meets its contract: at each place the definition computes, and past both shapes any byte spoils. Assumes nothing.
use native.Mathlib.Omega.{arith}
use Rattle.nfo.proofs.Turns.{step_past}
use Rattle.nfo.proofs.scanning.next_step.Goals as goal

pub returns-in_default : goal.returns-in_default
returns-in_default c = step_past _ _ _ (omega arith)
