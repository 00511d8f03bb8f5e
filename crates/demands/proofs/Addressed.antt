-- What becomes of SiAdr: a write puts there what its row allows, a restart heals it, and no other routine touches it. So what holds of every allowed word, and of a healed one
-- where it held before, stays true of it, from any card at all. Assumes nothing.
use mathlib.Core.Path.{◌≡◌}
use mathlib.Core.Bool.{Bool, true, false}
use Prim.Native.Nat.{ℕ, ◌≤◌, ◌<◌}
use native.Mathlib.Omega.{arith}
use lib.Dec.{eqb, ltb}
use lib.ListN.{get_or, set}
use Rattle.base.proofs.Tests.{pick_both}
use Rattle.table.specs.Names.{SiAdr, MbAdr, Mode, Setpoint, MODE, SCMD, FrqAct, I-rms, OpTime, Drive-Status}
use Rattle.drive.specs.Plant.{Plant, DIN1, Causes, Flags, Station, si_adr, mode, flags, with_si_adr, with_station}
use Rattle.drive.proofs.Laws.{healed_both}
use Rattle.drive.specs.Status.{righted}
use Rattle.drive.specs.Faults.{reflagged, halted, flag_raised, acknowledged, without14, stopped}
use Rattle.drive.specs.Events.{healed, restarted, is_fault, Event, raised, ended, port_fault, switched, with_active, with_measured}
use Rattle.drive.specs.declared.events.Measured.{Measured}
use Rattle.drive.specs.declared.events.Measured.TheVariants.{Frq, Rms, Optime}
use Rattle.permit.specs.Refusals.{allowed}
use Rattle.service.specs.Write.{followed, applied}
use Rattle.card.specs.declared.state.Card.{Card}
use Rattle.demands.specs.Calls.{Step, Run}
use Rattle.demands.specs.Kept.{OwnAddress, Healed}
use Rattle.demands.proofs.Allowing.{si_adr_lem}
use Rattle.demands.proofs.Changes.{Changes, step_keeps, run_keeps}
use Rattle.demands.proofs.KeptPlant.{at_name}

-- SiAdr after a restart is neither 0 nor 95; and an address of the line is one then that a card may have for its own
pub healed_never : (a : ℕ) → Healed (healed a)
healed_never a = healed_both Healed a (λ e. omega (arith, e), λ e. omega (arith, e)) (λ n m. (n, m))

pub healed_own : (a : ℕ) → a ≤ 95 → OwnAddress (healed a)
healed_own a most = healed_both OwnAddress a (omega arith, omega arith) (λ n m. (omega (arith, n), omega (arith, most, m)))

stays_own : (a : ℕ) → OwnAddress a → OwnAddress (healed a)
stays_own a own = healed_own a (omega (arith, own.1))

module _ (Q : ℕ → Type 0) (writes : (p : Plant) (w : ℕ) → allowed p SiAdr w ≡ true → Q w) (heals : (a : ℕ) → Q a → Q (healed a)) where
  record At (p : Plant) : Type 0 where
    word : Q (si_adr p)

  -- ---- the plant
  -- a number is set behind SiAdr
  past : (p : Plant) (i v : ℕ) → SiAdr < i → At p → At (set p i v)
  past p i v behind at = record { word = at_name Q p i SiAdr v at.word (λ e. absurd (omega (arith, e, behind))) }

  righted_at : (p : Plant) → At p → At (righted p)
  unfolding righted
  righted_at p = past p Drive-Status _ (omega arith)

  halted_at : (x : ℕ) (p : Plant) → At p → At (halted x p)
  unfolding halted
  halted_at x p at = righted_at _ (past _ SCMD 0 (omega arith) (past p Flags x (omega arith) at))

  reflagged_at : (x : ℕ) (p : Plant) → At p → At (reflagged x p)
  unfolding reflagged
  reflagged_at x p at = pick_both At (eqb (flags p) x) (λ _. at) (λ _. righted_at _ (past p Flags x (omega arith) at))

  flag_at : (mask : ℕ) (p : Plant) → At p → At (flag_raised mask p)
  unfolding flag_raised
  flag_at mask p = halted_at _ p

  raised_at : (n : ℕ) (p : Plant) → At p → At (raised n p).plant
  unfolding raised
  raised_at n p at = pick_both (λ (e : Event). At e.plant) (is_fault n) (λ _. past _ Causes _ (omega arith) (flag_at _ p at)) (λ _. at)

  ended_at : (n : ℕ) (p : Plant) → At p → At (ended n p).plant
  unfolding ended
  ended_at n p at = pick_both (λ (e : Event). At e.plant) (is_fault n) (λ _. past p Causes _ (omega arith) at) (λ _. at)

  active_at : (active : Bool) (p : Plant) → At p → At (with_active active p)
  unfolding with_active switched
  active_at true p at = righted_at _ (past p DIN1 1 (omega arith) at)
  active_at false p at = righted_at _ (past _ SCMD 0 (omega arith) (past p DIN1 0 (omega arith) at))

  measured_at : (m : Measured) (p : Plant) → At p → At (with_measured m p)
  unfolding with_measured
  measured_at (Frq w) p = past p FrqAct w (omega arith)
  measured_at (Rms w) p = past p I-rms w (omega arith)
  measured_at (Optime w) p = past p OpTime w (omega arith)

  fault_at : (p : Plant) → At p → At (port_fault p)
  unfolding port_fault
  fault_at p at = pick_both At (eqb (mode p) 3) (λ _. flag_at _ p at) (λ _. at)

  restarted_at : (p : Plant) → At p → At (restarted p)
  unfolding restarted
  restarted_at p at = righted_at _ (past _ MODE 1 (omega arith) (past _ SCMD 0 (omega arith) (past _ Flags _ (omega arith) there)))
    where
      ours : Plant
      ours = with_station (get_or p MbAdr 0) p

      there : At (with_si_adr (healed (si_adr p)) ours)
      there = record { word = at_name Q ours SiAdr SiAdr _ (past p Station _ (omega arith) at).word (λ _. heals (si_adr p) at.word) }

  acknowledged_at : (p : Plant) → At p → At (acknowledged p)
  unfolding acknowledged
  acknowledged_at p = reflagged_at _ p

  without14_at : (p : Plant) → At p → At (without14 p)
  unfolding without14
  without14_at p = reflagged_at _ p

  stopped_at : (p : Plant) → At p → At (stopped p)
  unfolding stopped
  stopped_at p = halted_at _ p

  -- a write that is not refused is allowed
  applied_at : (row w : ℕ) (p : Plant) → allowed p row w ≡ true → At p → At (applied row w p)
  unfolding applied followed
  applied_at row w p can at =
      let there : At (set p row w) = record { word = at_name Q p row SiAdr w at.word (λ e. writes p w (rw (← e) can)) } in
      pick_both At (ltb SCMD row) (λ _. at)
      (λ _. pick_both At (eqb (get_or p row 0) w) (λ _. there)
      (λ _. righted_at _
      (pick_both At (eqb row Mode) (λ _. past _ Setpoint 0 (omega arith) there) (λ _. pick_both At (eqb row MODE) (λ _. past _ SCMD 0 (omega arith) there) (λ _. there)))))

  -- ---- each change
  changes : Changes At
  changes =
      record {
        raises = raised_at;
        ends = ended_at;
        activates = active_at;
        measures = measured_at;
        faults = fault_at;
        restarts = restarted_at;
        acknowledges = acknowledged_at;
        clears_14 = without14_at;
        stops = stopped_at;
        writes = applied_at;
      }

  step_at : (c d : Card) → Step c d → Q (si_adr c.plant) → Q (si_adr d.plant)
  step_at c d step at = (step_keeps At changes c d step (record { word = at })).word

  pub run_at : (c d : Card) → Run c d → Q (si_adr c.plant) → Q (si_adr d.plant)
  run_at c d run at = (run_keeps At changes c d run (record { word = at })).word

-- so an address that a card may have stays one
pub step_own : (c d : Card) → Step c d → OwnAddress (si_adr c.plant) → OwnAddress (si_adr d.plant)
step_own = step_at OwnAddress si_adr_lem stays_own

pub run_own : (c d : Card) → Run c d → OwnAddress (si_adr c.plant) → OwnAddress (si_adr d.plant)
run_own = run_at OwnAddress si_adr_lem stays_own
