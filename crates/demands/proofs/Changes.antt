-- What each change of a plant keeps, every routine keeps, from any card at all: there is one list of the changes, and each routine makes one of them or none.
-- Assumes nothing.
use Rattle.std.proofs.Common.{Result}
use mathlib.Core.Path.{◌≡◌}
use mathlib.Core.Bool.{Bool, true, not}
use mathlib.Core.List.{List}
use Prim.Native.Nat.{ℕ}
use borrow.Author.Tests.{not-false}
use lib.Dec.{eqb}
use Rattle.base.proofs.Tests.{pick_both}
use Rattle.table.specs.Names.{Inv-St-ack, Inv-St, SioErr}
use Rattle.table.specs.declared.labels.Row.{Row}
use Rattle.port.specs.Port.{Numbers}
use Rattle.drive.specs.Plant.{Plant}
use Rattle.drive.specs.Status.{flag_stands}
use Rattle.drive.specs.Faults.{acknowledged, without14, stopped}
use Rattle.drive.specs.Events as Drive
use Rattle.drive.specs.Events.{raised, ended, port_fault, with_active, with_measured}
use Rattle.drive.specs.declared.events.Measured.{Measured}
use Rattle.reading.specs.Read.{Told, told}
use Rattle.permit.specs.Refusals.{read_only, allowed, init_running, permitted}
use Rattle.permit.specs.Permit.{permit_of}
use Rattle.service.specs.Write.{applied, after, written}
use Rattle.service.specs.Serving.{Served, told_served, wrote_served}
use Rattle.card.specs.State.{Core, restarted}
use Rattle.card.specs.Events as Events
use Rattle.card.specs.declared.state.Card.{Card}
use Rattle.turn.specs.Turn.{Received, waiting, card_after}
use Rattle.receive.specs.Receive.{received}
use Rattle.demands.specs.Calls.{Step, receive, restart, raise, end, din1, measure, parity, tick, Run, done, then}
use Rattle.demands.proofs.Serving.{nfo_each, modbus_each}
use Rattle.demands.proofs.Each.{each, each_tick}
use Rattle.answers.specs.declared.Change.{Change}
use Rattle.answers.specs.declared.Refusal.{Refusal}

-- a plant that has the property A has it after each change
pub record Changes (A : Plant → Type 0) : Type 0 where
  pub raises : (n : ℕ) (p : Plant) → A p → A (raised n p).plant
  pub ends : (n : ℕ) (p : Plant) → A p → A (ended n p).plant
  pub activates : (active : Bool) (p : Plant) → A p → A (with_active active p)
  pub measures : (m : Measured) (p : Plant) → A p → A (with_measured m p)
  pub faults : (p : Plant) → A p → A (port_fault p)
  pub restarts : (p : Plant) → A p → A (Drive.restarted p)
  pub acknowledges : (p : Plant) → A p → A (acknowledged p)
  pub clears_14 : (p : Plant) → A p → A (without14 p)
  pub stops : (p : Plant) → A p → A (stopped p)
  -- a write that is not refused is allowed
  pub writes : (row w : ℕ) (p : Plant) → allowed p row w ≡ true → A p → A (applied row w p)

module _ (A : Plant → Type 0) (change : Changes A) where
  -- ---- a message
  module _ (p : Plant) (q : Numbers) (at : A p) where
    abbrev Leaves : Served → Type 0
    Leaves s = A s.plant

    told_keeps : (row : Row) → Leaves (told_served p q row)
    unfolding told_served told
    told_keeps row =
        pick_both Tells (eqb row.0 Inv-St-ack) (λ _. change.acknowledges p at)
        (λ _. pick_both Tells (eqb row.0 Inv-St) (λ _. at) (λ _. pick_both Tells (eqb row.0 SioErr) (λ _. change.clears_14 p at) (λ _. at)))
      where
        Tells : Told → Type 0
        Tells t = A t.plant

    wrote_keeps : (row w : ℕ) → Leaves (wrote_served p q row w)
    unfolding wrote_served written permit_of
    wrote_keeps row w =
        pick_both After (read_only row) (λ _. at)
        (λ _. pick_both After (not (allowed p row w)) (λ _. at)
        (λ can. pick_both After (flag_stands p) (λ _. at)
        (λ _. pick_both After (init_running p row) (λ _. at)
        (λ _. pick_both After (not (permitted p row w)) (λ _. at) (λ _. change.writes row w p (not-false (allowed p row w) can) at)))))
      where
        After : Result Change Refusal → Type 0
        After x = A (after x p)

  -- ---- the card
  received_keeps : (c : Card) (bytes : List ℕ) (room : ℕ) → A c.plant → A (received c bytes room).card.plant
  unfolding waiting card_after
  received_keeps c bytes room at =
      each c bytes room (λ (r : Received). A r.card.plant) at at (λ scan. at)
      (λ held used m reply. nfo_each Serves p q (λ a. at) (told_keeps p q at) (wrote_keeps p q at) (λ row w. change.stops p at) m)
      (λ held used a u reply. modbus_each Serves p q (λ a. at) (told_keeps p q at) (wrote_keeps p q at) a u)
    where
      p : Plant
      p = c.plant

      q : Numbers
      q = c.port.numbers

      Serves : Served → Type 0
      Serves s = A s.plant

  -- each routine, and any number of them
  pub step_keeps : (c d : Card) → Step c d → A c.plant → A d.plant
  unfolding restarted Events.fault_raised Events.cause_ended Events.event_on Events.din1_set Events.measured_set Events.parity_told Events.port_faulted
  step_keeps c d (receive bytes room) at = received_keeps c bytes room at
  step_keeps c d restart at = change.restarts c.plant at
  step_keeps c d (raise n) at = change.raises n c.plant at
  step_keeps c d (end n) at = change.ends n c.plant at
  step_keeps c d (din1 active) at = change.activates active c.plant at
  step_keeps c d (measure measured) at = change.measures measured c.plant at
  step_keeps c d parity at = change.faults c.plant at
  step_keeps c d (tick n) at = each_tick (λ (k : Core). A k.plant) n c at at (change.faults c.plant at) (λ _. at)

  pub run_keeps : (c d : Card) → Run c d → A c.plant → A d.plant
  run_keeps c d done at = at
  run_keeps c d (then {d = e} step later) at = run_keeps e d later (step_keeps c e step at)
