-- Host events on the whole card. Assumes nothing.
use Rattle.std.specs.Prelude.{Bool, ℕ, ◌+◌, eqb, ltb, get_or}
use Rattle.std.specs.Int.Bits.{bit_or}
use Rattle.base.specs.Choice.{pick, either}
use Rattle.table.specs.Names.{SioTot}
use Rattle.port.specs.Port.{TimeOut, Parity, sum, sioerr, with_sum, with_sioerr}
use Rattle.drive.specs.declared.events.Measured.{Measured}
use Rattle.drive.specs.Plant.{Plant}
use Rattle.drive.specs.Events.{Event, raised, ended, port_fault, with_active, with_measured}
use Rattle.card.specs.State.{Core, core_of, with_core, with_plant}
use Rattle.card.specs.declared.state.Card.{Card}
use Rattle.card.specs.declared.events.After.{After}
use Rattle.card.specs.declared.outcome.Outcome.{Outcome}
use Rattle.card.specs.declared.outcome.Outcome.TheVariants.{Done, NoSuchEvent}

-- ---- events that name a fault
-- "12: host event number not allowed"
unfoldable pub event_outcome : Bool → Outcome
event_outcome known = pick known Done NoSuchEvent

-- "Start, restart and each host event hand back the whole state": what the event made of the plant
unfoldable pub event_on : Event → Card → After
event_on event c = record { card = with_plant event.plant c; outcome = event_outcome event.known }

-- "The host raises one (both set) or ends a cause (the flag stays)"
unfoldable pub fault_raised : ℕ → Card → After
fault_raised n c = event_on (raised n c.plant) c

unfoldable pub cause_ended : ℕ → Card → After
cause_ended n c = event_on (ended n c.plant) c

-- ---- events that are never refused
abbrev pub happened : Plant → Card → After
happened plant c = record { card = with_plant plant c; outcome = Done }

unfoldable pub din1_set : Bool → Card → After
din1_set active c = happened (with_active active c.plant) c

-- "The host sets FrqAct, I-rms and OpTime freely in their widths"
unfoldable pub measured_set : Measured → Card → After
measured_set measured c = happened (with_measured measured c.plant) c

-- ---- events of the port
-- "SioErr (ours): bit 0 time-out, bit 1 parity fault told by the host. Either one at MODE 3 also raises flag 14"
unfoldable pub port_faulted : ℕ → Core → Core
port_faulted bit k = record { port = with_sioerr (bit_or (sioerr k.port) bit) k.port; plant = port_fault k.plant }

unfoldable pub parity_told : Card → After
parity_told c = record { card = with_core (port_faulted Parity (core_of c)) c; outcome = Done }

-- the time sum is this
abbrev pub summed : ℕ → Core → Core
summed x k = record { port = with_sum x k.port; plant = k.plant }

-- "If SioTot is not 0 and the sum .. goes above it, a time-out happens and the sum restarts at 0. While SioTot is 0 the sum is 0"
unfoldable pub counted : ℕ → ℕ → Core → Core
counted limit n k =
    pick (eqb limit 0) (summed 0 k)
    (pick (ltb limit (sum k.port + n)) (port_faulted TimeOut (summed 0 k)) (summed (sum k.port + n) k))

-- the core after a tick, and its outcome
pub record Ticked : Type 0 where
  pub core : Core
  pub outcome : Outcome

-- "The host ticks 1 to 250 tenths"; 12 changes nothing
unfoldable pub ticked_in : ℕ → Core → Ticked
ticked_in n k =
    pick (either (ltb n 1) (ltb 250 n)) (record { core = k; outcome = NoSuchEvent })
    (record { core = counted (get_or k.plant SioTot 0) n k; outcome = Done })

unfoldable pub ticked : ℕ → Card → After
ticked n c = record { card = with_core (ticked_in n (core_of c)).core c; outcome = (ticked_in n (core_of c)).outcome }
