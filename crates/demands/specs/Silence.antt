-- A dead master: "Too many cards were put up with SioTot 0, so a dead master left pumps running all night. The start number becomes 50 (5 seconds)." (Document 02,
-- request 2.) Read aloud: take any card at MODE 3 whose SioTot is not 0. Let anything come on its line but a message for it, and let the host tell it anything but start
-- and restart. Once its ticks add to more than SioTot, its motor does not run and 14 stands. (That it does not stop before is `Host`'s: up to SioTot a tick only
-- counts.) Assumes nothing.
use Rattle.std.specs.Prelude.{◌≡◌, ◌⊎◌, ◌≢◌, Bool, true, false, List, ℕ, ◌+◌, ◌-◌, ◌/◌, ◌≤◌, ◌<◌, length, get_or}
use Rattle.table.specs.Names.{SioTot}
use Rattle.identity.specs.Identity.{Identity}
use Rattle.port.specs.Port.{sioerr}
use Rattle.drive.specs.Plant.{Sized, mode, flags}
use Rattle.drive.specs.Flags.{flagged}
use Rattle.drive.specs.Status.{runs}
use Rattle.drive.specs.declared.events.Measured.{Measured}
use Rattle.card.specs.State.{core_of, with_core, started}
use Rattle.card.specs.Events.{fault_raised, cause_ended, din1_set, measured_set, parity_told, ticked}
use Rattle.card.specs.Outcome.{outcome_number}
use Rattle.card.specs.declared.state.Card.{Card}
use Rattle.card.specs.declared.state.Protocol as Protocols
use Rattle.ticks.specs.Ticks.{tenth, handed_over, tenths_over, Rising, last_of}
use Rattle.turn.specs.Turn.{Received}
use Rattle.receive.specs.Receive.{received}
use Rattle.master_reply.specs.Told.{Within}

-- a call from which no message "of outcome other than 1 or 11" is taken: one for another house or a broadcast read (1), a frame that is wrong (11), or none at all (10, 15)
abbrev pub Unheard : Received → Type 0
Unheard r = (outcome_number r.outcome ≡ 1) ⊎ (10 ≤ outcome_number r.outcome)

-- `Silence c tenths d`: calls that hear nothing, ticks of 1 to 250, and any other host event but start and restart, refused ones too, in any order, lead from the card c
-- to the card d, and those ticks add to so many tenths
pub data Silence : Card → ℕ → Card → Type 0 where
  over : {c : Card} → Silence c 0 c
  call : {c d : Card} {tenths : ℕ} (bytes : List ℕ) (room : ℕ) → Unheard (received c bytes room) → Silence (received c bytes room).card tenths d → Silence c tenths d
  tick : {c d : Card} {tenths : ℕ} (n : ℕ) → Within 1 250 n → Silence (ticked n c).card tenths d → Silence c (n + tenths) d
  no_tick : {c d : Card} {tenths : ℕ} (n : ℕ) → (n < 1) ⊎ (250 < n) → Silence (ticked n c).card tenths d → Silence c tenths d
  raise : {c d : Card} {tenths : ℕ} (n : ℕ) → Silence (fault_raised n c).card tenths d → Silence c tenths d
  end : {c d : Card} {tenths : ℕ} (n : ℕ) → Silence (cause_ended n c).card tenths d → Silence c tenths d
  din1 : {c d : Card} {tenths : ℕ} (active : Bool) → Silence (din1_set active c).card tenths d → Silence c tenths d
  measure : {c d : Card} {tenths : ℕ} (measured : Measured) → Silence (measured_set measured c).card tenths d → Silence c tenths d
  parity : {c d : Card} {tenths : ℕ} → Silence (parity_told c).card tenths d → Silence c tenths d

-- the motor does not run, 14 stands, and SioErr tells of a time-out: "bit 0 time-out"
pub record Stopped (c : Card) : Type 0 where
  pub still : runs c.plant ≡ false
  pub flag_14 : flagged 14 (flags c.plant) ≡ true
  pub time_out : flagged 0 (sioerr c.port.numbers) ≡ true

pub record SilenceStops : Type 0 where
  -- "The start number becomes 50 (5 seconds)"
  pub start : (protocol : Protocols.Protocol) (i : Identity) → get_or (started protocol i).plant SioTot 0 ≡ 50
  -- from every card at MODE 3 whose SioTot is not 0: once the ticks add to more than SioTot. (The arrays' lengths are what their types tell.)
  pub stops : (c d : Card) (tenths : ℕ) → Sized c.plant → length c.port.numbers ≡ 3 → mode c.plant ≡ 3 → get_or c.plant SioTot 0 ≢ 0
      → Silence c tenths d → get_or c.plant SioTot 0 < tenths → Stopped d
  -- a host with a clock, as `line` is, hands over the tenths that have passed: ticks that add to them;
  pub handed : (c : Card) (tenths : ℕ) → Silence c tenths (with_core (handed_over tenths (core_of c)) c)
  -- and however often its clock is read, no tenth is lost, and none is counted twice
  pub counted : (last : ℕ) (times : List ℕ) → Rising last times → tenths_over last times ≡ (last_of last times - last) / tenth
