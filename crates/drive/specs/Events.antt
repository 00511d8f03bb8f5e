-- Restart, host events, and what a port's fault does to the drive. Assumes nothing.
use Rattle.std.specs.Prelude.{Bool, true, false, ℕ, eqb, leb, get_or, set}
use Rattle.std.specs.Int.Bits.{bit_or, bit_and}
use Rattle.base.specs.Choice.{pick, both, either}
use Rattle.drive.specs.declared.events.Measured.{Measured}
use Rattle.drive.specs.declared.events.Measured.TheVariants.{Frq, Rms, Optime}
use Rattle.table.specs.Names.{MbAdr, FrqAct, I-rms, OpTime}
use Rattle.drive.specs.Plant.{Plant, si_adr, mode, causes, with_si_adr, with_mode, with_scmd, with_din1, with_causes, with_flags, with_station}
use Rattle.drive.specs.Flags.{only, all_but}
use Rattle.drive.specs.Status.{righted}
use Rattle.drive.specs.Faults.{flag_raised}

-- "A restart that finds 0 or 95 kept from before puts 1 there": SiAdr after a restart
unfoldable pub healed : ℕ → ℕ
healed address = pick (eqb address 0) 1 (pick (eqb address 95) 1 address)

-- "Restart keeps rows 301 to 322, DIN1, causes and measured numbers", but for a SiAdr of 0 or 95; "flags become the standing causes; MODE 1, SCMD .. 0";
-- "ours is what MbAdr held at the last start or restart"
unfoldable pub restarted : Plant → Plant
restarted p = righted (with_mode 1 (with_scmd 0 (with_flags (causes p) (with_si_adr (healed (si_adr p)) (with_station (get_or p MbAdr 0) p)))))

-- "Faults 1 to 13 and 16 to 23"
unfoldable pub is_fault : ℕ → Bool
is_fault n = either (both (leb 1 n) (leb n 13)) (both (leb 16 n) (leb n 23))

-- the plant after an event that names a fault, and whether there is a fault of that number
pub record Event : Type 0 where
  pub plant : Plant
  pub known : Bool

-- an event that names fault n; "12: host event number not allowed" changes nothing
abbrev pub event : ℕ → Plant → Plant → Event
event n after before = pick (is_fault n) (record { plant = after; known = true }) (record { plant = before; known = false })

-- "The host raises one (both set)": the cause and the flag
unfoldable pub raised : ℕ → Plant → Event
raised n p = event n (with_causes (bit_or (causes p) (only n)) (flag_raised (only n) p)) p

-- "or ends a cause (the flag stays)"
unfoldable pub ended : ℕ → Plant → Event
ended n p = event n (with_causes (bit_and (causes p) (all_but n)) p) p

-- "bit 0 time-out, bit 1 parity fault .. Either one at MODE 3 also raises flag 14"
unfoldable pub port_fault : Plant → Plant
port_fault p = pick (eqb (mode p) 3) (flag_raised (only 14) p) p

-- "SCMD becomes 0 when DIN1 goes inactive"
unfoldable pub switched : Bool → Plant → Plant
switched true p = with_din1 1 p
switched false p = with_scmd 0 (with_din1 0 p)

unfoldable pub with_active : Bool → Plant → Plant
with_active active p = righted (switched active p)

-- "The host sets FrqAct, I-rms and OpTime freely in their widths"
unfoldable pub with_measured : Measured → Plant → Plant
with_measured (Frq word) p = set p FrqAct word
with_measured (Rms word) p = set p I-rms word
with_measured (Optime word) p = set p OpTime word
