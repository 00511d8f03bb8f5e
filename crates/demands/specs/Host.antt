-- What start, restart and the host's events do, number by number: "Start, restart and each host event hand back the whole state". With 12 nothing changes (Demand1). Where one
-- changes the drive, Drive Status is made right (`righted`), and nothing else is touched. Assumes nothing.
use Rattle.std.specs.Prelude.{◌≡◌, ◌⊎◌, ◌≢◌, true, false, [], ℕ, ◌+◌, ◌≤◌, ◌<◌, get_or, set}
use Rattle.table.specs.Names.{SiAdr, SioTot, MbAdr, MODE, SCMD, FrqAct, I-rms, OpTime, Drive-Status}
use Rattle.identity.specs.Identity.{Identity}
use Rattle.port.specs.Port.{sum, sioerr, with_sioerr}
use Rattle.drive.specs.Plant.{Plant, Sized, Flags, Station, si_adr, mode, scmd, din1, causes, flags, station, with_scmd, with_din1, with_causes, with_flags}
use Rattle.drive.specs.Status.{righted}
use Rattle.drive.specs.Events.{is_fault}
use Rattle.drive.specs.declared.events.Measured.TheVariants.{Frq, Rms, Optime}
use Rattle.pending.specs.Held.{held}
use Rattle.card.specs.State.{protocol_of, protocol_number, with_plant, card_sum, started, restarted}
use Rattle.card.specs.Events.{fault_raised, cause_ended, din1_set, measured_set, parity_told, ticked}
use Rattle.card.specs.declared.state.Card.{Card}
use Rattle.card.specs.declared.state.Protocol as Protocols
use Rattle.master_reply.specs.Told.{Within}
use Rattle.demands.specs.Kept.{PutIn, TakenOut}

-- flag n is raised, and nothing else: "SCMD becomes 0 when .. a fault flag is raised"
abbrev pub RaisesFlag : ℕ → (before after : Plant) → Type 0
RaisesFlag n before after = (x : ℕ) × PutIn n (flags before) x × (after ≡ righted (with_scmd 0 (with_flags x before)))

-- "SioErr (ours): bit 0 time-out, bit 1 parity fault told by the host. Either one at MODE 3 also raises flag 14"
pub record PortFaultLeaves (bit : ℕ) (c d : Card) : Type 0 where
  pub word : ℕ
  pub bit_set : PutIn bit (sioerr c.port.numbers) word
  pub port : d.port ≡ record { pending = c.port.pending; numbers = with_sioerr word c.port.numbers }
  pub at_3 : mode c.plant ≡ 3 → RaisesFlag 14 c.plant d.plant
  pub else : mode c.plant ≢ 3 → d.plant ≡ c.plant

-- "At start DIN1 is inactive and no cause stands"; what reads tell then is the column Start (Effects)
pub record AtStart (protocol : Protocols.Protocol) (c : Card) : Type 0 where
  pub speaks : protocol_of c ≡ protocol_number protocol
  pub pending : held c.port.pending ≡ []
  pub sum : sum c.port.numbers ≡ 0
  pub din1 : din1 c.plant ≡ 0
  pub causes : causes c.plant ≡ 0
  pub flags : flags c.plant ≡ 0

-- "Restart keeps rows 301 to 322, DIN1, causes and measured numbers; flags become the standing causes; MODE 1, SCMD, SioErr and sum 0, nothing pending"
-- Drive Status is right then, whatever it was (Status.antt)
pub record AfterRestart (c d : Card) : Type 0 where
  pub keeps : (i : ℕ) → i ≢ SiAdr → i ≢ MODE → i ≢ SCMD → i ≢ Flags → i ≢ Station → i ≢ Drive-Status → get_or d.plant i 0 ≡ get_or c.plant i 0
  -- "A restart that finds 0 or 95 kept from before puts 1 there"; any other number stays
  pub healed : (si_adr c.plant ≡ 0) ⊎ (si_adr c.plant ≡ 95) → si_adr d.plant ≡ 1
  pub address : si_adr c.plant ≢ 0 → si_adr c.plant ≢ 95 → si_adr d.plant ≡ si_adr c.plant
  pub flags : flags d.plant ≡ causes c.plant
  pub mode : mode d.plant ≡ 1
  pub scmd : scmd d.plant ≡ 0
  -- "ours is what MbAdr held at the last start or restart"
  pub station : station d.plant ≡ get_or c.plant MbAdr 0
  pub speaks : protocol_of d ≡ protocol_of c
  pub pending : held d.port.pending ≡ []
  pub sum : sum d.port.numbers ≡ 0
  pub sioerr : sioerr d.port.numbers ≡ 0

pub record Host : Type 0 where
  pub start : (protocol : Protocols.Protocol) (i : Identity) → AtStart protocol (started protocol i)
  -- of any card at all. (The array's length is what its type tells.)
  pub restart : (c : Card) → Sized c.plant → AfterRestart c (restarted c)
  -- "Faults 1 to 13 and 16 to 23 .. The host raises one (both set)"
  pub raise : (n : ℕ) (c : Card) → is_fault n ≡ true
      → (p : Plant) × RaisesFlag n c.plant p × ((x : ℕ) × PutIn n (causes c.plant) x × ((fault_raised n c).card ≡ with_plant (with_causes x p) c))
  -- "or ends a cause (the flag stays)"
  pub end : (n : ℕ) (c : Card) → is_fault n ≡ true → (x : ℕ) × TakenOut n (causes c.plant) x × ((cause_ended n c).card ≡ with_plant (with_causes x c.plant) c)
  -- "SCMD becomes 0 when DIN1 goes inactive"
  pub active : (c : Card) → (din1_set true c).card ≡ with_plant (righted (with_din1 1 c.plant)) c
  pub inactive : (c : Card) → (din1_set false c).card ≡ with_plant (righted (with_scmd 0 (with_din1 0 c.plant))) c
  -- "The host sets FrqAct, I-rms and OpTime freely in their widths"
  pub frq_act : (w : ℕ) (c : Card) → (measured_set (Frq w) c).card ≡ with_plant (set c.plant FrqAct w) c
  pub i_rms : (w : ℕ) (c : Card) → (measured_set (Rms w) c).card ≡ with_plant (set c.plant I-rms w) c
  pub op_time : (w : ℕ) (c : Card) → (measured_set (Optime w) c).card ≡ with_plant (set c.plant OpTime w) c
  pub parity : (c : Card) → PortFaultLeaves 1 c (parity_told c).card
  -- "While SioTot is 0 the sum is 0"
  pub tick_off : (n : ℕ) (c : Card) → Within 1 250 n → get_or c.plant SioTot 0 ≡ 0 → (ticked n c).card ≡ card_sum 0 c
  pub tick_below : (n : ℕ) (c : Card) → Within 1 250 n → get_or c.plant SioTot 0 ≢ 0 → sum c.port.numbers + n ≤ get_or c.plant SioTot 0
      → (ticked n c).card ≡ card_sum (sum c.port.numbers + n) c
  -- "If SioTot is not 0 and the sum .. goes above it, a time-out happens and the sum restarts at 0"
  pub tick_above : (n : ℕ) (c : Card) → Within 1 250 n → get_or c.plant SioTot 0 ≢ 0 → get_or c.plant SioTot 0 < sum c.port.numbers + n
      → PortFaultLeaves 0 (card_sum 0 c) (ticked n c).card
