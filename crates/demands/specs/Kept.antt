-- What every routine keeps of a card. Start makes such a card, and no event and no bytes make another of it; so what the demands ask of a card holds of every
-- card that the routines make. Assumes nothing.
use Rattle.std.specs.Prelude.{◌≡◌, ◌⊎◌, ◌≢◌, true, not, [], ℕ, ◌^◌, ◌≤◌, ◌<◌, eqb, length, get_or}
use Rattle.base.specs.Choice.{both, either}
use Rattle.base.specs.Bytes.{Bytes}
use Rattle.table.specs.Names.{MbAdr, SioTot}
use Rattle.identity.specs.Identity.{Identity}
use Rattle.port.specs.Port.{Numbers, sum}
use Rattle.drive.specs.Plant.{Plant}
use Rattle.drive.specs.Plant as Plants
use Rattle.drive.specs.Flags.{flagged}
use Rattle.drive.specs.Status.{active}
use Rattle.drive.specs.Events.{is_fault}
use Rattle.pending.specs.Held.{held}
use Rattle.pending.specs.Held as Held
use Rattle.card.specs.State.{started, restarted, protocol_of}
use Rattle.card.specs.declared.state.Card.{Card}
use Rattle.card.specs.declared.state.Protocol as Protocols
use Rattle.master_reply.specs.Told.{Within}
use Rattle.demands.specs.Calls.{Step, nfo_serial, modbus_ascii, Speaks}

-- ---- the plant
-- "SCMD | 0, 129, 257"
abbrev pub Command : ℕ → Type 0
Command w = (w ≡ 0) ⊎ ((w ≡ 129) ⊎ (w ≡ 257))

-- "SCMD is written only at MODE 3; run values need DIN1 active"; "SCMD becomes 0 when DIN1 goes inactive, a fault flag is raised, or MODE changes"
abbrev pub Commanded : Plant → Type 0
Commanded p = (Plants.mode p ≡ 3) × (active p ≡ true) × (Plants.flags p ≡ 0)

-- a mask of 32 bits: "Faults 1 to 13 and 16 to 23 .. each have a cause and a flag"; "Either one at MODE 3 also raises flag 14"
abbrev pub OnlyFaults : ℕ → Type 0
OnlyFaults mask = (mask < 2 ^ 32) × ((k : ℕ) → k < 32 → flagged k mask ≡ true → is_fault k ≡ true)

abbrev pub OnlyFaultsAnd14 : ℕ → Type 0
OnlyFaultsAnd14 mask = (mask < 2 ^ 32) × ((k : ℕ) → k < 32 → flagged k mask ≡ true → (is_fault k ≡ true) ⊎ (k ≡ 14))

-- number n is put into a mask, or taken out of it, and no other is
abbrev pub PutIn : ℕ → (before after : ℕ) → Type 0
PutIn n before after = (k : ℕ) → k < 32 → flagged k after ≡ either (flagged k before) (eqb k n)

abbrev pub TakenOut : ℕ → (before after : ℕ) → Type 0
TakenOut n before after = (k : ℕ) → k < 32 → flagged k after ≡ both (flagged k before) (not (eqb k n))

pub record SoundPlant (p : Plant) : Type 0 where
  -- the array's length, which its type tells
  pub sized : Plants.Sized p
  -- "MbAdr | 1..247"
  pub address : Within 1 247 (get_or p MbAdr 0)
  -- "MODE | 1, 2, 3"
  pub mode : Within 1 3 (Plants.mode p)
  pub scmd : Command (Plants.scmd p)
  pub commanded : (Plants.scmd p ≡ 0 → ⊥) → Commanded p
  -- "Addresses 1 to 247; ours is what MbAdr held at the last start or restart"
  pub station : Within 1 247 (Plants.station p)
  pub causes : OnlyFaults (Plants.causes p)
  pub flags : OnlyFaultsAnd14 (Plants.flags p)
  -- 14 is raised at MODE 3, and while it stands no write changes MODE (5)
  pub bus : flagged 14 (Plants.flags p) ≡ true → Plants.mode p ≡ 3

-- ---- the port
-- "if the bytes left could still become one, they are pending": what is pending could become a message of the port's protocol. Of RTU nothing is
pub record SoundPending (c : Card) : Type 0 where
  -- the array's length, which its type tells
  pub sized : Held.Sized c.port.pending
  pub nfo : Speaks nfo_serial c → nfo_serial.format.viable (held c.port.pending) ≡ true
  pub rtu : protocol_of c ≡ 1 → held c.port.pending ≡ []
  pub ascii : Speaks modbus_ascii c → modbus_ascii.format.viable (held c.port.pending) ≡ true

-- "While SioTot is 0 the sum is 0"
abbrev pub SumRight : Plant → Numbers → Type 0
SumRight p q = get_or p SioTot 0 ≡ 0 → sum q ≡ 0

-- ---- the identity: its bytes, and how many they are, which its type tells
abbrev pub SoundIdentity : Identity → Type 0
SoundIdentity i = (length i ≡ 41) × Bytes i

-- ---- the card
pub record Sound (c : Card) : Type 0 where
  pub plant : SoundPlant c.plant
  pub pending : SoundPending c
  -- the array's length, which its type tells; "The protocol of a port is chosen at start": NFO serial, Modbus RTU or Modbus ASCII
  pub numbers : length c.port.numbers ≡ 3
  pub protocol : protocol_of c ≤ 2
  pub sum : SumRight c.plant c.port.numbers
  pub identity : SoundIdentity c.identity

-- "given at start", "No message changes the identity", and nothing else does
pub record IdentityKept : Type 0 where
  pub start : (protocol : Protocols.Protocol) (i : Identity) → (started protocol i).identity ≡ i
  pub each : (c d : Card) → Step c d → d.identity ≡ c.identity

-- ---- SiAdr
-- an address that a card may have for its own: "NFO's table allows 0 to 95, but its text, rightly, says 1 to 94. That becomes the allowed range"
abbrev pub OwnAddress : ℕ → Type 0
OwnAddress address = Within 1 94 address

-- neither 0, to which every card answers, nor 95, which is broadcast
abbrev pub Healed : ℕ → Type 0
Healed address = (address ≢ 0) × (address ≢ 95)

-- of any card at all, sound or not. (The array's length is what its type tells.)
pub record AddressKept : Type 0 where
  pub start : (protocol : Protocols.Protocol) (i : Identity) → OwnAddress (Plants.si_adr (started protocol i).plant)
  pub each : (c d : Card) → Step c d → OwnAddress (Plants.si_adr c.plant) → OwnAddress (Plants.si_adr d.plant)
  -- "A restart that finds 0 or 95 kept from before puts 1 there": after it SiAdr is neither, whatever it was
  pub restart : (c : Card) → Plants.Sized c.plant → Healed (Plants.si_adr (restarted c).plant)

pub record Kept : Type 0 where
  pub start : (protocol : Protocols.Protocol) (i : Identity) → SoundIdentity i → Sound (started protocol i)
  pub each : (c d : Card) → Step c d → Sound c → Sound d
  pub identity : IdentityKept
  pub address : AddressKept
