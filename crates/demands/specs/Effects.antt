-- Demand 2, its first half: "Each message has exactly the effect .. of document 01". An effect is told by what a following read answers, in messages as a master
-- writes them, over each of the three protocols; and every number that no read tells is named. Drive Status is a row like any other here: its word stands in the card, and after
-- every message it is told by its rule, where it was right before (`drive_status`, and `Status`). Assumes nothing.
use Rattle.std.specs.Prelude.{◌≡◌, ◌⊎◌, ◌≢◌, ◌↔◌, true, false, List, [], ℕ, ◌/◌, ◌^◌, ◌<◌, eqb, length, get_or, Option, Some}
use Rattle.base.specs.Choice.{pick, both, either}
use Rattle.table.specs.Names.{Mode, Setpoint, MODE, SCMD, Inv-St-ack, Inv-St, SioErr, Drive-Status, row_count}
use Rattle.table.specs.Table.{Word, line_at}
use Rattle.table.specs.Find.{row_of_e, row_of_span}
use Rattle.identity.specs.Identity.{Identity}
use Rattle.identity.specs.declared.Part.{Part}
use Rattle.port.specs.Port.{protocol, sum, sioerr, with_sioerr}
use Rattle.drive.specs.Plant.{Plant, si_adr, mode, scmd, din1, causes, flags, station}
use Rattle.drive.specs.Flags.{flagged, only}
use Rattle.drive.specs.Status.{active, Right}
use Rattle.drive.specs.Faults.{reflagged}
use Rattle.answers.specs.declared.Answer.TheVariants as Answers
use Rattle.answers.specs.declared.Change.{Change}
use Rattle.card.specs.State.{protocol_of, with_plant, card_sum, started}
use Rattle.card.specs.Outcome.{outcome_number}
use Rattle.card.specs.declared.state.Card.{Card}
use Rattle.card.specs.declared.state.Protocol as Protocols
use Rattle.card.specs.declared.outcome.Outcome.TheVariants.{Served}
use Rattle.modbus_words.specs.Words.{word_bytes, long_bytes}
use Rattle.rtu.specs.Rtu.{rtu_of}
use Rattle.ascii.specs.Ascii.{ascii_of}
use Rattle.receive.specs.Receive.{received}
use Rattle.master_nfo.specs.Requests.{enquirable, selectable, enquiry_of, select_of}
use Rattle.master_request.specs.declared.Ask.{Ask}
use Rattle.master_request.specs.declared.Ask.TheVariants.{Holding, Input, One, Many}
use Rattle.master_request.specs.Ask.{sayable, request_unit}
use Rattle.master_request.specs.Said.{InWidth}
use Rattle.demands.specs.Calls.{LongEnough, besides}
use Rattle.demands.specs.Kept.{TakenOut, SoundIdentity, Sound}
use Rattle.table.specs.declared.labels.Row.{Row}

-- the row that a label leads to
abbrev pub row : ℕ → Option Row
row n = Some (record { 0 = n })

-- ---- messages that read a row
-- 03 and 04 of its registers
abbrev pub AsksRow : ℕ → Ask → Type 0
AsksRow n (Holding first count) = row_of_span first.0 count ≡ row n
AsksRow n (Input first count) = row_of_span first.0 count ≡ row n
AsksRow n (One register word) = ⊥
AsksRow n (Many first) = ⊥

-- `Asks c n m`: m is a message of the card's protocol that asks it for row n: "We answer to SiAdr and to 0", and over Modbus to our own address
pub data Asks (c : Card) (n : ℕ) : List ℕ → Type 0 where
  to_0 : (e : ℕ) → protocol_of c ≡ 0 → e < 65536 → row_of_e e ≡ row n → Asks c n (enquiry_of 0 e)
  to_si_adr : (e : ℕ) → protocol_of c ≡ 0 → enquirable (si_adr c.plant) ≡ true → e < 65536 → row_of_e e ≡ row n → Asks c n (enquiry_of (si_adr c.plant) e)
  rtu : (ask : Ask) → protocol_of c ≡ 1 → sayable (station c.plant) ask 0 ≡ true → AsksRow n ask → Asks c n (rtu_of (station c.plant) (request_unit ask []))
  ascii : (ask : Ask) → protocol_of c ≡ 2 → sayable (station c.plant) ask 0 ≡ true → InWidth ask [] → AsksRow n ask
      → Asks c n (ascii_of (station c.plant) (request_unit ask []))

-- `Tells c n w`: whoever asks the card for row n, once nothing is pending, is told the word w
abbrev pub Tells : Card → ℕ → ℕ → Type 0
Tells c n w = (m : List ℕ) → Asks c n m → (room : ℕ) → LongEnough c room → (received (besides c) m room).outcome ≡ Served (Answers.Told (record { 0 = n }) w)

-- row n tells one word on both cards
abbrev pub Unchanged : Card → Card → ℕ → Type 0
Unchanged c d n = (w : ℕ) × Tells c n w × Tells d n w

-- ---- messages that write a row
-- "Words go high byte first, 32-bit values low word first": the register bytes of a row that holds the word
abbrev pub register_bytes : ℕ → ℕ → List ℕ
register_bytes n w = pick (eqb (line_at n).registers 2) (long_bytes w) (word_bytes w)

-- 06 of its word, 16 of its register bytes
abbrev pub SetsRow : ℕ → ℕ → Ask → List ℕ → Type 0
SetsRow n w (Holding first count) registers = ⊥
SetsRow n w (Input first count) registers = ⊥
SetsRow n w (One register word) registers = (row_of_span register.0 1 ≡ row n) × (word ≡ w)
SetsRow n w (Many first) registers = (row_of_span first.0 (length registers / 2) ≡ row n) × (registers ≡ register_bytes n w)

-- `Sets c n w m`: m is a message of the card's protocol that writes the word w to row n, whatever its address is
pub data Sets (c : Card) (n w : ℕ) : List ℕ → Type 0 where
  select : (address e : ℕ) → protocol_of c ≡ 0 → selectable address ≡ true → e < 65536 → w < 65536 → row_of_e e ≡ row n → Sets c n w (select_of address e w)
  rtu : (address : ℕ) (ask : Ask) (registers : List ℕ) → protocol_of c ≡ 1 → sayable address ask (length registers) ≡ true → SetsRow n w ask registers
      → Sets c n w (rtu_of address (request_unit ask registers))
  ascii : (address : ℕ) (ask : Ask) (registers : List ℕ) → protocol_of c ≡ 2 → sayable address ask (length registers) ≡ true → InWidth ask registers → SetsRow n w ask registers
      → Sets c n w (ascii_of address (request_unit ask registers))

-- ---- "exactly the effect"
-- what no row tells, and what is the host's
pub record Stays (c d : Card) : Type 0 where
  pub protocol : protocol_of d ≡ protocol_of c
  pub station : station d.plant ≡ station c.plant
  pub din1 : din1 d.plant ≡ din1 c.plant
  pub causes : causes d.plant ≡ causes c.plant
  -- "No message changes the identity"
  pub identity : d.identity ≡ c.identity

-- row n tells its own word: it is none of those that tell of the drive as a whole, by their rules
abbrev pub OwnWord : ℕ → Type 0
OwnWord n = (n ≢ Inv-St-ack) × (n ≢ Inv-St) × (n ≢ Drive-Status)

-- a write of a different number
abbrev pub Differs : Card → Change → ℕ → Type 0
Differs c change n = (change.row.0 ≡ n) × (get_or c.plant n 0 ≢ change.word)

-- the write went to the row alone: not to row n, and nothing follows from it there. The two Inv St rows and Drive Status have their rules
pub record Elsewhere (c : Card) (change : Change) (n : ℕ) : Type 0 where
  pub other : n ≢ change.row.0
  pub setpoint : Differs c change Mode → n ≢ Setpoint
  pub scmd : Differs c change MODE → n ≢ SCMD
  pub own : OwnWord n

-- what a done write leaves
pub record WriteLeaves (c : Card) (change : Change) (d : Card) : Type 0 where
  -- a read of that row tells that word
  pub stored : Tells d change.row.0 change.word
  -- "A write of a different Mode also sets Setpoint to 0"
  pub setpoint : Differs c change Mode → Tells d Setpoint 0
  -- "SCMD becomes 0 when .. MODE changes to a different number"
  pub scmd : Differs c change MODE → Tells d SCMD 0
  -- every other row tells what it told before
  pub others : (n : ℕ) → Elsewhere c change n → Unchanged c d n
  pub stays : Stays c d
  pub flags : flags d.plant ≡ flags c.plant
  pub sum : sum d.port.numbers ≡ 0

-- "A broadcast SELECT of SCMD 0 while 14 is the only flag zeroes SioErr and clears 14", and nothing else
pub record StopLeaves (c : Card) (change : Change) (d : Card) : Type 0 where
  pub nfo : protocol_of c ≡ 0
  pub command : change ≡ record { row = record { 0 = SCMD }; word = 0 }
  pub only_14 : flags c.plant ≡ only 14
  pub sioerr : Tells d SioErr 0
  pub others : (n : ℕ) → n ≢ SioErr → OwnWord n → Unchanged c d n
  pub stays : Stays c d
  pub flags : flags d.plant ≡ 0
  pub sum : sum d.port.numbers ≡ 0

-- the card with these flags, Drive Status by them, and all else as it was but for the time sum
abbrev pub flagged_with : ℕ → Card → Card
flagged_with x c = card_sum 0 (with_plant (reflagged x c.plant) c)

abbrev pub sio_err_zeroed : Card → Card
sio_err_zeroed c = record { port = record { pending = c.port.pending; numbers = with_sioerr 0 c.port.numbers }; plant = c.plant; identity = c.identity }

-- what a done read of row n leaves: nothing changes but the time sum and what is pending, save these
pub record ReadLeaves (c : Card) (n : ℕ) (d : Card) : Type 0 where
  pub others : n ≢ Inv-St-ack → n ≢ SioErr → besides d ≡ besides (card_sum 0 c)
  -- "A read of 00E8 or 02A4h .. then clears flags whose cause has ended, but not 14"
  pub acknowledged : n ≡ Inv-St-ack
      → (x : ℕ) × (besides d ≡ besides (flagged_with x c)) × ((k : ℕ) → k < 32 → flagged k x ≡ both (flagged k (flags c.plant)) (either (flagged k (causes c.plant)) (eqb k 14)))
  -- "Reading SioErr tells it, then zeroes it and flag 14"
  pub zeroed : n ≡ SioErr
      → (x : ℕ) × (besides d ≡ besides (flagged_with x (sio_err_zeroed c))) × TakenOut 14 (flags c.plant) x

-- "Inv St is the lowest flagged number, else 24 at MODE 1, 33/34 at MODE 2 and 37/38 at MODE 3, standing/running". "Running: MODE 2, DIN1 active, no fault flag; or
-- MODE 3, SCMD not 0"
pub data InvSt (p : Plant) : ℕ → Type 0 where
  lowest : (n : ℕ) → flagged n (flags p) ≡ true → ((k : ℕ) → k < n → flagged k (flags p) ≡ false) → InvSt p n
  manual : flags p ≡ 0 → mode p ≡ 1 → InvSt p 24
  auto_stands : flags p ≡ 0 → mode p ≡ 2 → active p ≡ false → InvSt p 33
  auto_runs : flags p ≡ 0 → mode p ≡ 2 → active p ≡ true → InvSt p 34
  bus_stands : flags p ≡ 0 → mode p ≡ 3 → scmd p ≡ 0 → InvSt p 37
  bus_runs : flags p ≡ 0 → mode p ≡ 3 → scmd p ≢ 0 → InvSt p 38

-- "bits from source document 001: 0 ready (MODE 3, DIN1 active, no flag), 1 running, 3 a fault flag stands, 6 DIN1 inactive, 9 MODE 3; the others 0", in 16 bits
pub record DriveStatus (p : Plant) (w : ℕ) : Type 0 where
  pub ready : (flagged 0 w ≡ true) ↔ ((mode p ≡ 3) × (din1 p ≢ 0) × (flags p ≡ 0))
  -- "Running: MODE 2, DIN1 active, no fault flag; or MODE 3, SCMD not 0. Otherwise not."
  pub running : (flagged 1 w ≡ true) ↔ (((mode p ≡ 2) × (din1 p ≢ 0) × (flags p ≡ 0)) ⊎ ((mode p ≡ 3) × (scmd p ≢ 0)))
  pub fault : (flagged 3 w ≡ true) ↔ (flags p ≢ 0)
  pub inactive : (flagged 6 w ≡ true) ↔ (din1 p ≡ 0)
  pub bus : (flagged 9 w ≡ true) ↔ (mode p ≡ 3)
  pub others : (k : ℕ) → k < 32 → k ≢ 0 → k ≢ 1 → k ≢ 3 → k ≢ 6 → k ≢ 9 → flagged k w ≡ false
  pub width : w < 2 ^ 16

-- ---- the statement
pub record Effects : Type 0 where
  -- a message that writes a row, where it is done, wrote that row and that word
  pub names : (c : Card) → Sound c → (n w : ℕ) (m : List ℕ) → Sets c n w m → (room : ℕ) → LongEnough c room → outcome_number (received (besides c) m room).outcome ≡ 0
      → (received (besides c) m room).outcome ≡ Served (Answers.Written (record { row = record { 0 = n }; word = w }))
  -- what a call that wrote leaves, whatever its bytes are. Where a flag stands, writes are refused (5), so what is done then is the broadcast stop
  pub write : (c : Card) → Sound c → (bytes : List ℕ) (room : ℕ) (change : Change) → (received c bytes room).outcome ≡ Served (Answers.Written change)
      → flags c.plant ≡ 0 → WriteLeaves c change (received c bytes room).card
  pub stop : (c : Card) → Sound c → (bytes : List ℕ) (room : ℕ) (change : Change) → (received c bytes room).outcome ≡ Served (Answers.Written change)
      → flags c.plant ≢ 0 → StopLeaves c change (received c bytes room).card
  -- what a call that told a row leaves, whatever its bytes are
  pub read : (c : Card) → Sound c → (bytes : List ℕ) (room n w : ℕ) → (received c bytes room).outcome ≡ Served (Answers.Told (record { 0 = n }) w)
      → ReadLeaves c n (received c bytes room).card
  -- a call that told a part of the identity changes nothing but the time sum and what is pending
  pub identified : (c : Card) (bytes : List ℕ) (room : ℕ) (part : Part) → (received c bytes room).outcome ≡ Served (Answers.Identified part)
      → besides (received c bytes room).card ≡ besides (card_sum 0 c)
  -- whoever asks for a row is told it, one word whatever the message is: Inv St by its rule, SioErr, and any other by the word that stands at its line
  pub row_told : (c : Card) → Sound c → (n : ℕ) → n < row_count → n ≢ Inv-St-ack → n ≢ Inv-St → n ≢ SioErr → Tells c n (get_or c.plant n 0)
  pub status : (c : Card) → Sound c → (n : ℕ) × InvSt c.plant n × Tells c Inv-St n × Tells c Inv-St-ack n
  pub sio_err : (c : Card) → Sound c → Tells c SioErr (sioerr c.port.numbers)
  -- Drive Status, where the word that stands there is right; that every routine keeps it so is in Status.antt
  pub drive_status : (c : Card) → Sound c → Right c.plant → (w : ℕ) × DriveStatus c.plant w × Tells c Drive-Status w
  -- the column Start of every row that has one; the two Inv St rows tell 24, "24 at MODE 1"
  pub start : (protocol : Protocols.Protocol) (i : Identity) → SoundIdentity i → (n w : ℕ) → (line_at n).start ≡ Word w → Tells (started protocol i) n w
  pub start_status : (protocol : Protocols.Protocol) (i : Identity) → SoundIdentity i → Tells (started protocol i) Inv-St-ack 24 × Tells (started protocol i) Inv-St 24
