-- Document 01's ★ cases and case 9, the errors that it says to rule out, small letters, an exchange of RTU, a 32-bit row written and read back over ASCII, the
-- time-out that is on from the start, SiAdr at its limits, the status word that is kept, and the card's identity: one table, one statement. "Fresh start, address 1, unless said". Assumes nothing.
use Rattle.std.specs.Prelude.{◌≡◌, true, List, [], ◌∷◌, ◌++◌, map, ℕ, zero, suc, ◌+◌, ◌^◌, drop}
use Rattle.base.specs.Buffers.{reply_least}
use Rattle.hex_pairs.specs.Hex.{hex_of}
use Rattle.identity.specs.Identity.{Identity}
use Rattle.drive.specs.Plant as Plant
use Rattle.card.specs.declared.state.Card.{Card}
use Rattle.card.specs.declared.state.Protocol.{Protocol}
use Rattle.card.specs.declared.state.Protocol.TheVariants.{Nfo, Rtu, Ascii}
use Rattle.card.specs.declared.outcome.Outcome.{Outcome}
use Rattle.card.specs.declared.outcome.Outcome.TheVariants.{Done, Served, ShortBuffer, BadFrame, NoSuchEvent, NothingTaken}
use Rattle.card.specs.State.{protocol_of, with_plant, started, restarted}
use Rattle.card.specs.Events.{fault_raised, cause_ended, din1_set, ticked}
use Rattle.card.specs.Outcome.{outcome_number}
use Rattle.turn.specs.Turn.{Received}
use Rattle.receive.specs.Receive.{received}
use Rattle.demands.specs.Calls.{asks_status}

-- a message's outcome number and its reply
pub record Said : Type 0 where
  pub number : ℕ
  pub reply : List ℕ

abbrev pub says : ℕ → List ℕ → Said
says number reply = record { number = number; reply = reply }

-- what comes to a card: bytes on its line, a tick of so many tenths, a restart
pub data Event : Type 0 where
  came : List ℕ → Event
  tick : ℕ → Event
  restart : Event

-- what the messages say, and the fault flags after them
pub record Shown : Type 0 where
  pub said : List Said
  pub flags : ℕ

abbrev pub showing : List Said → ℕ → Shown
showing said flags = record { said = said; flags = flags }

-- what a call says, before what the later ones say; nothing, where nothing was taken
abbrev pub saying : Outcome → List ℕ → Shown → Shown
saying Done reply later = later
saying (Served answer) reply later = showing (says (outcome_number (Served answer)) reply ∷ later.said) later.flags
saying ShortBuffer reply later = later
saying BadFrame reply later = later
saying NoSuchEvent reply later = later
saying NothingTaken reply later = later

-- so many calls of `receive`, with a reply buffer just long enough, each on the rest that the one before left; then what comes later
abbrev pub called : ℕ → Card → List ℕ → (Card → Shown) → Shown
called zero c bytes later = later c
called (suc n) c bytes later = let r : Received = received c bytes (reply_least (protocol_of c)) in saying r.outcome r.reply (called n r.card (drop r.used bytes) later)

-- one after another; bytes by four calls
abbrev pub shown : List Event → Card → Shown
shown [] c = showing [] (Plant.flags c.plant)
shown (came b ∷ events) c = called 4 c b (shown events)
shown (tick n ∷ events) c = shown events (ticked n c).card
shown (restart ∷ events) c = shown events (restarted c)

-- the ENQUIRY of case 2, without the EOT that it begins with, and with it; its reply
abbrev pub ask_rest : List ℕ
ask_rest = 0x21 ∷ 0x45 ∷ 0x30 ∷ 0x30 ∷ 0x31 ∷ 0x44 ∷ 0x05 ∷ []

abbrev pub ask : List ℕ
ask = 0x04 ∷ ask_rest

abbrev pub accel_50 : List ℕ
accel_50 = 0x21 ∷ 0x02 ∷ 0x45 ∷ 0x30 ∷ 0x30 ∷ 0x31 ∷ 0x44 ∷ 0x3D ∷ 0x30 ∷ 0x30 ∷ 0x33 ∷ 0x32 ∷ 0x03 ∷ 0x0F ∷ []

-- the same with 0093h
abbrev pub accel_147 : List ℕ
accel_147 = 0x21 ∷ 0x02 ∷ 0x45 ∷ 0x30 ∷ 0x30 ∷ 0x31 ∷ 0x44 ∷ 0x3D ∷ 0x30 ∷ 0x30 ∷ 0x39 ∷ 0x33 ∷ 0x03 ∷ 0x04 ∷ []

abbrev pub ack : List ℕ
ack = 0x21 ∷ 0x06 ∷ []

abbrev pub nak : List ℕ
nak = 0x21 ∷ 0x15 ∷ []

-- SELECT Accel, up to its value
abbrev pub accel : List ℕ
accel = 0x04 ∷ 0x21 ∷ 0x02 ∷ 0x45 ∷ 0x30 ∷ 0x30 ∷ 0x31 ∷ 0x44 ∷ 0x3D ∷ []

-- SELECT R-fix1, up to its value
abbrev pub r_fix1 : List ℕ
r_fix1 = 0x04 ∷ 0x21 ∷ 0x02 ∷ 0x45 ∷ 0x30 ∷ 0x30 ∷ 0x33 ∷ 0x39 ∷ 0x3D ∷ []

-- ---- a master that falls silent
-- SELECT of MODE 3, SCMD 129, SioTot 10
abbrev pub mode_3 : List ℕ
mode_3 = 0x04 ∷ 0x21 ∷ 0x02 ∷ 0x45 ∷ 0x30 ∷ 0x30 ∷ 0x32 ∷ 0x39 ∷ 0x3D ∷ 0x30 ∷ 0x30 ∷ 0x30 ∷ 0x33 ∷ 0x03 ∷ 0x73 ∷ []

abbrev pub scmd_129 : List ℕ
scmd_129 = 0x04 ∷ 0x21 ∷ 0x02 ∷ 0x45 ∷ 0x30 ∷ 0x30 ∷ 0x41 ∷ 0x44 ∷ 0x3D ∷ 0x30 ∷ 0x30 ∷ 0x38 ∷ 0x31 ∷ 0x03 ∷ 0x77 ∷ []

abbrev pub sio_tot_10 : List ℕ
sio_tot_10 = 0x04 ∷ 0x21 ∷ 0x02 ∷ 0x45 ∷ 0x30 ∷ 0x30 ∷ 0x41 ∷ 0x42 ∷ 0x3D ∷ 0x30 ∷ 0x30 ∷ 0x30 ∷ 0x41 ∷ 0x03 ∷ 0x09 ∷ []

-- ENQUIRY of Inv St, SCMD and SioErr
abbrev pub ask_status : List ℕ
ask_status = asks_status 1

abbrev pub ask_scmd : List ℕ
ask_scmd = 0x04 ∷ 0x21 ∷ 0x45 ∷ 0x30 ∷ 0x30 ∷ 0x41 ∷ 0x44 ∷ 0x05 ∷ []

abbrev pub ask_sio_err : List ℕ
ask_sio_err = 0x04 ∷ 0x21 ∷ 0x45 ∷ 0x30 ∷ 0x30 ∷ 0x41 ∷ 0x43 ∷ 0x05 ∷ []

-- REPLY: Inv St 14, 37 and 38, SCMD 0, SioErr 1
abbrev pub status_14 : List ℕ
status_14 = 0x21 ∷ 0x02 ∷ 0x45 ∷ 0x30 ∷ 0x30 ∷ 0x45 ∷ 0x39 ∷ 0x3D ∷ 0x30 ∷ 0x30 ∷ 0x30 ∷ 0x45 ∷ 0x03 ∷ 0x72 ∷ []

abbrev pub status_37 : List ℕ
status_37 = 0x21 ∷ 0x02 ∷ 0x45 ∷ 0x30 ∷ 0x30 ∷ 0x45 ∷ 0x39 ∷ 0x3D ∷ 0x30 ∷ 0x30 ∷ 0x32 ∷ 0x35 ∷ 0x03 ∷ 0x00 ∷ []

abbrev pub status_38 : List ℕ
status_38 = 0x21 ∷ 0x02 ∷ 0x45 ∷ 0x30 ∷ 0x30 ∷ 0x45 ∷ 0x39 ∷ 0x3D ∷ 0x30 ∷ 0x30 ∷ 0x32 ∷ 0x36 ∷ 0x03 ∷ 0x03 ∷ []

abbrev pub scmd_0 : List ℕ
scmd_0 = 0x21 ∷ 0x02 ∷ 0x45 ∷ 0x30 ∷ 0x30 ∷ 0x41 ∷ 0x44 ∷ 0x3D ∷ 0x30 ∷ 0x30 ∷ 0x30 ∷ 0x30 ∷ 0x03 ∷ 0x7E ∷ []

abbrev pub sio_err_1 : List ℕ
sio_err_1 = 0x21 ∷ 0x02 ∷ 0x45 ∷ 0x30 ∷ 0x30 ∷ 0x41 ∷ 0x43 ∷ 0x3D ∷ 0x30 ∷ 0x30 ∷ 0x30 ∷ 0x31 ∷ 0x03 ∷ 0x78 ∷ []

-- ---- SiAdr
-- SELECT SiAdr, up to its value; its values 0, 1, 94 and 95, each with the BCC
abbrev pub si_adr_lem : List ℕ
si_adr_lem = 0x04 ∷ 0x21 ∷ 0x02 ∷ 0x45 ∷ 0x30 ∷ 0x30 ∷ 0x41 ∷ 0x39 ∷ 0x3D ∷ []

abbrev pub to_0 : List ℕ
to_0 = 0x30 ∷ 0x30 ∷ 0x30 ∷ 0x30 ∷ 0x03 ∷ 0x03 ∷ []

abbrev pub to_1 : List ℕ
to_1 = 0x30 ∷ 0x30 ∷ 0x30 ∷ 0x31 ∷ 0x03 ∷ 0x02 ∷ []

abbrev pub to_94 : List ℕ
to_94 = 0x30 ∷ 0x30 ∷ 0x35 ∷ 0x45 ∷ 0x03 ∷ 0x73 ∷ []

abbrev pub to_95 : List ℕ
to_95 = 0x30 ∷ 0x30 ∷ 0x35 ∷ 0x46 ∷ 0x03 ∷ 0x70 ∷ []

-- REPLY from an address: Inv St 24
abbrev pub status_24 : ℕ → List ℕ
status_24 address = (address + 32) ∷ 0x02 ∷ 0x45 ∷ 0x30 ∷ 0x30 ∷ 0x45 ∷ 0x39 ∷ 0x3D ∷ 0x30 ∷ 0x30 ∷ 0x31 ∷ 0x38 ∷ 0x03 ∷ 0x0E ∷ []

-- ---- Modbus RTU
-- a read of Drive Status, 0258h; MODE 3 and SCMD 129 by 06, which the replies repeat
abbrev pub ask_drive : List ℕ
ask_drive = 0x01 ∷ 0x03 ∷ 0x02 ∷ 0x58 ∷ 0x00 ∷ 0x01 ∷ 0x04 ∷ 0x61 ∷ []

abbrev pub rtu_mode_3 : List ℕ
rtu_mode_3 = 0x01 ∷ 0x06 ∷ 0x02 ∷ 0x94 ∷ 0x00 ∷ 0x03 ∷ 0x89 ∷ 0x9F ∷ []

abbrev pub rtu_scmd_129 : List ℕ
rtu_scmd_129 = 0x01 ∷ 0x06 ∷ 0x02 ∷ 0x98 ∷ 0x00 ∷ 0x81 ∷ 0xC9 ∷ 0xFD ∷ []

-- Drive Status is told, by its number; and 1, of any row
abbrev pub drive_0000 : List ℕ
drive_0000 = 0x01 ∷ 0x03 ∷ 0x02 ∷ 0x00 ∷ 0x00 ∷ 0xB8 ∷ 0x44 ∷ []

abbrev pub drive_0040 : List ℕ
drive_0040 = 0x01 ∷ 0x03 ∷ 0x02 ∷ 0x00 ∷ 0x40 ∷ 0xB9 ∷ 0xB4 ∷ []

abbrev pub drive_0048 : List ℕ
drive_0048 = 0x01 ∷ 0x03 ∷ 0x02 ∷ 0x00 ∷ 0x48 ∷ 0xB8 ∷ 0x72 ∷ []

abbrev pub drive_0201 : List ℕ
drive_0201 = 0x01 ∷ 0x03 ∷ 0x02 ∷ 0x02 ∷ 0x01 ∷ 0x78 ∷ 0xE4 ∷ []

abbrev pub drive_0203 : List ℕ
drive_0203 = 0x01 ∷ 0x03 ∷ 0x02 ∷ 0x02 ∷ 0x03 ∷ 0xF9 ∷ 0x25 ∷ []

abbrev pub drive_0208 : List ℕ
drive_0208 = 0x01 ∷ 0x03 ∷ 0x02 ∷ 0x02 ∷ 0x08 ∷ 0xB8 ∷ 0xE2 ∷ []

abbrev pub told_1 : List ℕ
told_1 = 0x01 ∷ 0x03 ∷ 0x02 ∷ 0x00 ∷ 0x01 ∷ 0x79 ∷ 0x84 ∷ []

-- ---- Modbus ASCII
-- the characters of a message, `:` before and CR LF behind
abbrev pub line : List ℕ → List ℕ
line digits = 0x3A ∷ digits ++ (0x0D ∷ 0x0A ∷ [])

-- the message of these bytes, the LRC among them, in pairs of hex digits
abbrev pub spelt : List ℕ → List ℕ
spelt bytes = line (hex_of bytes)

-- 0103 and 0183, which begin the replies
abbrev pub read_1 : List ℕ
read_1 = 0x30 ∷ 0x31 ∷ 0x30 ∷ 0x33 ∷ []

abbrev pub refused_1 : List ℕ
refused_1 = 0x30 ∷ 0x31 ∷ 0x38 ∷ 0x33 ∷ []

-- ---- who the card is: revision `1.0.3 of November`, model `VW-95/07`, and a serial number with a zero byte in it
abbrev pub who : Identity
who =
    0x31 ∷ 0x2E ∷ 0x30 ∷ 0x2E ∷ 0x33 ∷ 0x20 ∷ 0x6F ∷ 0x66 ∷ 0x20 ∷ 0x4E ∷ 0x6F ∷ 0x76 ∷ 0x65 ∷ 0x6D ∷ 0x62 ∷ 0x65 ∷ 0x72
    ∷ 0x56 ∷ 0x57 ∷ 0x2D ∷ 0x39 ∷ 0x35 ∷ 0x2F ∷ 0x30 ∷ 0x37
    ∷ 0x30 ∷ 0x30 ∷ 0x34 ∷ 0x32 ∷ 0x00 ∷ 0x41 ∷ 0x42 ∷ 0x43 ∷ 0x44 ∷ 0x45 ∷ 0x46 ∷ 0x47 ∷ 0x48 ∷ 0x49 ∷ 0x4A ∷ 0x4B ∷ []

abbrev pub fresh : Protocol → Card
fresh protocol = started protocol who

-- fault 1 was raised and its cause has ended, so that a read of 00E8 or 02A4h would acknowledge it
abbrev pub faulted : Protocol → Card
faulted protocol = (cause_ended 1 (fault_raised 1 (fresh protocol)).card).card

-- ---- the table: the card before, what comes to it, and what is said of that
pub record Case : Type 0 where
  pub card : Card
  pub events : List Event
  pub right : Shown

-- of a fresh card and some bytes, no flag afterwards
abbrev pub case : List ℕ → List Said → Case
case m right = record { card = fresh Nfo; events = came m ∷ []; right = showing right 0 }

abbrev pub rtu : List ℕ → List Said → Case
rtu m right = record { card = fresh Rtu; events = came m ∷ []; right = showing right 0 }

abbrev pub ascii : List ℕ → List Said → Case
ascii m right = record { card = fresh Ascii; events = came m ∷ []; right = showing right 0 }

-- a broadcast read, where fault 1 could be acknowledged: outcome 1, no reply, and flag 1 stands
abbrev pub broadcast_read : Protocol → List ℕ → Case
broadcast_read protocol m = record { card = faulted protocol; events = came m ∷ []; right = showing (says 1 [] ∷ []) 2 }

-- a card on NFO serial that holds this SiAdr from before: what is said of some bytes, and of others after a restart
abbrev pub holding : ℕ → (before : List ℕ) → List Said → (after : List ℕ) → List Said → Case
holding address before said after then =
    record {
      card = with_plant (Plant.with_si_adr address (fresh Nfo).plant) (fresh Nfo);
      events = came before ∷ restart ∷ came after ∷ [];
      right = showing (said ++ then) 0;
    }

-- a fresh card on NFO serial to which MODE 3 is written, and the flags that stand after what comes then
abbrev pub at_mode_3 : List Event → List Said → ℕ → Case
at_mode_3 events right flags = record { card = fresh Nfo; events = came mode_3 ∷ events; right = showing (says 0 ack ∷ right) flags }

unfoldable pub cases : List Case
cases =
    -- 1: "S2's own SELECT .. outcome 2, NAK 21 15"
    case (0x04 ∷ 0x21 ∷ 0x02 ∷ 0x45 ∷ 0x30 ∷ 0x30 ∷ 0x31 ∷ 0x39 ∷ 0x3D ∷ 0x30 ∷ 0x30 ∷ 0x36 ∷ 0x34 ∷ 0x03 ∷ 0x71 ∷ []) (says 2 nak ∷ [])
    -- 2: ENQUIRY of Accel
    ∷ case ask (says 0 accel_50 ∷ [])
    -- 3: "SELECT Accel 0064h, BCC 0C: 21 06. With BCC 0D: nothing taken"
    ∷ case (accel ++ (0x30 ∷ 0x30 ∷ 0x36 ∷ 0x34 ∷ 0x03 ∷ 0x0C ∷ [])) (says 0 ack ∷ [])
    ∷ case (accel ++ (0x30 ∷ 0x30 ∷ 0x36 ∷ 0x34 ∷ 0x03 ∷ 0x0D ∷ [])) []
    -- 4: "R-fix1 B1E0h (−20000): 0. B1DFh: 4"
    ∷ case (r_fix1 ++ (0x42 ∷ 0x31 ∷ 0x45 ∷ 0x30 ∷ 0x03 ∷ 0x77 ∷ [])) (says 0 ack ∷ [])
    ∷ case (r_fix1 ++ (0x42 ∷ 0x31 ∷ 0x44 ∷ 0x46 ∷ 0x03 ∷ 0x00 ∷ [])) (says 4 nak ∷ [])
    -- 5: "SELECT Accel 0093h has BCC 04. Without an EOT of its own, the ENQUIRY of case 2 right after it is lost"
    ∷ case (accel ++ (0x30 ∷ 0x30 ∷ 0x39 ∷ 0x33 ∷ 0x03 ∷ 0x04 ∷ ask_rest)) (says 0 ack ∷ [])
    -- 6: "04 21 02 45 30 30 31 44 3D 30 30 39 34 03, then case 2: its reply only"
    ∷ case (accel ++ (0x30 ∷ 0x30 ∷ 0x39 ∷ 0x34 ∷ 0x03 ∷ ask)) (says 0 accel_50 ∷ [])
    -- 7: "`:01030294000165`: `:0103020001F9`"
    ∷ ascii (line (read_1 ++ (0x30 ∷ 0x32 ∷ 0x39 ∷ 0x34 ∷ 0x30 ∷ 0x30 ∷ 0x30 ∷ 0x31 ∷ 0x36 ∷ 0x35 ∷ [])))
    (says 0 (line (read_1 ++ (0x30 ∷ 0x32 ∷ 0x30 ∷ 0x30 ∷ 0x30 ∷ 0x31 ∷ 0x46 ∷ 0x39 ∷ []))) ∷ [])
    -- "`:0103070C0001E8`: `:0183027A`"
    ∷ ascii (line (read_1 ++ (0x30 ∷ 0x37 ∷ 0x30 ∷ 0x43 ∷ 0x30 ∷ 0x30 ∷ 0x30 ∷ 0x31 ∷ 0x45 ∷ 0x38 ∷ [])))
    (says 2 (line (refused_1 ++ (0x30 ∷ 0x32 ∷ 0x37 ∷ 0x41 ∷ []))) ∷ [])
    -- "`:000302A4000156`: outcome 1, nothing acknowledged"
    ∷ broadcast_read Ascii (line (0x30 ∷ 0x30 ∷ 0x30 ∷ 0x33 ∷ 0x30 ∷ 0x32 ∷ 0x41 ∷ 0x34 ∷ 0x30 ∷ 0x30 ∷ 0x30 ∷ 0x31 ∷ 0x35 ∷ 0x36 ∷ []))
    -- "Acknowledging a fault on a broadcast read": an ENQUIRY of 00E8 to 95 is outcome 1, and flag 1 stands; "or on 02A5h": a read of it tells 1, and flag 1 stands
    ∷ broadcast_read Nfo (0x04 ∷ 0x7F ∷ 0x45 ∷ 0x30 ∷ 0x30 ∷ 0x45 ∷ 0x38 ∷ 0x05 ∷ [])
    ∷ record {
      card = faulted Ascii;
      events = came (spelt (0x01 ∷ 0x03 ∷ 0x02 ∷ 0xA5 ∷ 0x00 ∷ 0x01 ∷ 0x54 ∷ [])) ∷ [];
      right = showing (says 0 (spelt (0x01 ∷ 0x03 ∷ 0x02 ∷ 0x00 ∷ 0x01 ∷ 0xF9 ∷ [])) ∷ []) 2;
    }
    -- 9: "SELECT Accel 0093h, then case 2": `0 2106`, `0 210245303031443D303039330304`
    ∷ case (accel ++ (0x30 ∷ 0x30 ∷ 0x39 ∷ 0x33 ∷ 0x03 ∷ 0x04 ∷ ask)) (says 0 ack ∷ says 0 accel_147 ∷ [])
    -- case 2 in small letters, `E001d`: its reply, byte for byte. "The prefix E stays a capital": `e001D` is no row
    ∷ case (0x04 ∷ 0x21 ∷ 0x45 ∷ 0x30 ∷ 0x30 ∷ 0x31 ∷ 0x64 ∷ 0x05 ∷ []) (says 0 accel_50 ∷ [])
    ∷ case (0x04 ∷ 0x21 ∷ 0x65 ∷ 0x30 ∷ 0x30 ∷ 0x31 ∷ 0x44 ∷ 0x05 ∷ []) (says 2 nak ∷ [])
    -- case 4 in small letters, `b1e0` and `b1df`; `g` is no digit: 8
    ∷ case (r_fix1 ++ (0x62 ∷ 0x31 ∷ 0x65 ∷ 0x30 ∷ 0x03 ∷ 0x77 ∷ [])) (says 0 ack ∷ [])
    ∷ case (r_fix1 ++ (0x62 ∷ 0x31 ∷ 0x64 ∷ 0x66 ∷ 0x03 ∷ 0x20 ∷ [])) (says 4 nak ∷ [])
    ∷ case (r_fix1 ++ (0x62 ∷ 0x31 ∷ 0x67 ∷ 0x30 ∷ 0x03 ∷ 0x75 ∷ [])) (says 8 nak ∷ [])
    -- case 7 in small letters: `:0103070c0001e8` is answered `:0183027A`; `:000302a4000156` acknowledges nothing
    ∷ ascii (line (read_1 ++ (0x30 ∷ 0x37 ∷ 0x30 ∷ 0x63 ∷ 0x30 ∷ 0x30 ∷ 0x30 ∷ 0x31 ∷ 0x65 ∷ 0x38 ∷ [])))
    (says 2 (line (refused_1 ++ (0x30 ∷ 0x32 ∷ 0x37 ∷ 0x41 ∷ []))) ∷ [])
    ∷ broadcast_read Ascii (line (0x30 ∷ 0x30 ∷ 0x30 ∷ 0x33 ∷ 0x30 ∷ 0x32 ∷ 0x61 ∷ 0x34 ∷ 0x30 ∷ 0x30 ∷ 0x30 ∷ 0x31 ∷ 0x35 ∷ 0x36 ∷ []))
    -- RTU: MODE is read, with MB's CRC low byte first
    ∷ rtu (0x01 ∷ 0x03 ∷ 0x02 ∷ 0x94 ∷ 0x00 ∷ 0x01 ∷ 0xC4 ∷ 0x5E ∷ []) (says 0 told_1 ∷ [])
    -- ASCII: a 16 of 1000000, F4240h, to SpdScl num, "32-bit values low word first", and a read of it
    ∷ ascii (spelt (0x01 ∷ 0x10 ∷ 0x07 ∷ 0x0C ∷ 0x00 ∷ 0x02 ∷ 0x04 ∷ 0x42 ∷ 0x40 ∷ 0x00 ∷ 0x0F ∷ 0x45 ∷ []) ++ spelt (0x01 ∷ 0x03 ∷ 0x07 ∷ 0x0C ∷ 0x00 ∷ 0x02 ∷ 0xE7 ∷ []))
    (says 0 (spelt (0x01 ∷ 0x10 ∷ 0x07 ∷ 0x0C ∷ 0x00 ∷ 0x02 ∷ 0xDA ∷ []))
    ∷ says 0 (spelt (0x01 ∷ 0x03 ∷ 0x04 ∷ 0x42 ∷ 0x40 ∷ 0x00 ∷ 0x0F ∷ 0x67 ∷ [])) ∷ [])
    -- "The start number becomes 50 (5 seconds)": 50 tenths of silence at MODE 3 are nothing; one more, and 14 stands; Inv St tells 14, SCMD is 0, and SioErr tells 1, which
    -- clears 14
    ∷ at_mode_3 (tick 50 ∷ []) [] 0
    ∷ at_mode_3 (tick 50 ∷ tick 1 ∷ []) [] (2 ^ 14)
    ∷ at_mode_3 (tick 50 ∷ tick 1 ∷ came (ask_status ++ (ask_scmd ++ ask_sio_err)) ∷ []) (says 0 status_14 ∷ says 0 scmd_0 ∷ says 0 sio_err_1 ∷ []) 0
    -- the motor that ran stands
    ∷ record {
      card = (din1_set true (fresh Nfo)).card;
      events = came (mode_3 ++ (scmd_129 ++ ask_status)) ∷ tick 50 ∷ tick 1 ∷ came (ask_status ++ ask_scmd) ∷ [];
      right = showing (says 0 ack ∷ says 0 ack ∷ says 0 status_38 ∷ says 0 status_14 ∷ says 0 scmd_0 ∷ []) (2 ^ 14);
    }
    -- a message every 50 tenths: never
    ∷ at_mode_3 (tick 50 ∷ came ask_status ∷ tick 50 ∷ came ask_status ∷ tick 50 ∷ came ask_status ∷ [])
    (says 0 status_37 ∷ says 0 status_37 ∷ says 0 status_37 ∷ []) 0
    -- "the last taken message of outcome other than 1": one for another house is none of ours
    ∷ at_mode_3 (tick 50 ∷ came (asks_status 2) ∷ tick 1 ∷ []) (says 1 [] ∷ []) (2 ^ 14)
    -- "Cards restarted with a SioTot of their own keep it": with 10, ten tenths are nothing, and eleven are too long
    ∷ at_mode_3 (came sio_tot_10 ∷ restart ∷ came mode_3 ∷ tick 10 ∷ []) (says 0 ack ∷ says 0 ack ∷ []) 0
    ∷ at_mode_3 (came sio_tot_10 ∷ restart ∷ came mode_3 ∷ tick 11 ∷ []) (says 0 ack ∷ says 0 ack ∷ []) (2 ^ 14)
    -- over RTU: MODE 3, a frame whose CRC is wrong ("or 11"), and 14 is told
    ∷ record {
      card = fresh Rtu;
      events =
          came rtu_mode_3 ∷ tick 50 ∷ came (0x01 ∷ 0x06 ∷ 0x02 ∷ 0x94 ∷ 0x00 ∷ 0x03 ∷ 0x89 ∷ 0x9E ∷ []) ∷ tick 1
          ∷ came (0x01 ∷ 0x03 ∷ 0x02 ∷ 0xA5 ∷ 0x00 ∷ 0x01 ∷ 0x95 ∷ 0x91 ∷ []) ∷ [];
      right =
          showing (says 0 rtu_mode_3 ∷ says 0 (0x01 ∷ 0x03 ∷ 0x02 ∷ 0x00 ∷ 0x0E ∷ 0x39 ∷ 0x80 ∷ []) ∷ []) (2 ^ 14);
    }
    -- "That becomes the allowed range": SiAdr 94 is written, and the card answers to 94 from the next message on, to 0, and no more to 1; 1 is written;
    ∷ case (si_adr_lem ++ (to_94 ++ (asks_status 94 ++ (asks_status 0 ++ asks_status 1)))) (says 0 ack ∷ says 0 (status_24 94) ∷ says 0 (status_24 0) ∷ says 1 [] ∷ [])
    ∷ case (si_adr_lem ++ (to_1 ++ asks_status 1)) (says 0 ack ∷ says 0 (status_24 1) ∷ [])
    -- "Refusals: 4 for 0 and 95", by broadcast and over RTU, too, and the card goes on answering
    ∷ case (si_adr_lem ++ (to_95 ++ (asks_status 1 ++ asks_status 95))) (says 4 nak ∷ says 0 (status_24 1) ∷ says 1 [] ∷ [])
    ∷ case (si_adr_lem ++ (to_0 ++ (asks_status 1 ++ asks_status 0))) (says 4 nak ∷ says 0 (status_24 1) ∷ says 0 (status_24 0) ∷ [])
    ∷ case (0x04 ∷ 0x7F ∷ drop 2 si_adr_lem ++ (to_95 ++ asks_status 1)) (says 4 [] ∷ says 0 (status_24 1) ∷ [])
    ∷ rtu (0x01 ∷ 0x06 ∷ 0x07 ∷ 0x00 ∷ 0x00 ∷ 0x5F ∷ 0xC8 ∷ 0x86 ∷ []) (says 4 (0x01 ∷ 0x86 ∷ 0x03 ∷ 0x02 ∷ 0x61 ∷ []) ∷ [])
    -- "A restart that finds 0 or 95 kept from before puts 1 there": the card answers to 1 then, and "0 and 95 keep their meaning on the line"
    ∷ holding 95 (asks_status 1 ++ (asks_status 95 ++ asks_status 0)) (says 1 [] ∷ says 1 [] ∷ says 0 (status_24 0) ∷ []) (asks_status 1 ++ asks_status 95) (says 0 (status_24 1) ∷ says 1 [] ∷ [])
    ∷ holding 0 (asks_status 1) (says 1 [] ∷ []) (asks_status 1 ++ asks_status 0) (says 0 (status_24 1) ∷ says 0 (status_24 0) ∷ [])
    -- and any other number stays
    ∷ holding 94 (asks_status 94) (says 0 (status_24 94) ∷ []) (asks_status 94 ++ asks_status 1) (says 0 (status_24 94) ∷ says 1 [] ∷ [])
    -- Drive Status, "register 0258h": at start DIN1 is inactive; "Refusals: 3 on a write", by 06 and 16; a broadcast read is 1, and two registers are no row
    ∷ rtu ask_drive (says 0 drive_0040 ∷ [])
    ∷ rtu (0x01 ∷ 0x06 ∷ 0x02 ∷ 0x58 ∷ 0x00 ∷ 0x40 ∷ 0x08 ∷ 0x51 ∷ []) (says 3 (0x01 ∷ 0x86 ∷ 0x02 ∷ 0xC3 ∷ 0xA1 ∷ []) ∷ [])
    ∷ rtu (0x01 ∷ 0x10 ∷ 0x02 ∷ 0x58 ∷ 0x00 ∷ 0x01 ∷ 0x02 ∷ 0x00 ∷ 0x00 ∷ 0x88 ∷ 0x88 ∷ []) (says 3 (0x01 ∷ 0x90 ∷ 0x02 ∷ 0xCD ∷ 0xC1 ∷ []) ∷ [])
    ∷ rtu (0x00 ∷ 0x03 ∷ 0x02 ∷ 0x58 ∷ 0x00 ∷ 0x01 ∷ 0x05 ∷ 0xB0 ∷ []) (says 1 [] ∷ [])
    ∷ rtu (0x01 ∷ 0x04 ∷ 0x02 ∷ 0x58 ∷ 0x00 ∷ 0x02 ∷ 0xF1 ∷ 0xA0 ∷ []) (says 2 (0x01 ∷ 0x84 ∷ 0x02 ∷ 0xC2 ∷ 0xC1 ∷ []) ∷ [])
    -- with DIN1 active: MODE 3 is ready, SCMD 129 runs; a time-out is a fault flag; a read of SioErr clears it; after a restart MODE is 1
    ∷ record {
      card = (din1_set true (fresh Rtu)).card;
      events =
          came ask_drive ∷ came rtu_mode_3 ∷ came ask_drive ∷ came rtu_scmd_129 ∷ came ask_drive ∷ tick 51 ∷ came ask_drive
          ∷ came (0x01 ∷ 0x03 ∷ 0x07 ∷ 0x18 ∷ 0x00 ∷ 0x01 ∷ 0x05 ∷ 0x79 ∷ []) ∷ came ask_drive ∷ restart ∷ came ask_drive ∷ [];
      right =
          showing (says 0 drive_0000 ∷ says 0 rtu_mode_3 ∷ says 0 drive_0201 ∷ says 0 rtu_scmd_129 ∷ says 0 drive_0203 ∷ says 0 drive_0208 ∷ says 0 told_1 ∷ says 0 drive_0201 ∷ says 0 drive_0000 ∷ []) 0;
    }
    -- a fault that has ended is told until it is acknowledged by a read of 02A4h
    ∷ record {
      card = faulted Rtu;
      events = came ask_drive ∷ came (0x01 ∷ 0x03 ∷ 0x02 ∷ 0xA4 ∷ 0x00 ∷ 0x01 ∷ 0xC4 ∷ 0x51 ∷ []) ∷ came ask_drive ∷ [];
      right = showing (says 0 drive_0048 ∷ says 0 told_1 ∷ says 0 drive_0040 ∷ []) 0;
    }
    -- "Who are you?" Over RTU, by function 43, type 14:
    -- code 01, object 00h: up to 02h
    ∷ rtu (0x01 ∷ 0x2B ∷ 0x0E ∷ 0x01 ∷ 0x00 ∷ 0x70 ∷ 0x77 ∷ [])
    (says 0 (0x01 ∷ 0x2B ∷ 0x0E ∷ 0x01 ∷ 0x82 ∷ 0x00 ∷ 0x00 ∷ 0x03 ∷ 0x00 ∷ 0x11 ∷ 0x56 ∷ 0x61 ∷ 0x6C ∷ 0x6C ∷ 0x65 ∷ 0x79 ∷ 0x20 ∷ 0x57 ∷ 0x61 ∷ 0x74 ∷ 0x65 ∷ 0x72 ∷ 0x20 ∷ 0x43 ∷ 0x61 ∷ 0x72 ∷ 0x64 ∷ 0x01 ∷ 0x00 ∷ 0x02 ∷ 0x11 ∷ 0x31 ∷ 0x2E ∷ 0x30 ∷ 0x2E ∷ 0x33 ∷ 0x20 ∷ 0x6F ∷ 0x66 ∷ 0x20 ∷ 0x4E ∷ 0x6F ∷ 0x76 ∷ 0x65 ∷ 0x6D ∷ 0x62 ∷ 0x65 ∷ 0x72 ∷ 0x00 ∷ 0x69 ∷ []) ∷ [])
    -- code 02, object 05h: up to 06h
    ∷ rtu (0x01 ∷ 0x2B ∷ 0x0E ∷ 0x02 ∷ 0x05 ∷ 0xB0 ∷ 0x84 ∷ [])
    (says 0 (0x01 ∷ 0x2B ∷ 0x0E ∷ 0x02 ∷ 0x82 ∷ 0x00 ∷ 0x00 ∷ 0x02 ∷ 0x05 ∷ 0x08 ∷ 0x56 ∷ 0x57 ∷ 0x2D ∷ 0x39 ∷ 0x35 ∷ 0x2F ∷ 0x30 ∷ 0x37 ∷ 0x06 ∷ 0x00 ∷ 0x08 ∷ 0xAE ∷ []) ∷ [])
    -- code 02, object 07h, which lies outside: from 00h
    ∷ rtu (0x01 ∷ 0x2B ∷ 0x0E ∷ 0x02 ∷ 0x07 ∷ 0x31 ∷ 0x45 ∷ [])
    (says 0 (0x01 ∷ 0x2B ∷ 0x0E ∷ 0x02 ∷ 0x82 ∷ 0x00 ∷ 0x00 ∷ 0x07 ∷ 0x00 ∷ 0x11 ∷ 0x56 ∷ 0x61 ∷ 0x6C ∷ 0x6C ∷ 0x65 ∷ 0x79 ∷ 0x20 ∷ 0x57 ∷ 0x61 ∷ 0x74 ∷ 0x65 ∷ 0x72 ∷ 0x20 ∷ 0x43 ∷ 0x61 ∷ 0x72 ∷ 0x64 ∷ 0x01 ∷ 0x00 ∷ 0x02 ∷ 0x11 ∷ 0x31 ∷ 0x2E ∷ 0x30 ∷ 0x2E ∷ 0x33 ∷ 0x20 ∷ 0x6F ∷ 0x66 ∷ 0x20 ∷ 0x4E ∷ 0x6F ∷ 0x76 ∷ 0x65 ∷ 0x6D ∷ 0x62 ∷ 0x65 ∷ 0x72 ∷ 0x03 ∷ 0x00 ∷ 0x04 ∷ 0x09 ∷ 0x4C ∷ 0x69 ∷ 0x6E ∷ 0x65 ∷ 0x20 ∷ 0x63 ∷ 0x61 ∷ 0x72 ∷ 0x64 ∷ 0x05 ∷ 0x08 ∷ 0x56 ∷ 0x57 ∷ 0x2D ∷ 0x39 ∷ 0x35 ∷ 0x2F ∷ 0x30 ∷ 0x37 ∷ 0x06 ∷ 0x00 ∷ 0x2F ∷ 0x65 ∷ []) ∷ [])
    -- code 04, object 04h; object 07h: 2
    ∷ rtu (0x01 ∷ 0x2B ∷ 0x0E ∷ 0x04 ∷ 0x04 ∷ 0x72 ∷ 0xE4 ∷ [])
    (says 0 (0x01 ∷ 0x2B ∷ 0x0E ∷ 0x04 ∷ 0x82 ∷ 0x00 ∷ 0x00 ∷ 0x01 ∷ 0x04 ∷ 0x09 ∷ 0x4C ∷ 0x69 ∷ 0x6E ∷ 0x65 ∷ 0x20 ∷ 0x63 ∷ 0x61 ∷ 0x72 ∷ 0x64 ∷ 0xF3 ∷ 0x8D ∷ []) ∷ [])
    ∷ rtu (0x01 ∷ 0x2B ∷ 0x0E ∷ 0x04 ∷ 0x07 ∷ 0x32 ∷ 0xE5 ∷ [])
    (says 2 (0x01 ∷ 0xAB ∷ 0x02 ∷ 0xDE ∷ 0xF1 ∷ []) ∷ [])
    -- code 03: 8; type 13: 9; no type byte: 8
    ∷ rtu (0x01 ∷ 0x2B ∷ 0x0E ∷ 0x03 ∷ 0x00 ∷ 0x71 ∷ 0x17 ∷ [])
    (says 8 (0x01 ∷ 0xAB ∷ 0x03 ∷ 0x1F ∷ 0x31 ∷ []) ∷ [])
    ∷ rtu (0x01 ∷ 0x2B ∷ 0x0D ∷ 0x01 ∷ 0x00 ∷ 0x80 ∷ 0x77 ∷ [])
    (says 9 (0x01 ∷ 0xAB ∷ 0x01 ∷ 0x9E ∷ 0xF0 ∷ []) ∷ [])
    ∷ rtu (0x01 ∷ 0x2B ∷ 0x40 ∷ 0x3F ∷ [])
    (says 8 (0x01 ∷ 0xAB ∷ 0x03 ∷ 0x1F ∷ 0x31 ∷ []) ∷ [])
    -- 17: the serial number, with its zero byte; a byte more: 8
    ∷ rtu (0x01 ∷ 0x11 ∷ 0xC0 ∷ 0x2C ∷ [])
    (says 0 (0x01 ∷ 0x11 ∷ 0x10 ∷ 0x30 ∷ 0x30 ∷ 0x34 ∷ 0x32 ∷ 0x00 ∷ 0x41 ∷ 0x42 ∷ 0x43 ∷ 0x44 ∷ 0x45 ∷ 0x46 ∷ 0x47 ∷ 0x48 ∷ 0x49 ∷ 0x4A ∷ 0x4B ∷ 0xDB ∷ 0xFD ∷ []) ∷ [])
    ∷ rtu (0x01 ∷ 0x11 ∷ 0x00 ∷ 0x2C ∷ 0x50 ∷ [])
    (says 8 (0x01 ∷ 0x91 ∷ 0x03 ∷ 0x0D ∷ 0x91 ∷ []) ∷ [])
    -- "Both functions are reads, so a broadcast of them is outcome 1"; type 13 is 9, without reply
    ∷ rtu (0x00 ∷ 0x2B ∷ 0x0E ∷ 0x01 ∷ 0x00 ∷ 0x4D ∷ 0xB7 ∷ []) (says 1 [] ∷ [])
    ∷ rtu (0x00 ∷ 0x2B ∷ 0x0E ∷ 0x02 ∷ 0x05 ∷ 0x8D ∷ 0x44 ∷ []) (says 1 [] ∷ [])
    ∷ rtu (0x00 ∷ 0x2B ∷ 0x0E ∷ 0x02 ∷ 0x07 ∷ 0x0C ∷ 0x85 ∷ []) (says 1 [] ∷ [])
    ∷ rtu (0x00 ∷ 0x2B ∷ 0x0E ∷ 0x04 ∷ 0x04 ∷ 0x4F ∷ 0x24 ∷ []) (says 1 [] ∷ [])
    ∷ rtu (0x00 ∷ 0x2B ∷ 0x0E ∷ 0x04 ∷ 0x07 ∷ 0x0F ∷ 0x25 ∷ []) (says 1 [] ∷ [])
    ∷ rtu (0x00 ∷ 0x2B ∷ 0x0E ∷ 0x03 ∷ 0x00 ∷ 0x4C ∷ 0xD7 ∷ []) (says 1 [] ∷ [])
    ∷ rtu (0x00 ∷ 0x2B ∷ 0x0D ∷ 0x01 ∷ 0x00 ∷ 0xBD ∷ 0xB7 ∷ []) (says 9 [] ∷ [])
    ∷ rtu (0x00 ∷ 0x2B ∷ 0x41 ∷ 0xAF ∷ []) (says 1 [] ∷ [])
    ∷ rtu (0x00 ∷ 0x11 ∷ 0xC1 ∷ 0xBC ∷ []) (says 1 [] ∷ [])
    ∷ rtu (0x00 ∷ 0x11 ∷ 0x00 ∷ 0x7D ∷ 0x90 ∷ []) (says 1 [] ∷ [])
    -- over ASCII: code 01 from object 02h on; code 04, object 05h; an object that there is not; type 13; 17
    ∷ ascii (spelt (0x01 ∷ 0x2B ∷ 0x0E ∷ 0x01 ∷ 0x02 ∷ 0xC3 ∷ []))
    (says 0 (spelt (0x01 ∷ 0x2B ∷ 0x0E ∷ 0x01 ∷ 0x82 ∷ 0x00 ∷ 0x00 ∷ 0x01 ∷ 0x02 ∷ 0x11 ∷ 0x31 ∷ 0x2E ∷ 0x30 ∷ 0x2E ∷ 0x33 ∷ 0x20 ∷ 0x6F ∷ 0x66 ∷ 0x20 ∷ 0x4E ∷ 0x6F ∷ 0x76 ∷ 0x65 ∷ 0x6D ∷ 0x62 ∷ 0x65 ∷ 0x72 ∷ 0xEC ∷ [])) ∷ [])
    ∷ ascii (spelt (0x01 ∷ 0x2B ∷ 0x0E ∷ 0x04 ∷ 0x05 ∷ 0xBD ∷ []))
    (says 0 (spelt (0x01 ∷ 0x2B ∷ 0x0E ∷ 0x04 ∷ 0x82 ∷ 0x00 ∷ 0x00 ∷ 0x01 ∷ 0x05 ∷ 0x08 ∷ 0x56 ∷ 0x57 ∷ 0x2D ∷ 0x39 ∷ 0x35 ∷ 0x2F ∷ 0x30 ∷ 0x37 ∷ 0x54 ∷ [])) ∷ [])
    ∷ ascii (spelt (0x01 ∷ 0x2B ∷ 0x0E ∷ 0x04 ∷ 0x07 ∷ 0xBB ∷ []))
    (says 2 (spelt (0x01 ∷ 0xAB ∷ 0x02 ∷ 0x52 ∷ [])) ∷ [])
    ∷ ascii (spelt (0x01 ∷ 0x2B ∷ 0x0D ∷ 0x01 ∷ 0x00 ∷ 0xC6 ∷ []))
    (says 9 (spelt (0x01 ∷ 0xAB ∷ 0x01 ∷ 0x53 ∷ [])) ∷ [])
    ∷ ascii (spelt (0x01 ∷ 0x11 ∷ 0xEE ∷ []))
    (says 0 (spelt (0x01 ∷ 0x11 ∷ 0x10 ∷ 0x30 ∷ 0x30 ∷ 0x34 ∷ 0x32 ∷ 0x00 ∷ 0x41 ∷ 0x42 ∷ 0x43 ∷ 0x44 ∷ 0x45 ∷ 0x46 ∷ 0x47 ∷ 0x48 ∷ 0x49 ∷ 0x4A ∷ 0x4B ∷ 0x16 ∷ [])) ∷ [])
    ∷ []

-- each comes to what it should
abbrev pub Cases : Type 0
Cases = map (λ (k : Case). shown k.events k.card) cases ≡ map (λ (k : Case). k.right) cases
