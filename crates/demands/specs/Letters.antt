-- Small letters: "Take a-f as well, in NFO parameters and values, in Modbus ASCII pairs, and in replies the master side reads. The prefix E stays a capital. We
-- write capitals still, and an NFO reply names the parameter in capitals, with its BCC over those." (Document 02, request 1. The replies that the master side
-- reads are in Demand1.antt.) Assumes nothing.
use Rattle.std.specs.Prelude.{◌≡◌, true, List, ℕ, ◌<◌, take, drop, get_or, None}
use Rattle.hex_pairs.specs.Hex.{capitals}
use Rattle.nfo_parts.specs.Replies.{Spells}
use Rattle.nfo_parts.specs.Parts.{parameter_at, message_of}
use Rattle.ascii.specs.Ascii as Ascii
use Rattle.card.specs.declared.state.Card.{Card}
use Rattle.receive.specs.Receive.{received}
use Rattle.master_nfo.specs.Requests.{enquiry_with, enquiry_of, select_with, select_of}
use Rattle.master_request.specs.declared.Ask.{Ask}
use Rattle.demands.specs.Calls.{nfo_serial, modbus_ascii, Speaks}
use Rattle.demands.specs.Demand2.{ReadAs, text}

-- ---- "Take a-f as well": a request in small letters, or mixed, is taken and asks the same. (What is served and replied is by what `message_of` and `bytes_in` tell.)
pub record TakesSmall : Type 0 where
  -- in NFO serial: any characters that spell the number and the value. The BCC is over the characters that came
  pub enquiry : (address e : ℕ) (number : List ℕ) → address < 96 → e < 65536 → Spells number e
      → ReadAs nfo_serial (enquiry_with address number) × (message_of (enquiry_with address number) ≡ message_of (enquiry_of address e))
  pub select : (address e word : ℕ) (number value : List ℕ) → address < 96 → e < 65536 → word < 65536 → Spells number e → Spells value word
      → ReadAs nfo_serial (select_with address number value) × (message_of (select_with address number value) ≡ message_of (select_of address e word))
  -- "The prefix E stays a capital"
  pub prefix : (i : ℕ) (m : List ℕ) → (get_or m i 0 ≡ 0x45 → ⊥) → parameter_at i m ≡ None
  -- in Modbus ASCII: any text that is a message in capitals
  pub ascii : (m : List ℕ) → Ascii.formed (capitals m) ≡ true → ReadAs modbus_ascii m × (Ascii.bytes_in m ≡ Ascii.bytes_in (capitals m))

-- ---- "We write capitals still"
abbrev pub InCapitals : List ℕ → Type 0
InCapitals characters = capitals characters ≡ characters

pub record WritesCapitals : Type 0 where
  -- "an NFO reply names the parameter in capitals, with its BCC over those": all from after 02 up to and with 03
  pub reply : (c : Card) → Speaks nfo_serial c → (bytes : List ℕ) (room : ℕ) → InCapitals (take 11 (drop 2 (received c bytes room).reply))
  pub ascii_reply : (c : Card) → Speaks modbus_ascii c → (bytes : List ℕ) (room : ℕ) → InCapitals (received c bytes room).reply
  -- and so the master: the parameter of an ENQUIRY; the parameter and the value of a SELECT; a message of Modbus ASCII
  pub enquiry : (address e : ℕ) → InCapitals (take 5 (drop 2 (enquiry_of address e)))
  pub select : (address e word : ℕ) → InCapitals (take 11 (drop 3 (select_of address e word)))
  pub ascii : (address : ℕ) (ask : Ask) (registers : List ℕ) → InCapitals (text address ask registers)

pub record Letters : Type 0 where
  pub taken : TakesSmall
  pub written : WritesCapitals
