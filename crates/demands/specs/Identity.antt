-- Who are you: what a master is told that asks by function 43, type 14, or by function 17, whatever the identity is. "All objects asked for go in one reply: with 01 up to
-- 02h, with 02 up to 06h, from the first object named, or from 00h if that lies outside." (Document 02, request 3. What is refused is in Orders.antt, that nothing changes
-- in Effects.antt, and that the identity is kept in Kept.antt.) Assumes nothing.
use Rattle.std.specs.Prelude.{◌≡◌, List, [], ◌∷◌, ◌++◌, ℕ, suc, ◌≤◌, ◌<◌, length, take, drop, get_or}
use Rattle.identity.specs.Identity.{Identity}
use Rattle.drive.specs.Plant.{station}
use Rattle.card.specs.State.{protocol_of}
use Rattle.card.specs.Outcome.{outcome_number}
use Rattle.card.specs.declared.state.Card.{Card}
use Rattle.rtu.specs.Rtu.{rtu_of}
use Rattle.ascii.specs.Ascii.{ascii_of}
use Rattle.receive.specs.Receive.{received}
use Rattle.demands.specs.Calls.{LongEnough, besides}
use Rattle.demands.specs.Kept.{Sound}

-- ---- the objects
-- the bytes of object n: "VendorName is the text `Valley Water Card`, ProductName `Line card`, the revision 17 characters, the model 8, the rest empty"
abbrev pub text : Identity → ℕ → List ℕ
text i n =
    get_or
    ((0x56 ∷ 0x61 ∷ 0x6C ∷ 0x6C ∷ 0x65 ∷ 0x79 ∷ 0x20 ∷ 0x57 ∷ 0x61 ∷ 0x74 ∷ 0x65 ∷ 0x72 ∷ 0x20 ∷ 0x43 ∷ 0x61 ∷ 0x72 ∷ 0x64 ∷ [])
    ∷ []
    ∷ take 17 i
    ∷ []
    ∷ (0x4C ∷ 0x69 ∷ 0x6E ∷ 0x65 ∷ 0x20 ∷ 0x63 ∷ 0x61 ∷ 0x72 ∷ 0x64 ∷ [])
    ∷ take 8 (drop 17 i)
    ∷ []
    ∷ [])
    n []

-- `Objects i last first n bytes`: the bytes are those of the objects from first to last, n of them, in order: of each its number, its length, its bytes
pub data Objects (i : Identity) (last : ℕ) : (first n : ℕ) → List ℕ → Type 0 where
  none : {first : ℕ} → last < first → Objects i last first 0 []
  next : {first n : ℕ} {bytes : List ℕ} → first ≤ last → Objects i last (suc first) n bytes
      → Objects i last first (suc n) (first ∷ length (text i first) ∷ (text i first ++ bytes))

-- `Range code object first last`: who asks with this code and names this object is told the objects from first to last
pub data Range : (code object first last : ℕ) → Type 0 where
  basic : {object : ℕ} → object ≤ 0x02 → Range 0x01 object object 0x02
  basic_outside : {object : ℕ} → 0x02 < object → Range 0x01 object 0x00 0x02
  regular : {object : ℕ} → object ≤ 0x06 → Range 0x02 object object 0x06
  regular_outside : {object : ℕ} → 0x06 < object → Range 0x02 object 0x00 0x06
  one : {object : ℕ} → object ≤ 0x06 → Range 0x04 object object object

-- ---- what is asked, and what is told: the data units
-- 43, type 14, the code, the object
abbrev pub asks_objects : (code object : ℕ) → List ℕ
asks_objects code object = 0x2B ∷ 0x0E ∷ code ∷ object ∷ []

-- 43, type 14, the code, "conformity 82h", more follows 00h, next object 00h, how many objects, their bytes
pub record TellsObjects (i : Identity) (code first last : ℕ) (unit : List ℕ) : Type 0 where
  pub count : ℕ
  pub bytes : List ℕ
  pub objects : Objects i last first count bytes
  pub whole : unit ≡ 0x2B ∷ 0x0E ∷ code ∷ 0x82 ∷ 0x00 ∷ 0x00 ∷ count ∷ bytes

abbrev pub asks_serial : List ℕ
asks_serial = 0x11 ∷ []

-- "function 17: byte count 16, then the 16-character serial number": all 16 bytes, whatever they are
pub record TellsSerial (i : Identity) (unit : List ℕ) : Type 0 where
  pub bytes : List ℕ
  pub sixteen : length bytes ≡ 16
  pub last_of_all : drop 25 i ≡ bytes
  pub whole : unit ≡ 0x11 ∷ 0x10 ∷ bytes

-- ---- over a line of Modbus: the message m of an address and a unit comes to our own address, once nothing is pending; it is done, and the reply is the message of such a unit
pub record Answers (made : ℕ → List ℕ → List ℕ) (c : Card) (asks : List ℕ) (Told : List ℕ → Type 0) (room : ℕ) : Type 0 where
  pub unit : List ℕ
  pub told : Told unit
  pub done : outcome_number (received (besides c) (made (station c.plant) asks) room).outcome ≡ 0
  pub reply : (received (besides c) (made (station c.plant) asks) room).reply ≡ made (station c.plant) unit

pub record Asked (protocol : ℕ) (made : ℕ → List ℕ → List ℕ) : Type 0 where
  pub objects : (c : Card) → Sound c → protocol_of c ≡ protocol → (code object first last : ℕ) → Range code object first last → object < 256 → (room : ℕ) → LongEnough c room
      → Answers made c (asks_objects code object) (TellsObjects c.identity code first last) room
  pub serial : (c : Card) → Sound c → protocol_of c ≡ protocol → (room : ℕ) → LongEnough c room → Answers made c asks_serial (TellsSerial c.identity) room

pub record WhoAreYou : Type 0 where
  pub rtu : Asked 1 rtu_of
  pub ascii : Asked 2 ascii_of
