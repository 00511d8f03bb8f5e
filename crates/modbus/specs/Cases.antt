-- Worked data units of functions 43 and 17: what requests ask, and replies by hand from the standard's layout. Assumes nothing.
use Rattle.std.specs.Prelude.{◌≡◌, refl, List, [], ◌∷◌, map, ℕ, Option, Some, None}
use Rattle.identity.specs.Identity as Identities
use Rattle.identity.specs.declared.Part.TheVariants as Parts
use Rattle.modbus.specs.Request.{identifying, numbering, asked, asked_of, request_of}
use Rattle.modbus.specs.Answer.{short_of, unit_of}
use Rattle.modbus.specs.declared.requests.Request.{Request}
use Rattle.modbus.specs.declared.requests.Request.TheVariants.{Identify, Serial, Malformed, Unknown}
use Rattle.modbus.specs.declared.replies.Answer.TheVariants.{Identity}
use Rattle.identity.specs.declared.Part.{Part}

-- a unit, and what it asks
abbrev pub requests : List (List ℕ × Request)
requests =
    -- "codes 01, 02 and 04"; whether there is the object is not asked here
    (0x2B ∷ 0x0E ∷ 0x01 ∷ 0x00 ∷ [], Identify 1 0x00)
    ∷ (0x2B ∷ 0x0E ∷ 0x02 ∷ 0x05 ∷ [], Identify 2 0x05)
    ∷ (0x2B ∷ 0x0E ∷ 0x04 ∷ 0x07 ∷ [], Identify 4 0x07)
    ∷ (0x2B ∷ 0x0E ∷ 0x03 ∷ 0x00 ∷ [], Malformed 43)
    -- "a type other than 14 is 9", of any length
    ∷ (0x2B ∷ 0x0D ∷ 0x01 ∷ 0x00 ∷ [], Unknown 43)
    ∷ (0x2B ∷ 0x0D ∷ [], Unknown 43)
    -- "wrong length (no type byte too) .. is 8"
    ∷ (0x2B ∷ [], Malformed 43)
    ∷ (0x2B ∷ 0x0E ∷ 0x01 ∷ [], Malformed 43)
    ∷ (0x2B ∷ 0x0E ∷ 0x01 ∷ 0x00 ∷ 0x00 ∷ [], Malformed 43)
    -- 17
    ∷ (0x11 ∷ [], Serial)
    ∷ (0x11 ∷ 0x00 ∷ [], Malformed 17)
    ∷ []

pub requests_hold : map (λ (c : List ℕ × Request). request_of c.0) requests ≡ map (λ (c : List ℕ × Request). c.1) requests
unfolding asked asked_of request_of identifying numbering
requests_hold = refl

-- the revision `V01.23 2031-04-05`, the model `LC-2000A`, and the serial number `SN-00417`, a zero byte, `ABCDEFG`
abbrev ours : Identities.Identity
ours =
    0x56 ∷ 0x30 ∷ 0x31 ∷ 0x2E ∷ 0x32 ∷ 0x33 ∷ 0x20 ∷ 0x32 ∷ 0x30 ∷ 0x33 ∷ 0x31 ∷ 0x2D ∷ 0x30 ∷ 0x34 ∷ 0x2D ∷ 0x30 ∷ 0x35
    ∷ 0x4C ∷ 0x43 ∷ 0x2D ∷ 0x32 ∷ 0x30 ∷ 0x30 ∷ 0x30 ∷ 0x41
    ∷ 0x53 ∷ 0x4E ∷ 0x2D ∷ 0x30 ∷ 0x30 ∷ 0x34 ∷ 0x31 ∷ 0x37 ∷ 0x00 ∷ 0x41 ∷ 0x42 ∷ 0x43 ∷ 0x44 ∷ 0x45 ∷ 0x46 ∷ 0x47
    ∷ []

-- what a code and an object bring of it
abbrev told : Option Part → List ℕ
told (Some part) = unit_of ours (Identity part)
told None = []

-- 2B 0E, the code, 82 00 00, how many; for each object its number, its length, its bytes
abbrev pub replies : List (List ℕ × List ℕ)
replies =
    -- by 01 from 00h to 02h: `Valley Water Card`, nothing, the revision
    (
      told (Identities.objects_asked 1 0x00),
      0x2B ∷ 0x0E ∷ 0x01 ∷ 0x82 ∷ 0x00 ∷ 0x00 ∷ 0x03
          ∷ 0x00 ∷ 0x11 ∷ 0x56 ∷ 0x61 ∷ 0x6C ∷ 0x6C ∷ 0x65 ∷ 0x79 ∷ 0x20 ∷ 0x57 ∷ 0x61 ∷ 0x74 ∷ 0x65 ∷ 0x72 ∷ 0x20 ∷ 0x43 ∷ 0x61 ∷ 0x72 ∷ 0x64
          ∷ 0x01 ∷ 0x00
          ∷ 0x02 ∷ 0x11 ∷ 0x56 ∷ 0x30 ∷ 0x31 ∷ 0x2E ∷ 0x32 ∷ 0x33 ∷ 0x20 ∷ 0x32 ∷ 0x30 ∷ 0x33 ∷ 0x31 ∷ 0x2D ∷ 0x30 ∷ 0x34 ∷ 0x2D ∷ 0x30 ∷ 0x35
          ∷ [],
    )
    -- by 02 from 05h to 06h: the model, nothing
    ∷ (
      told (Identities.objects_asked 2 0x05),
      0x2B ∷ 0x0E ∷ 0x02 ∷ 0x82 ∷ 0x00 ∷ 0x00 ∷ 0x02
          ∷ 0x05 ∷ 0x08 ∷ 0x4C ∷ 0x43 ∷ 0x2D ∷ 0x32 ∷ 0x30 ∷ 0x30 ∷ 0x30 ∷ 0x41
          ∷ 0x06 ∷ 0x00
          ∷ [],
    )
    -- by 04 the object 04h alone: `Line card`
    ∷ (
      told (Identities.objects_asked 4 0x04),
      0x2B ∷ 0x0E ∷ 0x04 ∷ 0x82 ∷ 0x00 ∷ 0x00 ∷ 0x01
          ∷ 0x04 ∷ 0x09 ∷ 0x4C ∷ 0x69 ∷ 0x6E ∷ 0x65 ∷ 0x20 ∷ 0x63 ∷ 0x61 ∷ 0x72 ∷ 0x64
          ∷ [],
    )
    -- by 17: "byte count 16, then the 16-character serial number"
    ∷ (
      unit_of ours (Identity Parts.Serial),
      0x11 ∷ 0x10 ∷ 0x53 ∷ 0x4E ∷ 0x2D ∷ 0x30 ∷ 0x30 ∷ 0x34 ∷ 0x31 ∷ 0x37 ∷ 0x00 ∷ 0x41 ∷ 0x42 ∷ 0x43 ∷ 0x44 ∷ 0x45 ∷ 0x46 ∷ 0x47 ∷ [],
    )
    ∷ []

pub replies_hold : map (λ (c : List ℕ × List ℕ). c.0) replies ≡ map (λ (c : List ℕ × List ℕ). c.1) replies
unfolding unit_of short_of Identities.part_unit Identities.objects_unit Identities.listed Identities.chosen Identities.up_to Identities.objects_asked Identities.revision Identities.model Identities.serial
replies_hold = refl
