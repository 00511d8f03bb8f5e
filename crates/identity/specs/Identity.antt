-- A card's identity, its objects, and what is told of them: "function 43, type 14, after the Modbus application standard and source document 000: codes 01, 02 and 04,
-- objects 00h to 06h, conformity 82h, and function 17: byte count 16, then the 16-character serial number". Assumes nothing.
use Rattle.std.specs.Prelude.{Bool, List, [], ◌∷◌, ◌++◌, ℕ, eqb, ltb, leb, length, take, drop, Option, Some, None}
use Rattle.base.specs.Choice.{pick, both}
use Rattle.identity.specs.declared.Part.{Part}
use Rattle.identity.specs.declared.Part.TheVariants.{Objects, Serial}

-- 41 bytes: "the revision 17 characters, the model 8", and the serial number 16
abbrev pub Identity : Type 0
Identity = List ℕ

unfoldable pub revision : Identity → List ℕ
revision i = take 17 i

unfoldable pub model : Identity → List ℕ
model i = take 8 (drop 17 i)

unfoldable pub serial : Identity → List ℕ
serial i = take 16 (drop 25 i)

-- ---- the objects
-- "VendorName is the text `Valley Water Card`"
abbrev pub vendor_name : List ℕ
vendor_name = 0x56 ∷ 0x61 ∷ 0x6C ∷ 0x6C ∷ 0x65 ∷ 0x79 ∷ 0x20 ∷ 0x57 ∷ 0x61 ∷ 0x74 ∷ 0x65 ∷ 0x72 ∷ 0x20 ∷ 0x43 ∷ 0x61 ∷ 0x72 ∷ 0x64 ∷ []

-- "ProductName `Line card`"
abbrev pub product_name : List ℕ
product_name = 0x4C ∷ 0x69 ∷ 0x6E ∷ 0x65 ∷ 0x20 ∷ 0x63 ∷ 0x61 ∷ 0x72 ∷ 0x64 ∷ []

pub record Object : Type 0 where
  pub number : ℕ
  pub text : List ℕ

abbrev pub object : ℕ → List ℕ → Object
object n text = record { number = n; text = text }

-- VendorName, ProductCode, MajorMinorRevision, VendorUrl, ProductName, ModelName, UserApplicationName: "the rest empty"
abbrev pub objects : Identity → List Object
objects i =
    object 0x00 vendor_name
    ∷ object 0x01 []
    ∷ object 0x02 (revision i)
    ∷ object 0x03 []
    ∷ object 0x04 product_name
    ∷ object 0x05 (model i)
    ∷ object 0x06 []
    ∷ []

-- ---- which are asked for
-- from the first to the last
abbrev pub within : (first last : ℕ) → Object → Bool
within first last o = both (leb first o.number) (leb o.number last)

unfoldable pub chosen : (first last : ℕ) → List Object → List Object
chosen first last [] = []
chosen first last (o ∷ os) = pick (within first last o) (o ∷ chosen first last os) (chosen first last os)

-- "from the first object named, or from 00h if that lies outside"
unfoldable pub up_to : (code object last : ℕ) → Part
up_to code object last = pick (ltb last object) (Objects code 0x00 last) (Objects code object last)

-- "with 01 up to 02h, with 02 up to 06h"; with 04 the one named: "unknown object with code 04 is 2"
unfoldable pub objects_asked : (code object : ℕ) → Option Part
objects_asked code object =
    pick (eqb code 1) (Some (up_to code object 0x02))
    (pick (eqb code 2) (Some (up_to code object 0x06))
    (pick (ltb 0x06 object) None (Some (Objects code object object))))

-- ---- what is told, as a data unit
-- an object: its number, its length, its bytes
abbrev pub written : Object → List ℕ
written o = o.number ∷ length o.text ∷ o.text

-- one after the other
unfoldable pub listed : List Object → List ℕ
listed [] = []
listed (o ∷ os) = written o ++ listed os

-- function 43, type 14, the identification code, conformity 82h, more follows 00h, next object 00h ("All objects asked for go in one reply"), how many objects, the objects
unfoldable pub objects_unit : ℕ → List Object → List ℕ
objects_unit code os = 0x2B ∷ 0x0E ∷ code ∷ 0x82 ∷ 0x00 ∷ 0x00 ∷ length os ∷ listed os

-- "function 17: byte count 16, then the 16-character serial number"
unfoldable pub part_unit : Identity → Part → List ℕ
part_unit i (Objects code first last) = objects_unit code (chosen first last (objects i))
part_unit i Serial = 0x11 ∷ 0x10 ∷ serial i
