-- The RTU frame: "address, data unit, CRC low byte first; 4 to 256 bytes". Assumes nothing.
use Rattle.std.specs.Prelude.{Bool, List, ◌∷◌, ◌++◌, ℕ, ◌+◌, ◌-◌, ◌*◌, length, take, drop, get_or}
use Rattle.base.specs.Choice.{pick, both}
use Rattle.checks.specs.Crc.{body_of, crc_bytes, crc_holds}
use Rattle.modbus.specs.Request.{between, span, request_of}
use Rattle.modbus.specs.declared.requests.Span.{Span}
use Rattle.modbus.specs.declared.requests.Request.{Request}
use Rattle.modbus.specs.declared.requests.Request.TheVariants.{Read, One, Many, Identify, Serial, Malformed, Unknown}

-- the length and the CRC are right; else it is outcome 11
unfoldable pub frame_holds : List ℕ → Bool
frame_holds frame = both (between 4 256 (length frame)) (crc_holds frame)

-- the address of a frame, and its data unit: what is behind the address, without the CRC
unfoldable pub address_in : List ℕ → ℕ
address_in frame = get_or frame 0 0

unfoldable pub unit_in : List ℕ → List ℕ
unit_in frame = drop 1 (body_of frame)

-- a frame
unfoldable pub rtu_of : ℕ → List ℕ → List ℕ
rtu_of address unit = (address ∷ unit) ++ crc_bytes (address ∷ unit)

-- a part of the bytes
abbrev pub part_of : Span → List ℕ → List ℕ
part_of s bytes = take (s.to - s.from) (drop s.from bytes)

-- where in a frame a request's register data lies: behind the register of a 06, behind the byte count of a 16
abbrev pub data_of : Request → Span
data_of (Read function first count) = span 0 0
data_of (One register word) = span 4 6
data_of (Many first count place) = span 7 (7 + 2 * count)
data_of (Identify code object) = span 0 0
data_of Serial = span 0 0
data_of (Malformed function) = span 0 0
data_of (Unknown function) = span 0 0

unfoldable pub register_span : List ℕ → Span
register_span frame = pick (frame_holds frame) (data_of (request_of (unit_in frame))) (span 0 0)

-- "The register data of a well-made 06 or 16 (CRC, length and count right, any address) is handed back as a part of the caller's frame; for
-- other bytes, an empty part."
unfoldable pub register_data : List ℕ → List ℕ
register_data frame = part_of (register_span frame) frame
