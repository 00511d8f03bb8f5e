-- The CRC of Modbus RTU: "start FFFFh; for each byte exclusive-or it in, then eight times shift right by one and, if a 1 fell out,
-- exclusive-or A001h". Assumes nothing.
use Rattle.std.specs.Prelude.{ℕ, zero, suc, ◌+◌, ◌-◌, ◌*◌, ◌/◌, ◌%◌, Bool, List, [], ◌∷◌, length, take, ◌==◌, bit_and, bit_xor, nat_le, slice_index}
use mathlib.Core.List.{foldl}
use Rattle.base.specs.Choice.{pick, both}

-- "shift right by one and, if a 1 fell out, exclusive-or A001h"
unfoldable pub crc_bit : ℕ → ℕ
crc_bit x = pick (bit_and x 1 == 1) (bit_xor (x / 2) 0xA001) (x / 2)

abbrev pub crc_bits : ℕ → ℕ → ℕ
crc_bits zero x = x
crc_bits (suc n) x = crc_bits n (crc_bit x)

-- "for each byte exclusive-or it in, then eight times"
unfoldable pub crc_byte : ℕ → ℕ → ℕ
crc_byte x b = crc_bits 8 (bit_xor x b)

-- "start FFFFh"
unfoldable pub crc_of : List ℕ → ℕ
crc_of s = foldl crc_byte 0xFFFF s

-- "CRC low byte first"
unfoldable pub crc_bytes : List ℕ → List ℕ
crc_bytes s = crc_of s % 256 ∷ crc_of s / 256 ∷ []

-- a frame's body, and the CRC that its last two bytes tell, low byte first
unfoldable pub body_of : List ℕ → List ℕ
body_of frame = take (length frame - 2) frame

unfoldable pub crc_told : List ℕ → ℕ
crc_told frame = slice_index frame (length frame - 2) + 256 * slice_index frame (length frame - 1)

-- the last two bytes are the CRC of those before; fewer than two bytes never are
unfoldable pub crc_holds : List ℕ → Bool
crc_holds frame = both (nat_le 2 (length frame)) (crc_of (body_of frame) == crc_told frame)
