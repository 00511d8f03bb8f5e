-- Worked examples of the three checks, in one table and one statement. Assumes nothing.
use Rattle.std.specs.Prelude.{◌≡◌, ℕ, Bool, true, List, [], ◌∷◌, ◌==◌, refl}
use Rattle.base.specs.Choice.{both}
use Rattle.checks.specs.Bcc.{bcc_of}
use Rattle.checks.specs.Lrc.{sum_of, lrc_of}
use Rattle.checks.specs.Crc.{crc_bit, crc_byte, crc_of}

pub data Check : Type 0 where
  BCC : Check
  LRC : Check
  CRC : Check

-- a check of some bytes is a number
pub data Example : Type 0 where
  example : Check → List ℕ → ℕ → Example

unfoldable pub examples : List Example
examples =
    -- cases 1, 2, 3 and 5 of the paper
    example BCC (0x45 ∷ 0x30 ∷ 0x30 ∷ 0x31 ∷ 0x39 ∷ 0x3D ∷ 0x30 ∷ 0x30 ∷ 0x36 ∷ 0x34 ∷ 0x03 ∷ []) 0x71
    ∷ example BCC (0x45 ∷ 0x30 ∷ 0x30 ∷ 0x31 ∷ 0x44 ∷ 0x3D ∷ 0x30 ∷ 0x30 ∷ 0x33 ∷ 0x32 ∷ 0x03 ∷ []) 0x0F
    ∷ example BCC (0x45 ∷ 0x30 ∷ 0x30 ∷ 0x31 ∷ 0x44 ∷ 0x3D ∷ 0x30 ∷ 0x30 ∷ 0x36 ∷ 0x34 ∷ 0x03 ∷ []) 0x0C
    ∷ example BCC (0x45 ∷ 0x30 ∷ 0x30 ∷ 0x31 ∷ 0x44 ∷ 0x3D ∷ 0x30 ∷ 0x30 ∷ 0x39 ∷ 0x33 ∷ 0x03 ∷ []) 0x04
    -- its case 7
    ∷ example LRC (0x01 ∷ 0x03 ∷ 0x02 ∷ 0x94 ∷ 0x00 ∷ 0x01 ∷ []) 0x65
    ∷ example LRC (0x01 ∷ 0x03 ∷ 0x02 ∷ 0x00 ∷ 0x01 ∷ []) 0xF9
    ∷ example LRC (0x01 ∷ 0x03 ∷ 0x07 ∷ 0x0C ∷ 0x00 ∷ 0x01 ∷ []) 0xE8
    ∷ example LRC (0x01 ∷ 0x83 ∷ 0x02 ∷ []) 0x7A
    ∷ example LRC (0x00 ∷ 0x03 ∷ 0x02 ∷ 0xA4 ∷ 0x00 ∷ 0x01 ∷ []) 0x56
    -- MB, Serial Line V1.02, Appendix B: the frame 02 07, and the register after its first byte
    ∷ example CRC (0x02 ∷ 0x07 ∷ []) 0x1241
    ∷ example CRC (0x02 ∷ []) 0x813E
    -- the check value of CRC-16/MODBUS in catalogues of CRCs: the digits 1 to 9
    ∷ example CRC (0x31 ∷ 0x32 ∷ 0x33 ∷ 0x34 ∷ 0x35 ∷ 0x36 ∷ 0x37 ∷ 0x38 ∷ 0x39 ∷ []) 0x4B37
    ∷ []

abbrev pub checked : Check → List ℕ → ℕ
checked BCC s = bcc_of s
checked LRC s = lrc_of s
checked CRC s = crc_of s

abbrev pub all_hold : List Example → Bool
all_hold [] = true
all_hold (example check bytes n ∷ es) = both (checked check bytes == n) (all_hold es)

pub examples_hold : all_hold examples ≡ true
unfolding examples bcc_of sum_of lrc_of crc_bit crc_byte crc_of
examples_hold = refl
