-- What the drive tells of itself: whether it runs, Inv St, and Drive Status. Assumes nothing.
use Rattle.std.specs.Prelude.{◌≡◌, ◌≢◌, Bool, false, not, ℕ, ◌^◌, ◌<◌, eqb}
use Rattle.std.specs.Int.Bits.{bit_or}
use Rattle.base.specs.Choice.{pick, both, either}
use Rattle.drive.specs.Plant.{Plant, Sized, mode, scmd, din1, flags, drive_status, with_drive_status}
use Rattle.drive.specs.Flags.{flagged, only, lowest_of}

-- DIN1 is active
unfoldable pub active : Plant → Bool
active p = not (eqb (din1 p) 0)

-- a fault flag stands, 14 included
unfoldable pub flag_stands : Plant → Bool
flag_stands p = not (eqb (flags p) 0)

-- "Running: MODE 2, DIN1 active, no fault flag; or MODE 3, SCMD not 0. Otherwise not."
unfoldable pub runs : Plant → Bool
runs p =
    either (both (eqb (mode p) 2) (both (active p) (not (flag_stands p))))
    (both (eqb (mode p) 3) (not (eqb (scmd p) 0)))

-- "Inv St is the lowest flagged number, else 24 at MODE 1, 33/34 at MODE 2 and 37/38 at MODE 3, standing/running"; at any other number, 24
unfoldable pub status_of : Plant → ℕ
status_of p =
    pick (flag_stands p) (lowest_of (flags p))
    (pick (eqb (mode p) 2) (pick (runs p) 34 33) (pick (eqb (mode p) 3) (pick (runs p) 38 37) 24))

-- ---- Drive Status
-- bit n of a word, where the test holds
abbrev pub bit : ℕ → Bool → ℕ
bit n test = pick test (only n) 0

-- "0 ready (MODE 3, DIN1 active, no flag)"
unfoldable pub ready : Plant → Bool
ready p = both (eqb (mode p) 3) (both (active p) (not (flag_stands p)))

-- "bits from source document 001: 0 ready .., 1 running, 3 a fault flag stands, 6 DIN1 inactive, 9 MODE 3; the others 0"
unfoldable pub status_word : Plant → ℕ
status_word p =
    bit_or (bit_or (bit_or (bit_or
    (bit 0 (ready p))
    (bit 1 (runs p)))
    (bit 3 (flag_stands p)))
    (bit 6 (not (active p))))
    (bit 9 (eqb (mode p) 3))

-- "The word is stored": the plant with the word that the rules say, and all else as it was. Every change of the drive ends in this
unfoldable pub righted : Plant → Plant
righted p = with_drive_status (status_word p) p

-- what stands there is what the rules say. (The array's length is what its type tells.)
pub record Right (p : Plant) : Type 0 where
  pub sized : Sized p
  pub word : drive_status p ≡ status_word p

-- the word bit by bit, in 16 bits
pub record StatusBits (p : Plant) : Type 0 where
  pub bit_0 : flagged 0 (status_word p) ≡ ready p
  pub bit_1 : flagged 1 (status_word p) ≡ runs p
  pub bit_3 : flagged 3 (status_word p) ≡ flag_stands p
  pub bit_6 : flagged 6 (status_word p) ≡ not (active p)
  pub bit_9 : flagged 9 (status_word p) ≡ eqb (mode p) 3
  pub others : (k : ℕ) → k < 32 → k ≢ 0 → k ≢ 1 → k ≢ 3 → k ≢ 6 → k ≢ 9 → flagged k (status_word p) ≡ false
  pub width : status_word p < 2 ^ 16
