-- What a line of the program's input says. Assumes nothing.
use Rattle.std.specs.Prelude.{Bool, List, [], ℕ, ◌*◌, eqb, ltb, length, get_or, Option, Some, None}
use Rattle.base.specs.Choice.{pick, both}
use Rattle.hex_pairs.specs.Hex.{bytes_of}
use Rattle.checks.specs.Crc.{crc_of}

-- a `-` alone
unfoldable pub is_dash : List ℕ → Bool
is_dash line = both (eqb (length line) 1) (eqb (get_or line 0 0) 0x2D)

-- `-` is the frame without bytes; else a line is a frame where it is pairs of hex digits to its end, one to 512 of them
unfoldable pub answer_of : List ℕ → Option ℕ
answer_of line =
    pick (is_dash line) (Some (crc_of []))
    (pick (eqb (length (bytes_of line)) 0) None
    (pick (ltb 512 (length (bytes_of line))) None
    (pick (eqb (2 * length (bytes_of line)) (length line)) (Some (crc_of (bytes_of line))) None)))
