-- NFO serial (S2): what a well-formed message is, and what could still become one. Assumes nothing.
use Rattle.std.specs.Prelude.{Bool, List, [], ◌∷◌, ℕ, eqb, get_or, take, drop}
use Rattle.base.specs.Choice.{both, either}
use Rattle.stream.specs.Format.{Format}
use Rattle.checks.specs.Bcc.{bcc_of}
use Rattle.nfo.specs.Shape.{Kind, byte, text, any, whole, part}

-- "ADR is address + 32, so 20h to 7Fh for 0 to 95. p and v are any of 20h to 7Fh." BCC is a byte that the shape leaves free.
abbrev pub ADR : Kind
ADR = text

abbrev pub p : Kind
p = text

abbrev pub v : Kind
v = text

abbrev pub BCC : Kind
BCC = any

-- ENQUIRY, 8 bytes (S2):  04 ADR p p p p p 05
-- place:                  0  1   2       6 7
unfoldable pub enquiry : List Kind
enquiry = byte 0x04 ∷ ADR ∷ p ∷ p ∷ p ∷ p ∷ p ∷ byte 0x05 ∷ []

-- SELECT, 15 bytes (S2):  04 ADR 02 p p p p p 3D v v v v 03 BCC
-- place:                  0  1   2  3       7 8  9    12 13 14
unfoldable pub select : List Kind
select = byte 0x04 ∷ ADR ∷ byte 0x02 ∷ p ∷ p ∷ p ∷ p ∷ p ∷ byte 0x3D ∷ v ∷ v ∷ v ∷ v ∷ byte 0x03 ∷ BCC ∷ []

-- "BCC is the exclusive-or of all from after 02 up to and with 03": places 3 to 13
unfoldable pub bcc_in : List ℕ → ℕ
bcc_in m = bcc_of (take 11 (drop 3 m))

-- "A well-formed message has this shape and the right BCC"
unfoldable pub formed : List ℕ → Bool
formed m = either (whole enquiry m) (both (whole select m) (eqb (get_or m 14 0) (bcc_in m)))

-- the bytes "could still become one": they are fewer than a message, and have a shape so far
unfoldable pub viable : List ℕ → Bool
viable s = either (part enquiry s) (part select s)

-- the messages that the card takes
abbrev pub nfo : Format
nfo = record { start = 0x04; formed = formed; viable = viable }
