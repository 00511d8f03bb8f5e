-- What the master asks: ENQUIRY and SELECT, and to whom it can. Assumes nothing.
use Rattle.std.specs.Prelude.{Bool, not, List, [], ◌∷◌, ◌++◌, ℕ, ◌+◌, eqb, leb}
use Rattle.base.specs.Choice.{both}
use Rattle.nfo_parts.specs.Replies.{digits_of, reply_with}

-- "13 (addresses above 95 .., a broadcast read ..)", and "95 is broadcast"
unfoldable pub enquirable : ℕ → Bool
enquirable address = both (leb address 95) (not (eqb address 95))

unfoldable pub selectable : ℕ → Bool
selectable address = leb address 95

-- "ADR is address + 32". "A parameter is `E` and four hex digits." "BCC is the exclusive-or of all from after 02 up to and with 03."
-- "We write capitals still"; with other characters for the number and the value it is the same request where they spell these.
-- ENQUIRY, 8 bytes (S2):  04 ADR p p p p p 05
-- place:                  0  1   2       6 7
abbrev pub enquiry_with : ℕ → List ℕ → List ℕ
enquiry_with address number = 0x04 ∷ (address + 32) ∷ 0x45 ∷ number ++ (0x05 ∷ [])

unfoldable pub enquiry_of : ℕ → ℕ → List ℕ
enquiry_of address e = enquiry_with address (digits_of e)

-- SELECT, 15 bytes (S2):  04 ADR 02 p p p p p 3D v v v v 03 BCC
-- place:                  0  1   2  3       7 8  9    12 13 14
abbrev pub select_with : ℕ → List ℕ → List ℕ → List ℕ
select_with address number value = 0x04 ∷ reply_with (address + 32) number value

unfoldable pub select_of : ℕ → ℕ → ℕ → List ℕ
select_of address e word = select_with address (digits_of e) (digits_of word)
