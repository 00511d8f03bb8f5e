-- HEX: "pairs of capital hex digits without spaces; no bytes at all are written `-`" (docs/BENCH.md). Assumes nothing.
use Rattle.std.specs.Prelude.{Bool, List, [], ◌∷◌, ℕ, ◌*◌, eqb, ltb, length, Option, Some, None}
use Rattle.base.specs.Choice.{pick}
use Rattle.base.specs.Bytes.{same}
use Rattle.hex_pairs.specs.Hex.{capitals, bytes_of}

-- "capital": the line takes small letters too, a command does not
unfoldable pub in_capitals : List ℕ → Bool
in_capitals word = same (capitals word) word

-- the bytes that the pairs of a word spell, none for `-` and for a word with a small letter
unfoldable pub bytes_spelt : List ℕ → List ℕ
bytes_spelt word = pick (same word (0x2D ∷ [])) [] (pick (in_capitals word) (bytes_of word) [])

-- how many bytes a word spells: `-`, or pairs of capital hex digits to its end, one at least and no more than there is room for
unfoldable pub spelling_of : List ℕ → ℕ → Option ℕ
spelling_of word room =
    pick (same word (0x2D ∷ [])) (Some 0)
    (pick (in_capitals word)
    (pick (eqb (length (bytes_of word)) 0) None
    (pick (ltb room (length (bytes_of word))) None
    (pick (eqb (2 * length (bytes_of word)) (length word)) (Some (length (bytes_of word))) None)))
    None)
