-- `hex_pairs::encode` meets its contract. The invariant: stores of all digits of the bytes left would give the whole. The loop takes the bytes
-- that fit whole; after it, either none is left or the text has room for a high digit at most. Assumes nothing.
use Rattle.std.proofs.Common.{◌≡◌, ◌*◌, drop}
use Rattle.std.proofs.lemmas.List.Edits.{sets}
use Rattle.hex_pairs.specs.Hex.{hex_of}
use Rattle.hex_pairs.proofs.encode.Given as goal

abbrev pub invariant-loop-i : goal.invariant-loop-i
invariant-loop-i l = sets l.text (2 * l.i) (hex_of (drop l.i l.bytes)) ≡ sets l.initial.text 0 (hex_of l.bytes)
