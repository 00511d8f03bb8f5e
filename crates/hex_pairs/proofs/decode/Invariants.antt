-- `hex_pairs::decode` meets its contract. The invariant: the bytes that the rest of the text spells, stored after those passed, would give
-- the whole. Assumes nothing.
use Rattle.hex_pairs.proofs.Laws.{Decoding}
use Rattle.hex_pairs.proofs.decode.Given as goal

abbrev pub invariant-loop-i : goal.invariant-loop-i
invariant-loop-i l = Decoding l.text l.initial.bytes l.bytes l.i
