-- `hex_pairs::decode` meets its contract. The invariant: the bytes that the rest of the text spells, stored after those passed, would give
-- the whole. Assumes nothing.
use Rattle.std.proofs.Common.{rules}
use Rattle.hex_pairs.proofs.Laws.{decode_again, decode_count, decode_stores, spoilt, no_pair}
use Rattle.hex_pairs.proofs.decode.Goals as goal

pub returns-in_default : goal.returns-in_default
returns-in_default c = search (decode_count, decode_stores, spoilt, rules)

pub loop-i-preserved : goal.loop-i-preserved
loop-i-preserved c = search decode_again

pub returns : goal.returns
returns c = search (decode_count, decode_stores, no_pair, rules)
