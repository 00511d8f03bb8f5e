-- `ascii::put_pairs` meets its contract. The invariant: the digits of the bytes left would give the whole text, and their sum the whole sum. Assumes nothing.
use Rattle.ascii.proofs.Texts.{put_starts, put_again, pairs_put, pairs_lrc}
use Rattle.ascii.proofs.put_pairs.Goals as goal

pub loop-i-init : goal.loop-i-init
loop-i-init c = search put_starts

pub loop-i-preserved : goal.loop-i-preserved
loop-i-preserved c = search put_again

pub returns : goal.returns
returns c = search (pairs_put, pairs_lrc)
