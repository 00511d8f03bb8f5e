-- `master_reply::words_in` meets its contract. The invariant: stores of all words left would give the whole. Assumes nothing.
use Rattle.master_reply.proofs.Units.{take_starts, take_again, take_done}
use Rattle.master_reply.proofs.words_in.Goals as goal

pub loop-i-init : goal.loop-i-init
loop-i-init c = take_starts _ _

pub loop-i-preserved : goal.loop-i-preserved
loop-i-preserved c = search take_again

pub returns : goal.returns
returns c = search take_done
