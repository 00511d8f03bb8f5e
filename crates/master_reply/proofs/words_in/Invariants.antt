-- `master_reply::words_in` meets its contract. The invariant: stores of all words left would give the whole. Assumes nothing.
use Rattle.master_reply.proofs.Units.{Taking}
use Rattle.master_reply.proofs.words_in.Given as goal

abbrev pub invariant-loop-i : goal.invariant-loop-i
invariant-loop-i l = Taking l.unit l.count l.words l.i
