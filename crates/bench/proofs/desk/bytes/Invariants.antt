-- `bench::desk::bytes` ends: each turn that goes on has used a byte of what is left. Assumes nothing.
use Rattle.std.proofs.Common.{length}
use Rattle.bench.proofs.desk.bytes.Given as goal

abbrev pub decreases-loop-used : goal.decreases-loop-used
decreases-loop-used g l = length l.rest
