-- `bench_lines::byte` meets its contract: one digit, then the other. Assumes nothing.
use Rattle.bench_lines.proofs.Laws.{pair_put}
use Rattle.bench_lines.proofs.byte.Goals as goal

pub returns : goal.returns
returns c = pair_put _ _ _ _ _ _ _ _ _ c.digit_of.ensures c.digit_of-2.ensures c.put-n.ensures c.put.ensures
