-- `bench_lines::spaced` meets its contract: a space, then the number. Assumes nothing.
use Rattle.bench_lines.proofs.Laws.{then}
use Rattle.bench_lines.proofs.numbers.spaced.Goals as goal

pub returns : goal.returns
returns c = then _ _ _ _ _ _ _ _ c.put-n.ensures c.unsigned.ensures
