-- `bench_lines::columns` meets its contract: putting the columns left gives the whole. Assumes nothing.
use Prim.Native.Nat.{◌+◌}
use lib.ListN.{drop}
use Rattle.bench_lines.specs.State.{columns_of}
use Rattle.bench_lines.proofs.Laws.{Putting}
use Rattle.bench_lines.proofs.state.columns.Given as goal

abbrev pub invariant-loop-k : goal.invariant-loop-k
invariant-loop-k l = Putting l.initial.out l.at (columns_of l.from l.words) l.out l.n (columns_of (l.from + l.k) (drop l.k l.words))
