-- `bench_lines::bytes` meets its contract: `-`, or putting the digits of the bytes left gives the whole. Assumes nothing.
use lib.ListN.{drop}
use Rattle.hex_pairs.specs.Hex.{hex_of}
use Rattle.bench_lines.proofs.Laws.{Putting}
use Rattle.bench_lines.proofs.bytes.Given as goal

abbrev pub invariant-loop-next : goal.invariant-loop-next
invariant-loop-next l = Putting l.initial.out l.at (hex_of l.bytes) l.out l.n (hex_of (drop l.next-index l.bytes))
