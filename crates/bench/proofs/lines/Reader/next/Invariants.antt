-- `bench::lines::Reader::next` is safe: what there is of the line is a part of its text. Assumes nothing.
use Rattle.std.proofs.Common.{◌≤◌}
use Rattle.bench.proofs.lines.Reader.next.Given as goal

abbrev pub invariant-loop : goal.invariant-loop
invariant-loop g l = l.len ≤ 2701
