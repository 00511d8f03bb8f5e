-- `speed::read_lines` is safe: the bytes that there are stand in `work`. Assumes nothing.
use Rattle.std.proofs.Common.{◌≤◌}
use Rattle.speed.proofs.workload.read_lines.Given as goal

abbrev pub invariant-loop-k : goal.invariant-loop-k
invariant-loop-k l =
    (goal.iterator-loop-k).can_next l.k-iterator × (goal.iterator-loop-k).is_finite l.k-iterator × (l.total ≤ 65536)
