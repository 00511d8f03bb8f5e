-- `ascii_scan::push_digits` meets its contract. The invariant: scanning the bytes left gives what scanning all that have room does, and CR has not come.
-- Assumes nothing.
use Rattle.std.proofs.Common.{◌+◌, take}
use Rattle.ascii_scan.proofs.Running.{Running}
use Rattle.ascii_scan.proofs.digits.push_digits.Given as goal

abbrev pub invariant-loop-i : goal.invariant-loop-i
invariant-loop-i l = Running (take l.end l.bytes) (record { bytes = l.initial.held; len = l.n }) (record { bytes = l.held; len = l.n + l.i }) l.i
