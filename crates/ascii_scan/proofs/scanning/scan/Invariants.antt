-- `ascii_scan::scan` meets its contract. The invariant: what is told so far gives the whole with the bytes that are left. Assumes nothing.
use Rattle.std.proofs.Common.{◌-◌, length}
use Rattle.pending.specs.Scanning.{scan_in}
use Rattle.ascii_scan.proofs.Turns.{Scanning}
use Rattle.ascii_scan.proofs.scanning.scan.Given as goal

abbrev pub invariant-loop-so_far : goal.invariant-loop-so_far
invariant-loop-so_far l = Scanning (record { bytes = l.initial.held; len = l.len }) l.bytes (scan_in l.held l.so_far)

abbrev pub decreases-loop-so_far : goal.decreases-loop-so_far
decreases-loop-so_far l = length l.bytes - l.so_far.used
