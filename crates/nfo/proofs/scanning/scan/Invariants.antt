-- `nfo::scan` meets its contract. The invariant: scanning the bytes left gives the whole. Assumes nothing.
use Rattle.pending.proofs.Scans.{Scanning}
use Rattle.nfo.specs.Scan.{feeding}
use Rattle.nfo.proofs.scanning.scan.Given as goal

abbrev pub invariant-loop-i : goal.invariant-loop-i
invariant-loop-i l = Scanning feeding (record { bytes = l.initial.held; len = l.fn.len }) l.bytes (record { bytes = l.held; len = l.n }) l.i
