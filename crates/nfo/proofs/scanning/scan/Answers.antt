-- `nfo::scan` meets its contract: a byte ends a message, or scanning goes on behind it; and at the end all are used. Assumes nothing.
use Rattle.pending.proofs.Scans.{scan_again, scan_takes, scan_done}
use Rattle.nfo.proofs.scanning.scan.Goals as goal

pub returns-then-turn : goal.returns-then-turn
returns-then-turn c = search scan_takes

pub loop-i-preserved : goal.loop-i-preserved
loop-i-preserved c = search scan_again

pub returns : goal.returns
returns c = search scan_done
