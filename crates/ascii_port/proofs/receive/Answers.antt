-- `ascii_port::receive` meets its contract: nothing taken, or the first message. Assumes nothing.
use Rattle.ascii_port.proofs.Laws.{waits_turn, waits_lent, whole_turn, whole_lent}
use Rattle.ascii_port.proofs.receive.Goals as goal

pub returns-then-not-scan : goal.returns-then-not-scan
returns-then-not-scan c = search (waits_turn, waits_lent)

pub returns : goal.returns
returns c = search (whole_turn, whole_lent)
