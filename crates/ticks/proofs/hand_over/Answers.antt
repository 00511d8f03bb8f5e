-- `ticks::hand_over` meets its contract: from the port and the plant that there are now, the tenths that are left give what all give from the first. Assumes nothing.
use Rattle.ticks.proofs.Laws.{handed_on, handed_rest, handed_none}
use Rattle.ticks.proofs.hand_over.Goals as goal

pub loop-preserved : goal.loop-preserved
loop-preserved c = search handed_on

pub returns-then-rest-gt0 : goal.returns-then-rest-gt0
returns-then-rest-gt0 c = search handed_rest

pub returns-else-rest-gt0 : goal.returns-else-rest-gt0
returns-else-rest-gt0 c = search handed_none
