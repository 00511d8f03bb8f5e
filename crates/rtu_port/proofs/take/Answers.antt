-- `rtu_port::take` meets its contract: the data unit of the frame is served and replied to. Assumes nothing.
use Rattle.rtu_port.proofs.Laws.{takes_turn}
use Rattle.rtu_port.proofs.take.Goals as goal

pub returns-clause-turn : goal.returns-clause-turn
returns-clause-turn c = search takes_turn
