-- `ascii_port::answer` meets its contract: the data unit among the message's bytes is served and replied to. Assumes nothing.
use Rattle.ascii_port.proofs.Laws.{answers_turn}
use Rattle.ascii_port.proofs.answer.Goals as goal

pub returns-clause-turn : goal.returns-clause-turn
returns-clause-turn c = search answers_turn
