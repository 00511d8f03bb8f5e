-- `nfo_port::receive` meets its contract: where a message is taken, the reply is the one of the call. Assumes nothing.
use native.Mathlib.Omega.{arith}
use Rattle.nfo_port.specs.Receive.{nfo_received}
use Rattle.nfo_port.proofs.receive.Goals as goal

pub returns-clause-lent : goal.returns-clause-lent
unfolding nfo_received
returns-clause-lent c i = let lent = c.take.ensures.lent i in grind arith
