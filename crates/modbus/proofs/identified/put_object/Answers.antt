-- `modbus::identified::put_object` meets its contract: a law for an object outside those asked for, and one for one among them. Assumes nothing.
use Rattle.modbus.proofs.Written.{outside_behind, outside_lent, here_behind, here_lent}
use Rattle.modbus.proofs.identified.put_object.Goals as goal

pub returns-then-number-first : goal.returns-then-number-first
returns-then-number-first c = search (outside_behind, outside_lent)

pub returns : goal.returns
returns c = search (here_behind, here_lent)
