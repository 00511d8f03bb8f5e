-- `modbus_service::part_task` meets its contract: a law for each `return`. Assumes nothing.
use Rattle.modbus_service.proofs.Laws.{part_all, part_none, part_some}
use Rattle.modbus_service.proofs.part_task.Goals as goal

pub returns-then-address-eq0 : goal.returns-then-address-eq0
returns-then-address-eq0 c = search part_all

pub returns-in_default : goal.returns-in_default
returns-in_default c = search part_none

pub returns : goal.returns
returns c = search part_some
