-- `modbus_service::task_of` meets its contract: a 06 of a row that there is; the check finds the others. Assumes nothing.
use Rattle.modbus_service.proofs.Laws.{task_one}
use Rattle.modbus_service.proofs.task_of.Goals as goal

pub returns-in-Some-span : goal.returns-in-Some-span
returns-in-Some-span c = search task_one
