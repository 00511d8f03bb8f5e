-- `modbus_service::do_task` meets its contract: a law for each task. Assumes nothing.
use Rattle.modbus_service.proofs.Laws.{done_told, done_written, done_said}
use Rattle.modbus_service.proofs.do_task.Goals as goal

pub returns-in-Tell : goal.returns-in-Tell
returns-in-Tell c = search done_told

pub returns-in-Write : goal.returns-in-Write
returns-in-Write c = search done_written

pub returns-in-Say : goal.returns-in-Say
returns-in-Say c = search done_said
