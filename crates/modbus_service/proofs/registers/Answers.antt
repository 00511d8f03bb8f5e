-- `modbus_service::registers` meets its contract: a row of two registers, or of one. Assumes nothing.
use Rattle.modbus_service.proofs.Laws.{told_long, told_word}
use Rattle.modbus_service.proofs.registers.Goals as goal

pub returns-then-width-eq2 : goal.returns-then-width-eq2
returns-then-width-eq2 c = search told_long

pub returns-else-width-eq2 : goal.returns-else-width-eq2
returns-else-width-eq2 c = search told_word
