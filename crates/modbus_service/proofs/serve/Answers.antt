-- `modbus_service::serve` meets its contract: what its callees ensure, put together. Assumes nothing.
use Rattle.modbus_service.proofs.Laws.{exchange_is}
use Rattle.modbus_service.proofs.serve.Goals as goal

pub returns : goal.returns
returns c = search exchange_is
