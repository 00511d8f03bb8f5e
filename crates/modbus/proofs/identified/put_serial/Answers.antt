-- `modbus::identified::put_serial` meets its contract: two bytes, and behind them the serial number. Assumes nothing.
use Rattle.modbus.proofs.Written.{serial_behind, serial_lent}
use Rattle.modbus.proofs.identified.put_serial.Goals as goal

pub returns : goal.returns
returns c = search (serial_behind, serial_lent)
