-- `modbus::identified::put_part` meets its contract: in each arm the unit is that part's. Assumes nothing.
use Rattle.modbus.proofs.Written.{part_count, part_stores}
use Rattle.modbus.proofs.identified.put_part.Goals as goal

pub returns-in-Objects : goal.returns-in-Objects
returns-in-Objects c = search (part_count, part_stores)

pub returns-in-Serial : goal.returns-in-Serial
returns-in-Serial c = search (part_count, part_stores)
