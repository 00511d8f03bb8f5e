-- `modbus::copies::copy_at` meets its contract. The invariant: stores of all bytes left would give the whole. Assumes nothing.
use Rattle.modbus.proofs.Copying.{copy_starts, copy_again, copy_stores}
use Rattle.modbus.proofs.copies.copy_at.Goals as goal

pub loop-i-init : goal.loop-i-init
loop-i-init c = copy_starts _ _ _

pub loop-i-preserved : goal.loop-i-preserved
loop-i-preserved c = search copy_again

pub returns-clause-lent : goal.returns-clause-lent
returns-clause-lent c = search copy_stores
