-- `modbus::copies::copy_at` meets its contract. The invariant: stores of all bytes left would give the whole. Assumes nothing.
use Rattle.modbus.proofs.Copying.{Copying}
use Rattle.modbus.proofs.copies.copy_at.Given as goal

abbrev pub invariant-loop-i : goal.invariant-loop-i
invariant-loop-i l = Copying l.bytes l.initial.out l.out l.at l.i
