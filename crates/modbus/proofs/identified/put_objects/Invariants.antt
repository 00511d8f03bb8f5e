-- `modbus::identified::put_objects` meets its contract. The invariant: the objects before this one that are asked for stand behind the seven bytes. Assumes nothing.
use Rattle.modbus.proofs.Written.{Listing}
use Rattle.modbus.proofs.identified.put_objects.Given as goal

abbrev pub invariant-loop-i : goal.invariant-loop-i
invariant-loop-i l = Listing l.first l.last l.identity l.initial.out l.out l.at l.i
