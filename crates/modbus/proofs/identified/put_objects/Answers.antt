-- `modbus::identified::put_objects` meets its contract: the seven bytes, and behind them the objects. Assumes nothing.
use mathlib.Core.Path.{refl}
use Rattle.modbus.proofs.Written.{list_starts, list_room, list_again, objects_behind, objects_lent}
use Rattle.modbus.proofs.identified.put_objects.Goals as goal

pub loop-i-init : goal.loop-i-init
loop-i-init c = list_starts _ _ _ _ _ c.copy_at-at.ensures.behind

pub put_object-at-requires : goal.put_object-at-requires
put_object-at-requires c = list_room _ _ _ _ _ _ c.texts.ensures refl c.loop-i-test.true _ _ _ c.loop-i.invariant

pub loop-i-preserved : goal.loop-i-preserved
loop-i-preserved c = list_again _ _ _ _ _ _ c.texts.ensures refl c.loop-i-test.true _ _ _ c.loop-i.invariant _ _ c.put_object-at.ensures.behind c.put_object-at.ensures.lent

pub returns : goal.returns
returns c = search (objects_behind, objects_lent)
