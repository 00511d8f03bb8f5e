-- `ticks::hand_over` meets its contract: from the port and the plant that there are now, the tenths that are left give what all give from the first. Assumes nothing.
use Rattle.std.proofs.Common.{◌≡◌, ◌-◌, ◌*◌}
use Rattle.ticks.specs.Ticks.{handed_over}
use Rattle.ticks.proofs.hand_over.Given as goal

abbrev pub invariant-loop : goal.invariant-loop
invariant-loop l = handed_over (l.tenths - 250 * l.counter) (record { port = l.port; plant = l.plant }) ≡ handed_over l.tenths (record { port = l.initial.port; plant = l.initial.plant })
