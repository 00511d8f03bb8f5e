-- `checks::crc_byte` meets its contract. The invariant: the steps that are left of eight, from `y` on, give the byte's. Assumes nothing.
use Rattle.std.proofs.Common.{◌≡◌, ◌-◌}
use Rattle.checks.specs.Crc.{crc_bits, crc_byte}
use Rattle.checks.proofs.crc_byte.Given as goal

abbrev pub invariant-loop-step : goal.invariant-loop-step
invariant-loop-step l = crc_bits (8 - l._step) l.y ≡ crc_byte l.x l.byte
