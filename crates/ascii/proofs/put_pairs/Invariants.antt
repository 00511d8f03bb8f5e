-- `ascii::put_pairs` meets its contract. The invariant: the digits of the bytes left would give the whole text, and their sum the whole sum. Assumes nothing.
use Rattle.ascii.proofs.Texts.{Putting}
use Rattle.ascii.proofs.put_pairs.Given as goal

abbrev pub invariant-loop-i : goal.invariant-loop-i
invariant-loop-i l = Putting l.bytes l.initial.text l.text l.sum l.i
