-- `session_loop::serve_all`: the calls that were made lead to the card that there is now and to what is left of the bytes. The measure is how many are left. Assumes nothing.
use Rattle.std.proofs.Common.{length}
use Rattle.session_loop.specs.Handed.{Partly}
use Rattle.session_loop.proofs.serve_all.Given as goal

abbrev pub invariant-loop-rest : goal.invariant-loop-rest
invariant-loop-rest g l = Partly l.initial.card l.scrap l.card l.rest

abbrev pub decreases-loop-rest : goal.decreases-loop-rest
decreases-loop-rest g l = length l.rest
