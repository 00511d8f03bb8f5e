-- `session_loop::serve_all` meets its contract: each call is one more of the calls that lead from the first card to the one that there is now. Where writing failed,
-- that is what is left. Assumes nothing.
use Rattle.std.proofs.Common.{arith}
use Rattle.std.proofs.lemmas.Bool.Decides.{nat_tests}
use Rattle.session_loop.specs.Handed.{none}
use Rattle.session_loop.proofs.Loop.{handed_on, handed_over, handed_ends_at, stopped_at, at_error}
use Rattle.session_loop.proofs.serve_all.Goals as goal

pub loop-rest-init : goal.loop-rest-init
loop-rest-init g c = none

pub loop-rest-preserved : goal.loop-rest-preserved
loop-rest-preserved g c =
    let s = c.serve-turn in
    handed_on _ _ _ s.result s.ensures.turn _ _ c.loop-rest.invariant (grind (arith, nat_tests))

pub returns-in_err-write-clause-stopped : goal.returns-in_err-write-clause-stopped
returns-in_err-write-clause-stopped g c =
    let s = c.serve-turn in
    at_error _ (stopped_at _ _ _ _ (handed_on _ _ _ s.result s.ensures.turn _ _ c.loop-rest.invariant (grind (arith, nat_tests))))

pub returns-in_err-write-2-clause-stopped : goal.returns-in_err-write-2-clause-stopped
returns-in_err-write-2-clause-stopped g c =
    let s = c.serve-turn in
    at_error _ (stopped_at _ _ _ _ (handed_on _ _ _ s.result s.ensures.turn _ _ c.loop-rest.invariant (grind (arith, nat_tests))))

pub returns-clause-calls : goal.returns-clause-calls
returns-clause-calls g c = handed_ends_at _ _ _ (handed_over _ _ _ c.loop-rest.rest.now (grind (arith, nat_tests)) c.loop-rest.invariant)

pub returns-clause-whole : goal.returns-clause-whole
returns-clause-whole g c = handed_over _ _ _ c.loop-rest.rest.now (grind (arith, nat_tests)) c.loop-rest.invariant
