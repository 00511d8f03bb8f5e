-- `speed::call` meets its contract: a call uses bytes that are there, and one at least. Assumes nothing.
use Rattle.std.proofs.Common.{arith}
use Rattle.speed.proofs.Laws.{used_within, used_some}
use Rattle.speed.proofs.rounds.call.Goals as goal

pub returns-clause-within : goal.returns-clause-within
returns-clause-within c = let r = c.receive_in-turn in used_within _ c.args.bytes.now _ _ _ _ _ r.result r.ensures.turn

pub returns-clause-onward : goal.returns-clause-onward
returns-clause-onward c = let r = c.receive_in-turn in used_some _ c.args.bytes.now _ _ _ _ _ r.result r.ensures.turn (omega arith)
