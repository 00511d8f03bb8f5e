-- `bench_lines::put_all` meets its contract: putting the characters left gives the whole. Assumes nothing.
use Rattle.bench_lines.proofs.Laws.{putting_starts, putting_next, putting_done, putting_kept, next_character, left_none}
use Rattle.bench_lines.proofs.put_all.Goals as goal

pub loop-character-init : goal.loop-character-init
loop-character-init c = putting_starts _ _ _

pub loop-character-preserved : goal.loop-character-preserved
loop-character-preserved c = putting_next _ _ (next_character _ _ c.loop-character-test.true) c.loop-character.invariant c.put-n.ensures

pub shape_of-out : goal.shape_of-out
shape_of-out c = putting_kept c.loop-character.invariant

pub returns : goal.returns
returns c = putting_done (left_none _ _ c.loop-character-test.false) c.loop-character.invariant
