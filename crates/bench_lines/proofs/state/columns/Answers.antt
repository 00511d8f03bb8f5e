-- `bench_lines::columns` meets its contract: putting the columns left gives the whole. Assumes nothing.
use Rattle.std.proofs.Common.{ℕ, ◌+◌, get_or, ap}
use Rattle.bench_lines.specs.State.{column_of}
use Rattle.bench_lines.proofs.Laws.{put_same, columns_start, putting_next, putting_done, putting_kept, next_column, columns_none, then}
use Rattle.bench_lines.proofs.state.columns.Goals as goal

pub loop-k-init : goal.loop-k-init
loop-k-init c = columns_start _ _ _ _

pub loop-k-preserved : goal.loop-k-preserved
loop-k-preserved c =
    let number = put_same _ _ _ _ _ _ (ap (λ (n : ℕ). column_of (n + c.loop-k.k) (get_or c.args.words.now c.loop-k.k 0)) c.from.ensures) c.column-n.ensures in
    putting_next _ _ (next_column _ _ _ c.loop-k-test.true) c.loop-k.invariant (then _ _ _ _ _ _ _ _ number c.put-n.ensures)

pub shape_of-out : goal.shape_of-out
shape_of-out c = putting_kept c.loop-k.invariant

pub returns : goal.returns
returns c = putting_done (columns_none _ _ _ c.loop-k-test.false) c.loop-k.invariant
