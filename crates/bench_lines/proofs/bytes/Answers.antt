-- `bench_lines::bytes` meets its contract: `-`, or putting the digits of the bytes left gives the whole. Assumes nothing.
use Rattle.std.proofs.Common.{◌≡◌, length, arith}
use Rattle.bench_lines.proofs.Laws.{putting_starts, putting_next, putting_done, next_byte, putting_kept, hex_none, shown_none, shown_some}
use Rattle.bench_lines.proofs.bytes.Goals as goal

pub loop-next-init : goal.loop-next-init
loop-next-init c = putting_starts _ _ _

pub loop-next-preserved : goal.loop-next-preserved
loop-next-preserved c = putting_next _ _ (next_byte _ _ c.loop-next-test.true) c.loop-next.invariant c.byte-n.ensures

pub shape_of-out : goal.shape_of-out
shape_of-out c = putting_kept c.loop-next.invariant

pub returns-then-is_empty : goal.returns-then-is_empty
returns-then-is_empty c = let none : length c.args.bytes.now ≡ 0 = grind arith in rw (shown_none _ none) c.put.ensures

pub returns : goal.returns
returns c = let some : length c.args.bytes.now ≡ 0 → ⊥ = grind arith in rw (shown_some _ some) (putting_done (hex_none _ _ c.loop-next-test.false) c.loop-next.invariant)
