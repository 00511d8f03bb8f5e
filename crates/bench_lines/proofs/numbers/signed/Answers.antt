-- `bench_lines::signed` meets its contract: a number below the half is plain, another has `-` in front. Assumes nothing.
use Rattle.bench_lines.proofs.Laws.{signed_plain, signed_minus}
use Rattle.bench_lines.proofs.numbers.signed.Goals as goal

pub returns-then-word-all : goal.returns-then-word-all
returns-then-word-all c = signed_plain _ _ _ _ _ _ c.if-word-all.true c.unsigned.ensures

pub returns : goal.returns
returns c = signed_minus _ _ _ _ _ _ _ _ c.if-word-all.false c.put-n.ensures c.unsigned-2.ensures
