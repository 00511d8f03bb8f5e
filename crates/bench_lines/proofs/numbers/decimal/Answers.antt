-- `bench_lines::decimal` meets its contract: the last digit that is put is the first. Assumes nothing.
use Rattle.std.proofs.Common.{arith, refl}
use borrow.Author.Rules.{rules}
use Rattle.bench_lines.proofs.Decimal.{spelling_starts, spelling_next, spelling_done}
use Rattle.bench_lines.proofs.numbers.decimal.Goals as goal

pub loop-rest-init : goal.loop-rest-init
loop-rest-init c = spelling_starts _ _ c.ranges.number (search rules)

pub loop-rest-preserved : goal.loop-rest-preserved
loop-rest-preserved c = spelling_next _ _ _ _ _ c.loop-rest.invariant c.loop-rest-test.true refl

pub returns : goal.returns
returns c = record { within = omega arith; spelt = spelling_done _ _ _ _ _ c.loop-rest.invariant c.loop-rest-test.false refl }
