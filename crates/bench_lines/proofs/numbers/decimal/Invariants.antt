-- `bench_lines::decimal`: the digits that are put, and those of the rest in front of them, are the number's. The measure is the rest. Assumes nothing.
use Rattle.bench_lines.proofs.Decimal.{Spelling}
use Rattle.bench_lines.proofs.numbers.decimal.Given as goal

abbrev pub invariant-loop-rest : goal.invariant-loop-rest
invariant-loop-rest l = Spelling l.fn.number l.rest l.at l.digits

abbrev pub decreases-loop-rest : goal.decreases-loop-rest
decreases-loop-rest l = l.rest
