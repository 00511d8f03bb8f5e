-- `table::Row::width` meets its contract: the column is the same along each range of rows, and past the table there is no register. Assumes nothing.
use Rattle.std.proofs.Common.{arith}
use mathlib.Core.Path.{ap}
use Rattle.base.proofs.Arms.{at_key}
use Rattle.table.specs.Table.{Line, rows, line_at}
use Rattle.table.proofs.Columns.{along, along_0, past_table}
use Rattle.table.proofs.labels.Row.width.Goals as goal

pub returns-in_default : goal.returns-in_default
unfolding line_at rows
returns-in_default c = ap (λ (l : Line). l.registers) (past_table c.args.self.0 (omega arith))

pub returns-in-19 : goal.returns-in-19
unfolding line_at rows
returns-in-19 c = search (along (λ n. 2) (λ n. (line_at n).registers) 19 2)

pub returns-in-19-2 : goal.returns-in-19-2
unfolding line_at rows
returns-in-19-2 c = search (along (λ n. 2) (λ n. (line_at n).registers) 28 2)

pub returns-in-0-to-30 : goal.returns-in-0-to-30
unfolding line_at rows
returns-in-0-to-30 c = search (at_key (λ n. (line_at n).registers))

pub returns-in-0-to-30-2 : goal.returns-in-0-to-30-2
unfolding line_at rows
returns-in-0-to-30-2 c = search (along_0 (λ n. 1) (λ n. (line_at n).registers) 19)

pub returns-in-0-to-30-3 : goal.returns-in-0-to-30-3
unfolding line_at rows
returns-in-0-to-30-3 c = search (along (λ n. 1) (λ n. (line_at n).registers) 21 7)
