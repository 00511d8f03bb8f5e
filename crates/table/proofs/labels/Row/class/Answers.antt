-- `table::Row::class` meets its contract: a law for each range of rows. Assumes nothing.
use Rattle.table.specs.declared.lines.Class.TheVariants.{Init}
use Rattle.table.specs.Table.{rows, line_at}
use Rattle.base.proofs.Arms.{at_key}
use Rattle.table.proofs.Columns.{along_0, from_inv_st, run_at}
use Rattle.table.proofs.labels.Row.class.Goals as goal

pub returns-in-7-to-23 : goal.returns-in-7-to-23
unfolding line_at rows
returns-in-7-to-23 c = search run_at

pub returns-in_default : goal.returns-in_default
unfolding line_at rows
returns-in_default c = search (from_inv_st (λ l. l.class))

pub returns-in-0-to-6 : goal.returns-in-0-to-6
unfolding line_at rows
returns-in-0-to-6 c = search (at_key (λ n. (line_at n).class))

pub returns-in-0-to-6-2 : goal.returns-in-0-to-6-2
unfolding line_at rows
returns-in-0-to-6-2 c = search (along_0 (λ n. Init) (λ n. (line_at n).class) 7)
