-- `ascii_scan::push_digits` meets its contract. The invariant: scanning the bytes left gives what scanning all that have room does, and CR has not come.
-- Assumes nothing.
use Rattle.std.proofs.Common.{rules}
use Rattle.ascii_scan.proofs.Running.{run_again, run_cut, run_all}
use Rattle.ascii_scan.proofs.digits.push_digits.Goals as goal

pub returns-then-not-is_ascii_hexdigit-clause-same : goal.returns-then-not-is_ascii_hexdigit-clause-same
returns-then-not-is_ascii_hexdigit-clause-same c = search (run_cut, rules)

pub loop-i-preserved : goal.loop-i-preserved
loop-i-preserved c = search (run_again, rules)

pub returns-clause-same : goal.returns-clause-same
returns-clause-same c = search (run_all, rules)
