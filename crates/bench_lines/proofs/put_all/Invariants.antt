-- `bench_lines::put_all` meets its contract: putting the characters left gives the whole. Assumes nothing.
use lib.ListN.{drop}
use Rattle.bench_lines.proofs.Laws.{Putting}
use Rattle.bench_lines.proofs.put_all.Given as goal

abbrev pub invariant-loop-character : goal.invariant-loop-character
invariant-loop-character l = Putting l.initial.out l.at l.characters l.out l.n (drop l.character-index l.characters)
