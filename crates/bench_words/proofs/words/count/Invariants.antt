-- `bench_words::count` meets its contract: with the characters left the count is the line's. The words begun are at most one more than the characters passed, so their
-- number does not wrap. Assumes nothing.
use Rattle.std.proofs.Common.{◌≡◌, ◌+◌, ◌≤◌, drop}
use Rattle.bench_words.specs.Words.{count_from, word_count}
use Rattle.bench_words.proofs.words.count.Given as goal

abbrev pub invariant-loop-character : goal.invariant-loop-character
invariant-loop-character l =
    record {
      few : l.words ≤ l.character-index + 1;
      left : count_from l.words l.before (drop l.character-index l.line) ≡ word_count l.line;
    }
