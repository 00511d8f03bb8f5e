-- `bench_words::size_of` meets its contract: with the digits left the size is the whole's. Assumes nothing.
use Rattle.std.proofs.Common.{◌≡◌, ◌≤◌, drop}
use Rattle.bench_words.specs.Numbers.{capped_from, size_of}
use Rattle.bench_words.proofs.numbers.size_of.Given as goal

abbrev pub invariant-loop-character : goal.invariant-loop-character
invariant-loop-character l =
    record {
      small : l.size ≤ 0x100000000;
      left : capped_from l.size (drop l.character-index l.characters) ≡ size_of l.characters;
    }
