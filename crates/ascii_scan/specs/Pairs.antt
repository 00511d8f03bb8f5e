-- The bytes that pairs of digits spell, as the code sums them. Assumes nothing.
use Rattle.std.specs.Prelude.{ℕ, List, length}
use Rattle.checks.specs.Lrc.{sum_of}
use Rattle.ascii_scan.specs.declared.pairs.Pairs.{Pairs}

-- how many there are, and what they add to
unfoldable pub pairs_of : List ℕ → Pairs
pairs_of bytes = record { count = length bytes; sum = sum_of bytes }
