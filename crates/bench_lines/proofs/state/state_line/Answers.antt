-- `bench_lines::state_line` meets its contract: its parts, one after the other. Assumes nothing.
use Rattle.std.proofs.Common.{ℕ, ◌∷◌, ap}
use Rattle.bench_lines.specs.Answer.{decimal_of}
use Rattle.bench_lines.specs.State.{state_of}
use Rattle.bench_lines.proofs.Laws.{put_same, then}
use Rattle.bench_lines.proofs.state.state_line.Goals as goal

pub returns : goal.returns
unfolding state_of
returns c = then _ _ _ _ _ _ _ _ c.columns-first.ensures (then _ _ _ _ _ _ _ _ c.columns-second.ensures (then _ _ _ _ _ _ _ _ c.columns-third.ensures (then _ _ _ _ _ _ _ _ c.bytes-fourth.ensures (put_same _ _ _ _ _ _ (ap (λ (n : ℕ). 0x20 ∷ decimal_of n) c.from.ensures) c.spaced.ensures))))
