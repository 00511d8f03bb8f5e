-- `speed::round` ends: each piece has a byte at least, and each call uses one. Assumes nothing.
use Rattle.std.proofs.Common.{length}
use Rattle.speed.proofs.rounds.round.Given as goal

abbrev pub decreases-loop-frames : goal.decreases-loop-frames
decreases-loop-frames l = length l.rest

abbrev pub decreases-loop-piece : goal.decreases-loop-piece
decreases-loop-piece l = length l.piece
