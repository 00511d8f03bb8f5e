-- Document 01's outcome numbers: the column No. (13 and 14 are the master's.) Assumes nothing.
use Rattle.std.specs.Prelude.{ℕ}
use Rattle.answers.specs.Answer.{answer_number}
use Rattle.card.specs.declared.outcome.Outcome.{Outcome}
use Rattle.card.specs.declared.outcome.Outcome.TheVariants.{Done, Served, ShortBuffer, BadFrame, NoSuchEvent, NothingTaken}

abbrev pub outcome_number : Outcome → ℕ
outcome_number Done = 0
outcome_number (Served answer) = answer_number answer
outcome_number ShortBuffer = 10
outcome_number BadFrame = 11
outcome_number NoSuchEvent = 12
outcome_number NothingTaken = 15
