-- Document 01's numbers for what serving a message comes to: the column No, 0 to 9. Assumes nothing.
use Rattle.std.specs.Prelude.{ℕ}
use Rattle.answers.specs.declared.Refusal.{Refusal}
use Rattle.answers.specs.declared.Refusal.TheVariants.{NoRow, ReadOnly, NotAllowed, FlagStands, Running, NotPermitted, Malformed, NoFunction}
use Rattle.answers.specs.declared.Answer.{Answer}
use Rattle.answers.specs.declared.Answer.TheVariants.{Told, Written, Identified, NotOurs, Refused}

abbrev pub refusal_number : Refusal → ℕ
refusal_number NoRow = 2
refusal_number ReadOnly = 3
refusal_number NotAllowed = 4
refusal_number FlagStands = 5
refusal_number Running = 6
refusal_number NotPermitted = 7
refusal_number Malformed = 8
refusal_number NoFunction = 9

abbrev pub answer_number : Answer → ℕ
answer_number (Told row word) = 0
answer_number (Written change) = 0
answer_number (Identified part) = 0
answer_number NotOurs = 1
answer_number (Refused refusal) = refusal_number refusal
