-- `master_nfo::long_reply` meets its contract: without its frame or its digits it is no REPLY, and else it is one. Assumes nothing.
use native.Mathlib.Omega.{arith}
use Rattle.base.proofs.Tests.{tests}
use Rattle.nfo_parts.specs.Parts.{value_at}
use Rattle.master_nfo.proofs.Tested.{other_frame, other_number, other_value, all_told}
use Rattle.master_nfo.proofs.replies.long_reply.Goals as goal

pub returns-in_default : goal.returns-in_default
returns-in_default c = other_frame _ c.told-reply (λ f. omega arith)

pub returns-in_default-2 : goal.returns-in_default-2
returns-in_default-2 c = other_frame _ c.told-reply (λ f. omega arith)

pub returns-in_default-3 : goal.returns-in_default-3
returns-in_default-3 c = other_frame _ c.told-reply (λ f. omega arith)

pub returns-in_default-4 : goal.returns-in_default-4
returns-in_default-4 c = other_frame _ c.told-reply (λ f. omega arith)

pub returns-then-not-is_adr : goal.returns-then-not-is_adr
returns-then-not-is_adr c = other_frame _ c.told-reply (λ f. grind (arith, tests))

pub returns-in_default-value_of : goal.returns-in_default-value_of
unfolding value_at
returns-in_default-value_of c = search other_number

pub returns-in_default-value_of-2 : goal.returns-in_default-value_of-2
unfolding value_at
returns-in_default-value_of-2 c = search other_value

pub returns : goal.returns
unfolding value_at
returns c = all_told _ c.told-reply (record { adr = grind arith; two = grind arith; letter = grind arith; equals = grind arith; three = grind arith; right = grind arith })
    _ _ _ _ c.value_of.ensures c.in-Some.is c.value_of-2.ensures c.in-Some-value_of.is
