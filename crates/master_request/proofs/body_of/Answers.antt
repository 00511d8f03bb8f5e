-- `master_request::body_of` meets its contract: what can be said is told first, then each arm is what the definition says of its case. Assumes nothing.
use Rattle.base.proofs.Tests.{tests}
use Rattle.master_request.specs.Ask.{request_unit}
use Rattle.master_request.proofs.Bodies.{unsaid_body, said_body, long_few}
use Rattle.master_request.proofs.body_of.Goals as goal

pub returns-then-not-sayable : goal.returns-then-not-sayable
unfolding request_unit
returns-then-not-sayable c = search (tests, unsaid_body)

pub long_body-requires : goal.long_body-requires
unfolding request_unit
long_body-requires c = search long_few

pub returns-in-Holding : goal.returns-in-Holding
unfolding request_unit
returns-in-Holding c = search (tests, said_body)

pub returns-in-Input : goal.returns-in-Input
unfolding request_unit
returns-in-Input c = search (tests, said_body)

pub returns-in-One : goal.returns-in-One
unfolding request_unit
returns-in-One c = search (tests, said_body)

pub returns-in-Many : goal.returns-in-Many
unfolding request_unit
returns-in-Many c = search (tests, said_body)
