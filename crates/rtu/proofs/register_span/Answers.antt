-- `rtu::register_span` meets its contract by what its callees ensure of the frame, its unit and the request. Assumes nothing.
use Rattle.base.proofs.Tests.{tests}
use Rattle.rtu.proofs.Frames.{span_broken, span_held}
use Rattle.rtu.proofs.register_span.Goals as goal

pub returns-then-frame_holds : goal.returns-then-frame_holds
returns-then-frame_holds c = search (tests, span_held)

pub returns-else-frame_holds : goal.returns-else-frame_holds
returns-else-frame_holds c = search (tests, span_broken)
