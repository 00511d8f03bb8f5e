-- `master_rtu::read_reply` meets its contract by what its callees ensure of the frame. Assumes nothing.
use Rattle.base.specs.Buffers.{front}
use Rattle.base.proofs.Tests.{tests}
use Rattle.master_rtu.proofs.Replies.{heard_none, heard_held}
use Rattle.master_rtu.proofs.read_reply.Goals as goal

pub returns-then-frame_holds : goal.returns-then-frame_holds
returns-then-frame_holds c = search (tests, heard_held)

pub returns-else-frame_holds : goal.returns-else-frame_holds
unfolding front
returns-else-frame_holds c = search (tests, heard_none)
