-- `master::send` meets its contract: where there is room, the message is copied to the front. Assumes nothing.
use Rattle.master.proofs.Sends.{short_sent, short_lent, written_sent, written_lent, copied_front}
use Rattle.master.proofs.send.Goals as goal

pub returns-then-out-message : goal.returns-then-out-message
returns-then-out-message c = search (short_sent, short_lent)

pub returns : goal.returns
returns c = search (written_sent, written_lent, copied_front)
