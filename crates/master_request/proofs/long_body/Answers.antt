-- `master_request::long_body` meets its contract: seven bytes, then the register bytes in the part of the array behind them. Assumes nothing.
use borrow.Author.Rules.{rules}
use Rattle.master_request.proofs.Bodies.{long_made}
use Rattle.master_request.proofs.long_body.Goals as goal

pub returns : goal.returns
returns c =
    long_made _ _ c.args.registers.now _ _ _ _ c.to_be_bytes.ensures c.to_be_bytes-2.ensures c.copy_from_slice.ensures.after c.copy_from_slice-2.ensures.after (search rules) c.requires
