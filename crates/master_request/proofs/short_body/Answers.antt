-- `master_request::short_body` meets its contract: the six bytes are the definition's. Assumes nothing.
use borrow.Author.Rules.{rules}
use Rattle.master_request.specs.Ask.{head_of}
use Rattle.master_request.proofs.Bodies.{short_made}
use Rattle.master_request.proofs.short_body.Goals as goal

pub returns : goal.returns
unfolding head_of
returns c = short_made _ _ _ _ _ _ _ c.to_be_bytes.ensures c.to_be_bytes-2.ensures c.copy_from_slice.ensures.after (search rules) (search rules)
