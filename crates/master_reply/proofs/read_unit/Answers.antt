-- `master_reply::read_unit` meets its contract by what its callees ensure. A reply brings 125 registers at most. Assumes nothing.
use Rattle.master_reply.proofs.Units.{count_few, heard_read}
use Rattle.master_reply.proofs.read_unit.Goals as goal

pub words_in-words-requires : goal.words_in-words-requires
words_in-words-requires c = search count_few

pub returns : goal.returns
returns c = search heard_read
