-- `rtu::seal` meets its contract: the CRC is that of the body, and its two bytes go behind it, low byte first. Assumes nothing.
use Rattle.rtu.proofs.Replies.{sealed}
use Rattle.rtu.proofs.seal.Goals as goal

pub returns-clause-lent : goal.returns-clause-lent
returns-clause-lent c = sealed _ _ c.requires _ _ c.crc.ensures c.crc.type_inv c.to_le_bytes.ensures
