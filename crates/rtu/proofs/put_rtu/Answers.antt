-- `rtu::put_rtu` meets its contract: a short buffer gets nothing; else `put_body` stored the address and the unit, and the CRC of these goes behind them. A body has 73 bytes at
-- most, so there is room in 256. Assumes nothing.
use Rattle.modbus.proofs.Buffers.{none_count, none_lent}
use Rattle.rtu.proofs.Replies.{room_behind, rtu_count, rtu_lent}
use Rattle.rtu.proofs.put_rtu.Goals as goal

pub returns-then-reply-lt-RTU_REPLY : goal.returns-then-reply-lt-RTU_REPLY
returns-then-reply-lt-RTU_REPLY c = search (none_count, none_lent)

pub seal-requires : goal.seal-requires
seal-requires c = search room_behind

pub returns-in-Identity : goal.returns-in-Identity
returns-in-Identity c = search (rtu_count, rtu_lent)

pub seal-requires-2 : goal.seal-requires-2
seal-requires-2 c = search room_behind

pub returns : goal.returns
returns c = search (rtu_count, rtu_lent)
