-- `ascii::put_ascii` meets its contract: a short buffer gets nothing; else `put_body` stored the address and the unit in a local array, and the message of these is the reply.
-- That has 151 bytes at most, so it fits. Assumes nothing.
use Rattle.modbus.proofs.Buffers.{none_count, none_lent}
use Rattle.ascii.proofs.Replies.{body_within, body_taken, ascii_count, ascii_lent}
use Rattle.ascii.proofs.put_ascii.Goals as goal

pub returns-then-reply-lt-ASCII_REPLY : goal.returns-then-reply-lt-ASCII_REPLY
returns-then-reply-lt-ASCII_REPLY c = search (none_count, none_lent)

pub slice_bounds-bytes-end : goal.slice_bounds-bytes-end
slice_bounds-bytes-end c = search body_within

pub slice_bounds-put_text-end : goal.slice_bounds-put_text-end
slice_bounds-put_text-end c = search body_taken

pub returns : goal.returns
returns c = search (ascii_count, ascii_lent)
