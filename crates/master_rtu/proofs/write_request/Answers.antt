-- `master_rtu::write_request` meets its contract: `body_of` made the address and the unit, or none where the request cannot be said; their CRC goes behind
-- them, and that frame is sent. Assumes nothing.
use mathlib.Core.Path.{sym}
use borrow.Author.Rules.{rules}
use lib.Seq.{length-take-le}
use Rattle.master.proofs.Sends.{cannot_sent, cannot_lent}
use Rattle.master_request.proofs.Made.{unsaid, first_within, second_within, end_fits, end_within}
use Rattle.master_rtu.proofs.Requests.{all_within, frame_sent, frame_lent}
use Rattle.master_rtu.proofs.write_request.Goals as goal

pub returns-in_default : goal.returns-in_default
returns-in_default c = search (c.in_default.ensures, cannot_sent, cannot_lent, unsaid)

pub slice_bounds-frame-end : goal.slice_bounds-frame-end
slice_bounds-frame-end c = search (c.in-Some.ensures, end_within)

pub slice_bounds-crc-end : goal.slice_bounds-crc-end
slice_bounds-crc-end c = sym (search (c.in-Some.ensures, length-take-le, end_within))

pub bounds-frame-end : goal.bounds-frame-end
bounds-frame-end c = search (c.in-Some.ensures, first_within)

pub overflow_add-frame : goal.overflow_add-frame
overflow_add-frame c = search (c.in-Some.ensures, end_fits, rules)

pub bounds-frame-end-2 : goal.bounds-frame-end-2
bounds-frame-end-2 c = search (c.in-Some.ensures, second_within)

pub overflow_add-frame-2 : goal.overflow_add-frame-2
overflow_add-frame-2 c = search (c.in-Some.ensures, end_fits, rules)

pub slice_bounds-frame-end-2 : goal.slice_bounds-frame-end-2
slice_bounds-frame-end-2 c = search (c.in-Some.ensures, all_within)

pub slice_bounds-send-end : goal.slice_bounds-send-end
slice_bounds-send-end c = sym (search (c.in-Some.ensures, length-take-le, all_within))

pub returns : goal.returns
returns c = search (c.in-Some.ensures, frame_sent, frame_lent)
