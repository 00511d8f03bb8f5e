-- `master_ascii::write_request` meets its contract: `body_of` made the address and the unit, or none where the request cannot be said. Their message is never empty, so `put_text`
-- tells 0 exactly where it does not fit. Assumes nothing.
use mathlib.Core.Path.{sym}
use lib.Seq.{length-take-le}
use Rattle.master.proofs.Sends.{cannot_sent, cannot_lent}
use Rattle.master_request.proofs.Made.{unsaid, end_within}
use Rattle.master_ascii.proofs.Requests.{text_short, text_short_lent, text_sent, text_lent}
use Rattle.master_ascii.proofs.write_request.Goals as goal

pub returns-in_default : goal.returns-in_default
returns-in_default c = search (c.in_default.ensures, cannot_sent, cannot_lent, unsaid)

pub slice_bounds-bytes-end : goal.slice_bounds-bytes-end
slice_bounds-bytes-end c = search (c.in-Some.ensures, end_within)

pub slice_bounds-put_text-end : goal.slice_bounds-put_text-end
slice_bounds-put_text-end c = sym (search (c.in-Some.ensures, length-take-le, end_within))

pub returns-then-size-eq0 : goal.returns-then-size-eq0
returns-then-size-eq0 c = search (c.in-Some.ensures, text_short, text_short_lent)

pub returns : goal.returns
returns c = search (c.in-Some.ensures, text_sent, text_lent)
