-- `master_ascii::read_reply` meets its contract: a framed text whose characters between are all pairs is the text of their bytes, so the sum of these tells
-- whether it is a message. Assumes nothing.
use borrow.Author.Rules.{rules}
use Rattle.base.specs.Buffers.{front}
use Rattle.base.proofs.Tests.{tests}
use Rattle.master_ascii.proofs.Texts.{inner_starts, inner_ends}
use Rattle.master_ascii.proofs.Replies.{unframed, not_whole, twice_fits, size_fits, last_there, unit_there, count_within, last_within, sum_wrong, sum_right}
use Rattle.master_ascii.proofs.read_reply.Goals as goal

pub returns-then-not-framed : goal.returns-then-not-framed
unfolding front
returns-then-not-framed c = search (tests, unframed)

pub overflow_sub-end : goal.overflow_sub-end
overflow_sub-end c = search (tests, inner_ends, rules)

pub slice_bounds-decode-count : goal.slice_bounds-decode-count
slice_bounds-decode-count c = search (tests, inner_starts, rules)

pub slice_bounds-decode-start : goal.slice_bounds-decode-start
slice_bounds-decode-start c = search (tests, inner_starts, rules)

pub overflow_mul-count : goal.overflow_mul-count
overflow_mul-count c = search (tests, twice_fits, rules)

pub overflow_add-count : goal.overflow_add-count
overflow_add-count c = search (tests, size_fits, rules)

pub returns-then-count-text : goal.returns-then-count-text
unfolding front
returns-then-count-text c = search not_whole

pub slice_bounds-adds_to_zero-end : goal.slice_bounds-adds_to_zero-end
slice_bounds-adds_to_zero-end c = search (tests, count_within)

pub returns-then-not-adds_to_zero : goal.returns-then-not-adds_to_zero
unfolding front
returns-then-not-adds_to_zero c = search (tests, sum_wrong)

pub overflow_sub-last : goal.overflow_sub-last
overflow_sub-last c = search (tests, last_there, rules)

pub slice_bounds-read_unit-count : goal.slice_bounds-read_unit-count
slice_bounds-read_unit-count c = search (tests, unit_there, rules)

pub slice_bounds-read_unit-start : goal.slice_bounds-read_unit-start
slice_bounds-read_unit-start c = search (tests, unit_there, rules)

pub slice_bounds-read_unit-end : goal.slice_bounds-read_unit-end
slice_bounds-read_unit-end c = search (tests, last_within)

pub returns : goal.returns
returns c = search (tests, sum_right)
