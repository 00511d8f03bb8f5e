-- `rtu::register_data` meets its contract: the span that `register_span` tells lies within the frame, and is handed back as a part of it.
-- Assumes nothing.
use Rattle.rtu.proofs.Frames.{told_within, data_told}
use Rattle.rtu.proofs.register_data.Goals as goal

pub slice_bounds-result-count : goal.slice_bounds-result-count
slice_bounds-result-count c = (told_within _ _ c.register_span-from.ensures).0

pub slice_bounds-result-start : goal.slice_bounds-result-start
slice_bounds-result-start c = (told_within _ _ c.register_span-from.ensures).0

pub slice_bounds-result-end : goal.slice_bounds-result-end
slice_bounds-result-end c = (told_within _ _ c.register_span-from.ensures).1

pub returns : goal.returns
returns c = data_told _ _ c.register_span-from.ensures
