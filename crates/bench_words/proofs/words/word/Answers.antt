-- `bench_words::word` meets its contract: part k between the spaces is word k. Assumes nothing.
use Rattle.std.proofs.Common.{rules, tests, refl}
use Rattle.std.proofs.lemmas.Iterator.Splits.{YieldsList-from_slice_split}
use Rattle.std.proofs.lemmas.Iterator.Consumers.{nth_from_yields_List}
use Rattle.bench_words.proofs.Places.{space, part_given}
use Rattle.bench_words.proofs.words.word.Goals as goal

pub returns : goal.returns
returns c =
    let part =
    nth_from_yields_List c.nth.result c.nth.new.self c.args.k c.nth.ensures.ran
    (YieldsList-from_slice_split _ space c.args.line.now c.split.ensures.rest c.split.ensures.done c.split.ensures.closure (λ x r q k. search (rules, tests))) in
    part_given c.args.line.now c.args.k _ _ _ part refl c.unwrap_or.ensures
