-- `bench_words::in_capitals` meets its contract: each character is its own capital. Assumes nothing.
use Rattle.std.proofs.Common.{◌∙◌, eqb, rules, tests}
use Rattle.std.proofs.lemmas.Iterator.{YieldsList-from_slice}
use Rattle.std.proofs.lemmas.Iterator.Search.{all_from_yields_List}
use Rattle.hex_pairs.specs.Hex.{capital_of}
use Rattle.bench_words.proofs.Hexes.{all_capitals}
use Rattle.bench_words.proofs.spelling.in_capitals.Goals as goal

pub returns : goal.returns
returns c =
    all_from_yields_List (λ x. eqb (capital_of x) x) c.all.new.self _ c.all.result c.all.ensures.ran (YieldsList-from_slice c.args.word.now cc) (λ x b q k. search (rules, tests))
    ∙ all_capitals c.args.word.now
