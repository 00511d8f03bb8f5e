-- `ascii_scan::add_pairs` meets its contract: the chain gives the bytes that the pairs spell, and counts and adds them. Assumes nothing.
use Rattle.std.proofs.Common.{refl, ap, ◌∙◌, rules, arith}
use Rattle.std.specs.Slice.Iter.{iter_rest}
use Rattle.ascii_scan.proofs.Chained.{counted_in, mapped, added}
use Rattle.ascii_scan.proofs.pairs.add_pairs.Goals as goal

pub returns : goal.returns
returns c =
    let f = c.fold.ensures.runs in
    let m = c.map_while.ensures.runs f.0 f.0.seen f.1 in
    added _ c.args.digits.now f.0.items (iter_rest m.0.from) (omega arith)
    (ap iter_rest m.1 ∙ c.iter.ensures.rest ∙ c.as_chunks.ensures.front)
    (mapped _ _ f.0 m.0 (iter_rest m.0.from) m.2 (c.iter.ensures.runs m.0 m.0.seen) f.2 (λ x r g k. refl) (λ x o g k. search rules))
    (f.3 counted_in (λ x y r g k. (refl, search rules)))
