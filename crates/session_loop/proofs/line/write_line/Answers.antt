-- `session_loop::write_line` meets its contract: two stores, then `-` or the digits in the part after them, then the line's end. Assumes nothing.
use native.Mathlib.Omega.{arith}
use Rattle.std.proofs.lemmas.Bool.Decides.{nat_tests}
use Rattle.session_loop.proofs.Lines.{line_none, digits_length, ended_length, line_some}
use Rattle.session_loop.proofs.line.write_line.Goals as goal

pub returns-then-is_empty : goal.returns-then-is_empty
returns-then-is_empty c = let all = line_none _ _ _ c.requires (grind (arith, nat_tests)) in record { count = all.0; lent = all.1 }

pub bounds-text-end : goal.bounds-text-end
bounds-text-end c =
    let a = c.args in
    omega (arith, digits_length a.number a.reply.now a.text.now c.requires _ c.encode.ensures)

pub shape_of-text : goal.shape_of-text
shape_of-text c =
    let a = c.args in
    ended_length a.number a.reply.now a.text.now c.requires _ _ _ c.encode.ensures

pub returns : goal.returns
returns c = let all = line_some _ _ _ c.requires _ (λ h. grind (arith, nat_tests)) c.encode.ensures in record { count = all.0; lent = all.1 }
