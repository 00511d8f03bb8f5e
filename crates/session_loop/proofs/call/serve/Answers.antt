-- `session_loop::serve` meets its contract: the reply stands at the start of its buffer, and only an outcome from 0 to 9 has a line. Assumes nothing.
use Rattle.std.proofs.Common.{arith, ℕ, length-take, ◌≤◌}
use Rattle.card.specs.State.{protocol_of}
use Rattle.receive.proofs.Laws.{least_most}
use Rattle.session_loop.proofs.Lines.{serve_none, serve_line, line_length}
use Rattle.session_loop.proofs.call.serve.Goals as goal

pub returns-then-number-le9 : goal.returns-then-number-le9
returns-then-number-le9 c =
    let m = c.receive_on-turn in
    let w = c.write_line-line in
    let onward = m.ensures.onward (omega (arith, least_most (protocol_of c.args.card.now))) in
    let line : w.result ≤ 306 = omega (arith, line_length, length-take {A = ℕ}) in
    let all = serve_line _ _ _ _ _ m.result (omega arith) (m.ensures.turn, m.ensures.lent) _ c.number-number.ensures _ _ _ (omega (arith, c.if-number-le9.true)) (w.ensures.count, w.ensures.lent) in
    record { turn = all.0; lent = all.1.0; shown = all.1.1; used = (m.ensures.within, onward); fits = (m.ensures.short, line) }

pub returns-else-number-le9 : goal.returns-else-number-le9
returns-else-number-le9 c =
    let m = c.receive_on-turn in
    let onward = m.ensures.onward (omega (arith, least_most (protocol_of c.args.card.now))) in
    let all = serve_none _ _ _ _ _ m.result (omega arith) (m.ensures.turn, m.ensures.lent) _ c.number-number.ensures c.args.text.now (omega (arith, c.if-number-le9.false)) in
    record { turn = all.0; lent = all.1.0; shown = all.1.1; used = (m.ensures.within, onward); fits = (m.ensures.short, omega arith) }
