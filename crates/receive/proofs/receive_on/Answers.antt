-- `receive::receive_on` meets its contract: the bytes used and the reply's length are those of the call by its parts. Assumes nothing.
use Rattle.std.proofs.Common.{ap, arith, length}
use Rattle.turn.specs.declared.Turn.{Turn}
use Rattle.receive.proofs.Laws.{received_used, received_uses, received_most}
use Rattle.receive.proofs.receive_on.Goals as goal

pub returns-clause-within : goal.returns-clause-within
returns-clause-within c = omega (arith, ap (λ (x : Turn). x.used) c.receive_in-turned.ensures.turn, received_used c.args.card.now c.args.bytes.now (length c.args.reply.now))

pub returns-clause-onward : goal.returns-clause-onward
returns-clause-onward c =
    let same = ap (λ (x : Turn). x.used) c.receive_in-turned.ensures.turn in
    λ h l. omega (arith, same, received_uses c.args.card.now c.args.bytes.now _ h l)

pub returns-clause-short : goal.returns-clause-short
returns-clause-short c = omega (arith, ap (λ (x : Turn). x.len) c.receive_in-turned.ensures.turn, received_most c.args.card.now c.args.bytes.now (length c.args.reply.now))
