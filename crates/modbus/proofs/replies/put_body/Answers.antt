-- `modbus::replies::put_body` meets its contract: the unit is written through the part of the slice from its second byte on, so after that loan
-- the whole slice has the address and the unit stored from its start. Of a slice of no bytes there is no such part. Assumes nothing.
use mathlib.Core.Path.{◌≡◌, sym, ◌∙◌}
use borrow.Author.Tests.{eqb-true, eqb-false}
use lib.ListN.{length}
use Rattle.modbus.proofs.Units.{body_fits, part_fits, short_fits, body_none, part_told_behind, part_stored_behind, short_told_behind, short_stored_behind}
use Rattle.modbus.proofs.replies.put_body.Goals as goal

pub overflow_add-result : goal.overflow_add-result
overflow_add-result c = search body_fits

pub returns-then-is_empty-clause-lent : goal.returns-then-is_empty-clause-lent
returns-then-is_empty-clause-lent c =
    let none : length c.args.reply.now ≡ 0 = eqb-true (length c.args.reply.now) 0 (sym c.is_empty.ensures ∙ c.if-is_empty.true) in
    search body_none

pub overflow_add-result-in-Identity : goal.overflow_add-result-in-Identity
overflow_add-result-in-Identity c = search part_fits

pub returns-in-Identity : goal.returns-in-Identity
returns-in-Identity c =
    let some : length c.args.reply.now ≡ 0 → ⊥ = eqb-false (length c.args.reply.now) 0 (sym c.is_empty.ensures ∙ c.if-is_empty.false) in
    search (part_told_behind, part_stored_behind)

pub overflow_add-result-2 : goal.overflow_add-result-2
overflow_add-result-2 c = search short_fits

pub returns : goal.returns
returns c =
    let some : length c.args.reply.now ≡ 0 → ⊥ = eqb-false (length c.args.reply.now) 0 (sym c.is_empty.ensures ∙ c.if-is_empty.false) in
    search (c.in_default.not-Identity, short_told_behind, short_stored_behind)
