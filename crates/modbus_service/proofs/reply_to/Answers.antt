-- `modbus_service::reply_to` meets its contract: a broadcast gets none; else a law for each answer. Assumes nothing.
use Rattle.base.proofs.Tests.{tests}
use Rattle.modbus_service.specs.Reply.{replied_by}
use Rattle.modbus_service.proofs.Laws.{replied_told, replied_written, replied_part, replied_none, replied_refused}
use Rattle.modbus_service.proofs.reply_to.Goals as goal

pub returns-then-address-eq0 : goal.returns-then-address-eq0
unfolding replied_by
returns-then-address-eq0 c = search tests

pub returns-in-Told : goal.returns-in-Told
unfolding replied_by
returns-in-Told c = search replied_told

pub returns-in-Written : goal.returns-in-Written
unfolding replied_by
returns-in-Written c = search replied_written

pub returns-in-Identified : goal.returns-in-Identified
unfolding replied_by
returns-in-Identified c = search replied_part

pub returns-in-NotOurs : goal.returns-in-NotOurs
unfolding replied_by
returns-in-NotOurs c = search replied_none

pub returns-in-Refused : goal.returns-in-Refused
unfolding replied_by
returns-in-Refused c = search replied_refused
