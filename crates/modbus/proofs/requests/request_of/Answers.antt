-- `modbus::requests::request_of` meets its contract: where the four functions ask something, that is it; a function that is unknown to them is 43, 17 or another. Assumes nothing.
use Rattle.modbus.proofs.Laws.{request_known, request_identify, request_number, request_unknown}
use Rattle.modbus.proofs.requests.request_of.Goals as goal

pub returns-in_default : goal.returns-in_default
returns-in_default c = request_known _ _ c.asked_of-request.ensures c.in_default.not-Unknown

pub returns-in-43 : goal.returns-in-43
returns-in-43 c = search request_identify

pub returns-in-17 : goal.returns-in-17
returns-in-17 c = search request_number

pub returns-in_default-function : goal.returns-in_default-function
returns-in_default-function c = search request_unknown
