-- What is replied: "ENQUIRY is answered by REPLY, SELECT by ACK, refusals by NAK", a broadcast by nothing. Assumes nothing.
use Rattle.std.specs.Prelude.{List, [], ℕ, ◌%◌, eqb, Option, Some, None}
use Rattle.base.specs.Choice.{pick}
use Rattle.nfo_parts.specs.Replies.{reply_of, ack_of, nak_of}
use Rattle.nfo_parts.specs.declared.message.Message.{Message}
use Rattle.nfo_parts.specs.declared.message.Message.TheVariants.{Enquiry, Select}
use Rattle.answers.specs.declared.Answer.{Answer}
use Rattle.answers.specs.declared.Answer.TheVariants.{Told, Written, Identified, NotOurs, Refused}
use Rattle.nfo_service.specs.Serve.{adr_of}
use Rattle.table.specs.declared.labels.ENumber.{ENumber}

-- ADR and the parameter that a message names
abbrev pub adr_in : Message → ℕ
adr_in (Enquiry adr parameter) = adr
adr_in (Select adr parameter value) = adr

abbrev pub parameter_in : Message → Option ENumber
parameter_in (Enquiry adr parameter) = parameter
parameter_in (Select adr parameter value) = parameter

-- only a row that was named is told
abbrev pub e_number_in : Option ENumber → ℕ
e_number_in (Some e) = e.0
e_number_in None = 0

-- the column NFO. "The reply repeats the request's ADR". No message of NFO serial asks for the identity
unfoldable pub replied_by : ℕ → ℕ → Answer → List ℕ
replied_by adr e (Told row word) = reply_of adr e (word % 0x10000)
replied_by adr e (Written change) = ack_of adr
replied_by adr e (Identified part) = []
replied_by adr e NotOurs = []
replied_by adr e (Refused refusal) = nak_of adr

-- "95 is broadcast: SELECT acts without reply"; "A refused broadcast gets no reply"
unfoldable pub replied : Message → Answer → List ℕ
replied message answer = pick (eqb (adr_in message) (adr_of 95)) [] (replied_by (adr_in message) (e_number_in (parameter_in message)) answer)
