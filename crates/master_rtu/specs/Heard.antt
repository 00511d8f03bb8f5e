-- What an RTU frame answers: "a reply must fill its slice exactly, with the shape, check and hex above .. Else 14". Assumes nothing.
use Rattle.std.specs.Prelude.{List, [], ℕ, None}
use Rattle.base.specs.Choice.{pick}
use Rattle.rtu.specs.Rtu.{frame_holds, address_in, unit_in}
use Rattle.master_reply.specs.declared.Heard.{Heard}
use Rattle.master_reply.specs.Reply.{heard, heard_of}

unfoldable pub rtu_heard : List ℕ → Heard
rtu_heard frame = pick (frame_holds frame) (heard_of (address_in frame) (unit_in frame)) (heard None [])
