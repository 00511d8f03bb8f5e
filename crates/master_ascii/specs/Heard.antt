-- What an ASCII text answers: "a reply must fill its slice exactly, with the shape, check and hex above .. Else 14". Assumes nothing.
use Rattle.std.specs.Prelude.{Bool, List, [], ℕ, ◌-◌, eqb, length, get_or, None}
use Rattle.base.specs.Choice.{pick, both}
use Rattle.modbus.specs.Request.{between}
use Rattle.ascii.specs.Ascii.{bytes_in, formed, address_among, unit_among}
use Rattle.master_reply.specs.declared.Heard.{Heard}
use Rattle.master_reply.specs.Reply.{heard, heard_of}

-- the text is one message of the line
unfoldable pub ascii_heard : List ℕ → Heard
ascii_heard text = pick (formed text) (heard_of (address_among (bytes_in text)) (unit_among (bytes_in text))) (heard None [])

-- the first test of it: `:`, and CR LF behind k pairs, "k from 3 to 255"
unfoldable pub framed : List ℕ → Bool
framed text =
    both (between 9 513 (length text))
    (both (eqb (get_or text 0 0) 0x3A) (both (eqb (get_or text (length text - 2) 0) 0x0D) (eqb (get_or text (length text - 1) 0) 0x0A)))
