-- A call on bytes from the line: "The protocol of a port is chosen at start, and each call reads its bytes by it". Assumes nothing.
use Rattle.std.specs.Prelude.{List, ℕ, eqb}
use Rattle.base.specs.Choice.{pick}
use Rattle.card.specs.State.{protocol_of}
use Rattle.card.specs.declared.state.Card.{Card}
use Rattle.turn.specs.Turn.{Received}
use Rattle.turn.specs.declared.Turn.{Turn}
use Rattle.turn.specs.declared.Turned.{Turned}
use Rattle.nfo_port.specs.Receive.{nfo_received}
use Rattle.rtu_port.specs.Receive.{rtu_received}
use Rattle.ascii_port.specs.Receive.{ascii_received}

-- by the number in the port: 1 Modbus RTU, 2 Modbus ASCII, else NFO serial, for which `start` puts 0
unfoldable pub received : Card → List ℕ → ℕ → Received
received c bytes room =
    pick (eqb (protocol_of c) 1) (rtu_received c bytes room)
    (pick (eqb (protocol_of c) 2) (ascii_received c bytes room) (nfo_received c bytes room))

-- what a call hands back of a card where it lies, with the card as it is then
abbrev pub turn_on : Card → Turned → Turn
turn_on c t = record { card = c; outcome = t.outcome; used = t.used; len = t.len }
