-- The card at start and after a restart. Assumes nothing.
use Rattle.std.specs.Prelude.{List, ℕ}
use Rattle.identity.specs.Identity.{Identity}
use Rattle.port.specs.Port.{Numbers, fresh}
use Rattle.port.specs.Port as Ports
use Rattle.drive.specs.Plant.{Plant}
use Rattle.drive.specs.Plant as Plants
use Rattle.drive.specs.Events as Drive
use Rattle.pending.specs.declared.Pending.{Pending}
use Rattle.pending.specs.Held as Held
use Rattle.card.specs.declared.state.Card.{Card}
use Rattle.card.specs.declared.state.Protocol.{Protocol}
use Rattle.card.specs.declared.state.Protocol.TheVariants.{Nfo, Rtu, Ascii}

-- ---- the parts of a card
-- the card of its parts, wherever they lie: the bytes pending and how many they are, the port's numbers, the plant, the identity
abbrev pub card_of : List ℕ → ℕ → Numbers → Plant → Identity → Card
card_of held len q p i = record { port = record { pending = record { bytes = held; len = len }; numbers = q }; plant = p; identity = i }

-- the card but for its bytes pending and its identity
pub record Core : Type 0 where
  pub port : Numbers
  pub plant : Plant

abbrev pub core_of : Card → Core
core_of c = record { port = c.port.numbers; plant = c.plant }

-- "The protocol of a port is chosen at start": the number that the port has for it
abbrev pub protocol_of : Card → ℕ
protocol_of c = Ports.protocol c.port.numbers

-- ---- the card with one part changed, and all else as it was
abbrev pub with_core : Core → Card → Card
with_core k c = record { port = record { pending = c.port.pending; numbers = k.port }; plant = k.plant; identity = c.identity }

abbrev pub with_pending : Pending → Card → Card
with_pending x c = record { port = record { pending = x; numbers = c.port.numbers }; plant = c.plant; identity = c.identity }

abbrev pub with_plant : Plant → Card → Card
with_plant x c = record { port = c.port; plant = x; identity = c.identity }

abbrev pub card_sum : ℕ → Card → Card
card_sum x c = record { port = record { pending = c.port.pending; numbers = Ports.with_sum x c.port.numbers }; plant = c.plant; identity = c.identity }

-- ---- "The protocol of a port is chosen at start"; the identity is given at start
abbrev pub protocol_number : Protocol → ℕ
protocol_number Nfo = 0
protocol_number Rtu = 1
protocol_number Ascii = 2

unfoldable pub started : Protocol → Identity → Card
started protocol i = record { port = record { pending = Held.empty; numbers = fresh (protocol_number protocol) }; plant = Plants.started; identity = i }

-- "Restart keeps rows 301 to 322, DIN1, causes and measured numbers; .. SioErr and sum 0, nothing pending", but for a SiAdr of 0 or 95 (`healed`); "No message
-- changes the identity", nor does a restart
unfoldable pub restarted : Card → Card
restarted c = record { port = record { pending = Held.emptied c.port.pending; numbers = fresh (protocol_of c) }; plant = Drive.restarted c.plant; identity = c.identity }
