-- What the host's plain numbers say, and what restart and the events leave in its memory. An event is lent the parts of the card that it touches; its promise is
-- that of the method, of the whole card, whatever the other parts are. Assumes nothing.
use Rattle.std.specs.Prelude.{◌≡◌, Bool, not, List, ℕ, eqb}
use Rattle.base.specs.Choice.{pick}
use Rattle.identity.specs.Identity.{Identity}
use Rattle.drive.specs.Plant.{Plant}
use Rattle.pending.specs.declared.Pending.{Pending}
use Rattle.card.specs.Outcome.{outcome_number}
use Rattle.card.specs.State.{card_of, restarted}
use Rattle.card.specs.declared.events.After.{After}
use Rattle.card.specs.declared.state.Card.{Card}
use Rattle.card.specs.declared.state.Port.{Port}
use Rattle.card.specs.declared.state.Protocol.{Protocol}
use Rattle.card.specs.declared.state.Protocol.TheVariants.{Nfo, Rtu, Ascii}

-- "The protocol of a port is chosen at start": 1 Modbus RTU, 2 Modbus ASCII, any other number NFO serial, as the number in the port is read
unfoldable pub protocol_of : ℕ → Protocol
protocol_of n = pick (eqb n 1) Rtu (pick (eqb n 2) Ascii Nfo)

-- DIN1 is inactive by 0, and active by any other number
unfoldable pub active_of : ℕ → Bool
active_of n = not (eqb n 0)

-- what an event leaves: the card k, and the outcome by document 01's number
abbrev pub Leaves : After → Card → ℕ → Type 0
Leaves a k number = (k ≡ a.card) × (number ≡ outcome_number a.outcome)

-- an event that touches the plant alone, whatever the port and the identity are
abbrev pub OnPlant : (Card → After) → (before after : Plant) → ℕ → Type 0
OnPlant event before after number =
    (port : Port) (i : Identity) → Leaves (event (record { port = port; plant = before; identity = i })) (record { port = port; plant = after; identity = i }) number

-- an event that touches the port's numbers and the plant, whatever is pending and the identity is
abbrev pub OnPort : (Card → After) → (q p y x : List ℕ) → ℕ → Type 0
OnPort event q p y x number =
    (pending : Pending) (i : Identity)
    → Leaves (event (record { port = record { pending = pending; numbers = q }; plant = p; identity = i })) (record { port = record { pending = pending; numbers = y }; plant = x; identity = i }) number

-- a restart, whatever bytes the array holds and the identity is
abbrev pub Restarts : ℕ → (q p : List ℕ) → ℕ → (y x : List ℕ) → Type 0
Restarts len q p n y x = (held : List ℕ) (i : Identity) → card_of held n y x i ≡ restarted (card_of held len q p i)
