-- The words that name the protocols. "The protocol of a port is chosen at start". Assumes nothing.
use Rattle.std.specs.Prelude.{List, [], ◌∷◌, ℕ, Option, Some, None}
use Rattle.base.specs.Choice.{pick}
use Rattle.base.specs.Bytes.{same}
use Rattle.card.specs.declared.state.Protocol.{Protocol}
use Rattle.card.specs.declared.state.Protocol.TheVariants.{Nfo, Rtu, Ascii}

-- `nfo`, `rtu`, `ascii`; any other word names nothing
unfoldable pub protocol_named : List ℕ → Option Protocol
protocol_named word =
    pick (same word (0x6E ∷ 0x66 ∷ 0x6F ∷ [])) (Some Nfo)
    (pick (same word (0x72 ∷ 0x74 ∷ 0x75 ∷ [])) (Some Rtu)
    (pick (same word (0x61 ∷ 0x73 ∷ 0x63 ∷ 0x69 ∷ 0x69 ∷ [])) (Some Ascii) None))
