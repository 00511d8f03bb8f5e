-- A call uses bytes that are there, and one at least where there is one. Assumes nothing.
use Rattle.std.proofs.Common.{◌≡◌, ℕ, ◌<◌, ◌≤◌, List, length, ap, arith}
use Rattle.base.specs.Buffers.{ascii_least}
use Rattle.identity.specs.Identity.{Identity}
use Rattle.port.specs.Port.{Numbers}
use Rattle.drive.specs.Plant.{Plant}
use Rattle.card.specs.State.{protocol_of}
use Rattle.card.specs.declared.state.Card.{Card}
use Rattle.turn.specs.Turn.{turn_of}
use Rattle.turn.specs.Turned.{turn_in}
use Rattle.turn.specs.declared.Turn.{Turn}
use Rattle.turn.specs.declared.Turned.{Turned}
use Rattle.receive.specs.Receive.{received}
use Rattle.receive.proofs.Laws.{received_used, received_uses, least_most}

module _ (c : Card) (bytes : List ℕ) (room : ℕ) (held : List ℕ) (q : Numbers) (p : Plant) (i : Identity) (t : Turned) (turns : turn_in held q p i t ≡ turn_of (received c bytes room)) where
  same_used : t.used ≡ (received c bytes room).used
  same_used = ap (λ (x : Turn). x.used) turns

  pub used_within : t.used ≤ length bytes
  used_within = omega (arith, same_used, received_used c bytes room)

  pub used_some : ascii_least ≤ room → 0 < length bytes → 0 < t.used
  used_some h l = omega (arith, same_used, received_uses c bytes room (omega (arith, least_most (protocol_of c))) l)
