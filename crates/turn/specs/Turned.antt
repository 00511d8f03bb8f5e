-- A turn of a card whose parts are lent, wherever they lie. Assumes nothing.
use Rattle.std.specs.Prelude.{List, ℕ}
use Rattle.identity.specs.Identity.{Identity}
use Rattle.port.specs.Port.{Numbers}
use Rattle.drive.specs.Plant.{Plant}
use Rattle.pending.specs.declared.Scanned.{Scanned}
use Rattle.card.specs.State.{card_of}
use Rattle.card.specs.declared.outcome.Outcome.TheVariants as Outcomes
use Rattle.turn.specs.declared.Turn.{Turn}
use Rattle.turn.specs.declared.Turned.{Turned}

-- what a call hands back, with the parts that it was lent and the identity, which no call changes
abbrev pub turn_in : List ℕ → Numbers → Plant → Identity → Turned → Turn
turn_in held q p i t = record { card = card_of held t.pending q p i; outcome = t.outcome; used = t.used; len = t.len }

-- ---- the turns that take no message
abbrev pub short_in : ℕ → Turned
short_in pending = record { pending = pending; outcome = Outcomes.ShortBuffer; used = 0; len = 0 }

abbrev pub waiting_in : Scanned → Turned
waiting_in scan = record { pending = scan.len; outcome = Outcomes.NothingTaken; used = scan.used; len = 0 }
