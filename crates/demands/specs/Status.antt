-- The word that is kept: "The display asks for drive status twenty times a second. .. The word is stored, and after every message, event, tick and restart it is what the rules
-- say it should be." (Document 02, request 6.) Read aloud: take any card whose stored word is right, sound or not. Whatever comes to it next, a call on bytes, a restart or an event of
-- the host, refused ones too, the word is right in the card that is left; and start's is right. So whoever reads register 0258h, whatever came before, is told the word of the
-- rules at that moment. (A host that puts other bits into the state owns them.) "Demands 2 and 3 count it in the state": they speak of whole cards. Assumes nothing.
use Rattle.std.specs.Prelude.{◌≡◌, ℕ}
use Rattle.table.specs.Names.{Drive-Status}
use Rattle.table.specs.Find.{row_of_span}
use Rattle.identity.specs.Identity.{Identity}
use Rattle.drive.specs.Plant.{Plant, Sized}
use Rattle.drive.specs.Status.{Right}
use Rattle.permit.specs.Permit.{permit_number, permit_of}
use Rattle.card.specs.State.{started, restarted}
use Rattle.card.specs.declared.state.Card.{Card}
use Rattle.card.specs.declared.state.Protocol as Protocols
use Rattle.demands.specs.Calls.{Step, Run}
use Rattle.demands.specs.Kept.{SoundIdentity, Sound}
use Rattle.demands.specs.Effects.{row, Tells, DriveStatus}

-- whoever reads Drive Status is told the word that the rules say of the card
abbrev pub ToldRight : Card → Type 0
ToldRight c = (w : ℕ) × DriveStatus c.plant w × Tells c Drive-Status w

pub record StatusKept : Type 0 where
  -- "register 0258h"
  pub register : row_of_span 0x0258 1 ≡ row Drive-Status
  -- "Refusals: 3 on a write", whatever the card and the word
  pub write : (p : Plant) (w : ℕ) → permit_number (permit_of p Drive-Status w) ≡ 3
  pub start : (protocol : Protocols.Protocol) (i : Identity) → Right (started protocol i).plant
  pub each : (c d : Card) → Step c d → Right c.plant → Right d.plant
  -- a restart makes it right, whatever it was
  pub restart : (c : Card) → Sized c.plant → Right (restarted c).plant
  -- after any run of calls and events
  pub told : (c d : Card) → Sound c → Right c.plant → Run c d → ToldRight d
  -- and so, from start on, always
  pub always : (protocol : Protocols.Protocol) (i : Identity) → SoundIdentity i → (c : Card) → Run (started protocol i) c → ToldRight c
