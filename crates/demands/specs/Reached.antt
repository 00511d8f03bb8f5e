-- A card that can be asked: "A helper set SiAdr to 95 and the pump house went silent, since all that comes to 95 is broadcast." (Document 02, request 4.) Read aloud: take
-- any card on NFO serial whose SiAdr is 1 to 94, and let anything come to it: messages, other bytes, restarts, and what the host tells. Whoever then asks it for Inv St, once
-- nothing is pending, is answered: at the address that it has at that moment, and at 0. Assumes nothing.
use Rattle.std.specs.Prelude.{◌≡◌, ℕ, ◌≤◌, length}
use Rattle.drive.specs.Plant.{Sized, si_adr}
use Rattle.card.specs.State.{restarted}
use Rattle.card.specs.Outcome.{outcome_number}
use Rattle.card.specs.declared.state.Card.{Card}
use Rattle.turn.specs.Turn.{Received}
use Rattle.receive.specs.Receive.{received}
use Rattle.demands.specs.Calls.{Run, nfo_serial, Speaks, NothingPending, asks_status}
use Rattle.demands.specs.Kept.{OwnAddress, Healed}

-- done, and "REPLY, 14 bytes"
abbrev pub Replied : Received → Type 0
Replied r = (outcome_number r.outcome ≡ 0) × (length r.reply ≡ 14)

-- whoever asks the card for Inv St at this address, once nothing is pending, is answered
abbrev pub AnswersTo : Card → ℕ → Type 0
AnswersTo c address = NothingPending c → (room : ℕ) → 19 ≤ room → Replied (received c (asks_status address) room)

pub record Reached : Type 0 where
  -- "We answer to SiAdr and to 0", whatever came before
  pub answers : (c d : Card) → Speaks nfo_serial c → OwnAddress (si_adr c.plant) → Run c d → AnswersTo d (si_adr d.plant) × AnswersTo d 0
  -- a card that holds 0 or 95 from before, or any address of the line, is such a card once it has been restarted,
  pub heals : (c : Card) → Sized c.plant → Speaks nfo_serial c → si_adr c.plant ≤ 95 → Speaks nfo_serial (restarted c) × OwnAddress (si_adr (restarted c).plant)
  -- and from any card at all nothing that comes after a restart makes SiAdr 0 or 95
  pub never : (c d : Card) → Sized c.plant → Run (restarted c) d → Healed (si_adr d.plant)
