-- A card on NFO serial can be asked: whatever comes to it, its SiAdr stays 1 to 94, and an ENQUIRY of Inv St at SiAdr or at 0 is done. Assumes nothing.
use Rattle.std.proofs.Common.{Some}
use mathlib.Core.Path.{◌≡◌, refl, ap, ◌∙◌}
use mathlib.Core.Bool.{true}
use Prim.Native.Nat.{ℕ, ◌+◌, ◌≤◌, ◌<◌}
use native.Mathlib.Omega.{arith}
use borrow.Author.Tests.{le-leb, ne_eqb}
use lib.ListN.{length}
use Rattle.base.specs.Buffers.{reply_least}
use Rattle.hex_pairs.specs.Hex.{digit_of, hex_of}
use Rattle.table.specs.Names.{Inv-St}
use Rattle.table.specs.Table.{rows}
use Rattle.table.specs.Find.{first_row, row_of_e}
use Rattle.drive.specs.Plant.{si_adr}
use Rattle.card.specs.State.{protocol_of, restarted}
use Rattle.card.specs.Outcome.{outcome_number}
use Rattle.card.specs.declared.state.Card.{Card}
use Rattle.card.specs.declared.outcome.Outcome.TheVariants.{Served}
use Rattle.nfo_parts.specs.Parts.{message_of}
use Rattle.nfo_parts.specs.Replies.{digits_of, reply_of}
use Rattle.nfo_parts.specs.declared.message.Message.{Message}
use Rattle.nfo_parts.specs.declared.message.Message.TheVariants.{Enquiry}
use Rattle.answers.specs.declared.Answer.{Answer}
use Rattle.nfo_service.specs.Serve as Nfo
use Rattle.nfo_service.specs.Reply.{replied_by, replied}
use Rattle.nfo_port.specs.Receive.{nfo_stream}
use Rattle.receive.specs.Receive.{received}
use Rattle.master_nfo.specs.Requests.{enquirable, enquiry_of}
use Rattle.master_nfo.proofs.Heard.{enquiry_formed, enquiry_heard}
use Rattle.demands.specs.Calls.{restart, Run, done, then, nfo_serial, Speaks, NothingPending}
use Rattle.demands.specs.Kept.{OwnAddress, Healed}
use Rattle.demands.specs.Demand1.{TakesIt}
use Rattle.demands.specs.Reached.{AnswersTo, Reached}
use Rattle.demands.proofs.Allowing.{si_adr_lem}
use Rattle.demands.proofs.Addressed.{healed_never, healed_own, run_at, run_own}
use Rattle.demands.proofs.Asking.{tale, taken_alone, enquiry_told, to_us_0, to_us_si_adr}
use Rattle.demands.proofs.Each.{step_protocol}
use Rattle.demands.proofs.Host.{restarted_address}
use Rattle.demands.proofs.Kept.{kept}
use Rattle.demands.proofs.Streamed.{nfo_streamed}

-- the port's protocol stays
run_speaks : (c d : Card) → Run c d → protocol_of d ≡ protocol_of c
run_speaks c d done = refl
run_speaks c d (then {d = e} step later) = run_speaks e d later ∙ step_protocol c e step

-- ---- an ENQUIRY of Inv St, at an address that is ours
module _ (d : Card) (speaks : Speaks nfo_serial d) (a : ℕ) (low : a < 95) (us : Nfo.to_us d.plant (a + 32) ≡ true) where
  abbrev asked : Message
  asked = Enquiry (a + 32) (Some (record { 0 = 0xE9 }))

  abbrev status : Answer
  status = tale d.plant d.port.numbers Inv-St

  -- it tells Inv St
  told : (Nfo.served d.plant d.port.numbers asked).answer ≡ status
  unfolding row_of_e first_row rows
  told = enquiry_told d.plant d.port.numbers Inv-St (a + 32) 0xE9 us refl

  -- "REPLY, 14 bytes"
  fourteen : length (replied asked status) ≡ 14
  unfolding replied replied_by reply_of digits_of hex_of
  fourteen = rw (ne_eqb (a + 32) 127 (λ e. omega (arith, e, low)))

  heard : message_of (enquiry_of a 0xE9) ≡ asked
  heard = enquiry_heard a 0xE9 (omega arith)

  taken : (room : ℕ) → 19 ≤ room → NothingPending d → TakesIt nfo_serial d (record { place = 0; bytes = enquiry_of a 0xE9 }) (received d (enquiry_of a 0xE9) room)
  unfolding reply_least
  taken room enough none =
      taken_alone nfo_serial nfo_stream nfo_streamed d speaks none (enquiry_of a 0xE9) (enquiry_formed a 0xE9 (omega (arith, low))) room (rw speaks enough)

  answers_at : AnswersTo d a
  unfolding enquiry_of digits_of hex_of digit_of
  answers_at none room enough =
      let t = taken room enough none in (
        ap outcome_number (t.outcome ∙ ap (λ m. Served (Nfo.served d.plant d.port.numbers m).answer) heard ∙ ap Served told),
        ap length t.reply ∙ ap (λ m. length (replied m (Nfo.served d.plant d.port.numbers m).answer)) heard ∙ ap (λ x. length (replied asked x)) told ∙ fourteen,
      )

-- its own address is one that can be asked
own : (d : Card) → OwnAddress (si_adr d.plant) → Nfo.to_us d.plant (si_adr d.plant + 32) ≡ true
unfolding enquirable
own d near = to_us_si_adr d.plant (rw (le-leb (si_adr d.plant) 95 (omega (arith, near.1)), ne_eqb (si_adr d.plant) 95 (λ e. omega (arith, e, near.1))))

pub reached : Reached
reached =
    record {
      answers = λ c d speaks near run.
          let then-near : OwnAddress (si_adr d.plant) = run_own c d run near in
          let then-speaks : Speaks nfo_serial d = run_speaks c d run ∙ speaks in
          (answers_at d then-speaks (si_adr d.plant) (omega (arith, then-near.1)) (own d then-near), answers_at d then-speaks 0 (omega arith) (to_us_0 d.plant));
      heals = λ c sized speaks most. (step_protocol c (restarted c) restart ∙ speaks, rw (restarted_address c sized) (healed_own (si_adr c.plant) most));
      never = λ c d sized run.
          run_at Healed (λ p w can. let (least, most) = si_adr_lem p w can in (λ e. omega (arith, e, least), λ e. omega (arith, e, most))) (λ a _. healed_never a)
          (restarted c) d run (kept.address.restart c sized);
    }
