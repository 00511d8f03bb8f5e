-- What came of a call that took a message, whatever its protocol: the card is what one of the things that a message can come to leaves. Assumes nothing.
use mathlib.Core.Path.{◌≡◌, refl, ap}
use mathlib.Core.Logic.{◌≢◌}
use mathlib.Core.Bool.{Bool, true, false, false≢true}
use mathlib.Core.List.{List}
use Prim.Native.Nat.{ℕ, ◌≤◌}
use native.Mathlib.Omega.{arith}
use borrow.Author.Tests.{eqb-false}
use lib.Dec.{eqb, ltb}
use Rattle.base.specs.Buffers.{rtu_least}
use Rattle.base.proofs.Tests.{pick_both}
use Rattle.answers.specs.declared.Answer.{Answer}
use Rattle.answers.specs.Answer.{answer_number}
use Rattle.service.specs.Serving.{Served}
use Rattle.pending.specs.declared.Pending.{Pending}
use Rattle.card.specs.State.{protocol_of}
use Rattle.card.specs.declared.state.Card.{Card}
use Rattle.card.specs.Outcome.{outcome_number}
use Rattle.card.specs.declared.outcome.Outcome.{Outcome}
use Rattle.card.specs.declared.outcome.Outcome.TheVariants as Outcomes
use Rattle.pending.specs.Scanning.{scan_from}
use Rattle.turn.specs.Turn.{Received, waiting, card_after}
use Rattle.turn.specs.Stream.{Stream, streamed}
use Rattle.rtu.specs.Rtu.{frame_holds, address_in, unit_in}
use Rattle.modbus_service.specs.Reply.{exchanged}
use Rattle.nfo_port.specs.Receive.{nfo_stream, nfo_received}
use Rattle.rtu_port.specs.Receive.{rtu_received}
use Rattle.ascii_port.specs.Receive.{ascii_stream, ascii_received}
use Rattle.receive.specs.Receive.{received}
use Rattle.demands.proofs.Serving.{Came, nfo_came, modbus_came}
use Rattle.demands.proofs.Leaving.{answer_most}
use Rattle.demands.proofs.Ears.{one_answer}

-- ---- what came of a call that took a message
pub record CameOf (c : Card) (x : Answer) (r : Received) : Type 0 where
  pub nfo : Bool
  pub serial : nfo ≡ true → (protocol_of c ≢ 1) × (protocol_of c ≢ 2)
  pub pending : Pending
  pub served : Served
  pub came : Came c.plant c.port.numbers nfo served
  pub answer : served.answer ≡ x
  pub card : r.card ≡ card_after c.identity pending served

abbrev Comes : Card → Answer → Received → Type 0
Comes c x r = r.outcome ≡ Outcomes.Served x → CameOf c x r

-- an outcome from 10 on is no message's
no_message : (o : Outcome) (x : Answer) → 10 ≤ outcome_number o → o ≡ Outcomes.Served x → ⊥
no_message o x h e = let n : outcome_number o ≡ answer_number x = ap outcome_number e in omega (arith, h, n, answer_most x)

module _ (c : Card) (bytes : List ℕ) (room : ℕ) (x : Answer) where
  stream_comes : (S : Stream) (nfo : Bool) → (nfo ≡ true → (protocol_of c ≢ 1) × (protocol_of c ≢ 2)) → ((h : Pending) → Came c.plant c.port.numbers nfo (S.served c h))
      → Comes c x (streamed S c bytes room)
  unfolding waiting
  stream_comes S nfo serial came =
      pick_both (Comes c x) (ltb room S.least) (λ _ e. absurd (no_message _ x (omega arith) e))
      (λ _. pick_both (Comes c x) (scan_from S.feeding c.port.pending 0 bytes).taken
      (λ _ e.
      let h : Pending = (scan_from S.feeding c.port.pending 0 bytes).pending in
      record { nfo = nfo; serial = serial; pending = h; served = S.served c h; came = came h; answer = one_answer _ x _ refl e; card = refl })
      (λ _ e. absurd (no_message _ x (omega arith) e)))

  rtu_comes : Comes c x (rtu_received c bytes room)
  unfolding rtu_received exchanged
  rtu_comes =
      pick_both (Comes c x) (ltb room rtu_least) (λ _ e. absurd (no_message _ x (omega arith) e))
      (λ _. pick_both (Comes c x) (frame_holds bytes)
      (λ _ e.
      record {
        nfo = false;
        serial = λ t. absurd (false≢true t);
        pending = c.port.pending;
        served = _;
        came = modbus_came c.plant c.port.numbers (address_in bytes) (unit_in bytes);
        answer = one_answer _ x _ refl e;
        card = refl;
      })
      (λ _ e. absurd (no_message _ x (omega arith) e)))

  pub comes : Comes c x (received c bytes room)
  unfolding received nfo_received ascii_received exchanged
  comes =
      pick_both (Comes c x) (eqb (protocol_of c) 1) (λ _. rtu_comes)
      (λ n1. pick_both (Comes c x) (eqb (protocol_of c) 2)
      (λ _. stream_comes ascii_stream false (λ t. absurd (false≢true t)) (λ h. modbus_came c.plant c.port.numbers _ _))
      (λ n2. stream_comes nfo_stream true (λ _. (eqb-false (protocol_of c) 1 n1, eqb-false (protocol_of c) 2 n2)) (λ h. nfo_came c.plant c.port.numbers _)))
