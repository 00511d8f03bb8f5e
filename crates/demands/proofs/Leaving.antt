-- What a call leaves, by its number. Assumes nothing.
use Rattle.std.proofs.Common.{Option, None}
use mathlib.Core.Path.{◌≡◌, refl, ap, ◌∙◌}
use mathlib.Core.Logic.{inl, inr}
use mathlib.Core.Bool.{Bool, true, false, true≢false}
use mathlib.Core.List.{List, [], ◌∷◌}
use Prim.Native.Nat.{ℕ, ◌+◌, ◌≤◌}
use native.Mathlib.Omega.{arith}
use lib.Dec.{eqb, ltb}
use lib.ListN.{length, get_or}
use Rattle.base.specs.Buffers.{rtu_least}
use Rattle.base.specs.Choice.{pick}
use Rattle.base.proofs.Tests.{pick_both}
use Rattle.port.specs.Port.{Numbers}
use Rattle.drive.specs.Plant.{Plant}
use Rattle.table.specs.declared.labels.Row.{Row}
use Rattle.answers.specs.declared.Answer.{Answer}
use Rattle.answers.specs.declared.Answer.TheVariants.{Told, Written, Identified, NotOurs, Refused}
use Rattle.answers.specs.declared.Refusal.{Refusal}
use Rattle.answers.specs.declared.Refusal.TheVariants as Refusals
use Rattle.answers.specs.Answer.{refusal_number, answer_number}
use Rattle.service.specs.Serving.{Served, keeping, told_served}
use Rattle.service.proofs.Laws.{wrote_keeps}
use Rattle.pending.specs.declared.Pending.{Pending}
use Rattle.pending.specs.Held.{held}
use Rattle.pending.specs.Scanning.{Scan, Feeding, scan_from}
use Rattle.pending.proofs.Laws.{held_emptied}
use Rattle.nfo_parts.specs.Parts.{message_of}
use Rattle.nfo_parts.specs.declared.message.Message.{Message}
use Rattle.nfo_service.specs.Serve as Nfo
use Rattle.nfo_service.specs.Reply as NfoReply
use Rattle.card.specs.State.{protocol_of, card_sum}
use Rattle.card.specs.declared.state.Card.{Card}
use Rattle.rtu.specs.Rtu.{frame_holds, address_in, unit_in}
use Rattle.ascii.specs.Ascii.{bytes_in, unit_among}
use Rattle.modbus_service.specs.Serve as Modbus
use Rattle.modbus_service.specs.Reply as ModbusReply
use Rattle.modbus_service.proofs.Laws.{served_keeps}
use Rattle.turn.specs.Turn.{Received, too_short, waiting, card_after, answered}
use Rattle.turn.specs.Stream.{Stream, streamed}
use Rattle.nfo_port.specs.Receive.{nfo_stream, nfo_received}
use Rattle.rtu_port.specs.Receive as Rtu
use Rattle.ascii_port.specs.Receive.{reply_text, ascii_stream, ascii_received}
use Rattle.receive.specs.Receive.{received}
use Rattle.demands.specs.Orders.{scan_of}
use Rattle.demands.specs.Demand1.{Leaves}
use Rattle.demands.specs.Calls.{besides}
use Rattle.demands.proofs.Serving.{nfo_each}
use Rattle.demands.proofs.Numbered.{served_number}
use Rattle.modbus.specs.declared.replies.Answer as Units

-- ---- serving: a number other than 0 changes nothing
module _ (p : Plant) (q : Numbers) where
  abbrev Keeps : Served → Type 0
  Keeps s = (served_number s ≡ 0 → ⊥) → s ≡ keeping p q s.answer

  tells : (row : Row) → Keeps (told_served p q row)
  unfolding told_served
  tells row n = absurd (n refl)

  nfo_keeps : (m : Message) → Keeps (Nfo.served p q m)
  nfo_keeps = nfo_each Keeps p q (λ a n. refl) tells (wrote_keeps p q) (λ row w n. absurd (n refl))

-- ---- outcome 1 has no reply
nfo_silent : (m : Message) (x : Answer) → x ≡ NotOurs → NfoReply.replied m x ≡ []
unfolding NfoReply.replied NfoReply.replied_by
nfo_silent m x e = rw e (pick_both (λ (l : List ℕ). l ≡ []) (eqb (NfoReply.adr_in m) 0x7F) (λ _. refl) (λ _. refl))

modbus_silent : (a : ℕ) (u : List ℕ) (x : Answer) → x ≡ NotOurs → ModbusReply.replied a u x ≡ None
unfolding ModbusReply.replied ModbusReply.replied_by
modbus_silent a u x e = rw e (pick_both (λ (y : Option Units.Answer). y ≡ None) (Modbus.to_all a) (λ _. refl) (λ _. refl))

-- ---- the cases of a call
pub refusal_within : (x : Refusal) → (2 ≤ refusal_number x) × (refusal_number x ≤ 9)
refusal_within Refusals.NoRow = (omega arith, omega arith)
refusal_within Refusals.ReadOnly = (omega arith, omega arith)
refusal_within Refusals.NotAllowed = (omega arith, omega arith)
refusal_within Refusals.FlagStands = (omega arith, omega arith)
refusal_within Refusals.Running = (omega arith, omega arith)
refusal_within Refusals.NotPermitted = (omega arith, omega arith)
refusal_within Refusals.Malformed = (omega arith, omega arith)
refusal_within Refusals.NoFunction = (omega arith, omega arith)

-- the number of a message is 9 at most
pub answer_most : (x : Answer) → answer_number x ≤ 9
answer_most (Told row w) = omega arith
answer_most (Written change) = omega arith
answer_most (Identified part) = omega arith
answer_most NotOurs = omega arith
answer_most (Refused x) = (refusal_within x).1

module _ (c : Card) (count : ℕ) where
  short_leaves : Leaves c count (too_short c)
  short_leaves =
      record {
        short = λ e. (refl, refl, refl);
        spoilt = λ e. absurd (omega (arith, e));
        waiting = λ e. absurd (omega (arith, e));
        other = λ e. absurd (omega (arith, e));
        refused = λ l h. absurd (omega (arith, h));
        done = λ e. absurd (omega (arith, e));
        listed = inl (omega arith);
      }

  spoilt_leaves : Leaves c count (Rtu.spoilt c count)
  spoilt_leaves =
      record {
        short = λ e. absurd (omega (arith, e));
        spoilt = λ e. (refl, refl, refl);
        waiting = λ e. absurd (omega (arith, e));
        other = λ e. absurd (omega (arith, e));
        refused = λ l h. absurd (omega (arith, h));
        done = λ e. absurd (omega (arith, e));
        listed = inl (omega arith);
      }

  waiting_leaves : (scan : Scan) → scan.used ≡ count → Leaves c count (waiting c scan)
  unfolding waiting
  waiting_leaves scan all =
      record {
        short = λ e. absurd (omega (arith, e));
        spoilt = λ e. absurd (omega (arith, e));
        waiting = λ e. (refl, all, refl);
        other = λ e. absurd (omega (arith, e));
        refused = λ l h. absurd (omega (arith, h));
        done = λ e. absurd (omega (arith, e));
        listed = inr refl;
      }

  module _ (pending : Pending) (used : ℕ) (reply : List ℕ) where
    abbrev one : Served → Received
    one s = answered c.identity pending used s reply

    one_leaves : (s : Served) → served_number s ≤ 9 → (served_number s ≡ 1 → (besides (one s).card ≡ besides c) × (reply ≡ []))
        → (2 ≤ served_number s → besides (one s).card ≡ besides (card_sum 0 c)) → Leaves c count (one s)
    unfolding card_after
    one_leaves s most other refused =
        record {
          short = λ e. absurd (omega (arith, e, most));
          spoilt = λ e. absurd (omega (arith, e, most));
          waiting = λ e. absurd (omega (arith, e, most));
          other = λ e. ((other e).0, held_emptied pending, (other e).1);
          refused = λ l h. (refused l, held_emptied pending);
          done = λ e. held_emptied pending;
          listed = inl (omega (arith, most));
        }

    by_answer : (p : Plant) (q : Numbers) (x : Answer) → Keeps c.plant c.port.numbers (keeping p q x) → (x ≡ NotOurs → reply ≡ []) → Leaves c count (one (keeping p q x))
    unfolding card_after
    by_answer p q (Told row w) k n = one_leaves (keeping p q (Told row w)) (omega arith) (λ h. absurd (omega (arith, h))) (λ h. absurd (omega (arith, h)))
    by_answer p q (Written change) k n = one_leaves (keeping p q (Written change)) (omega arith) (λ h. absurd (omega (arith, h))) (λ h. absurd (omega (arith, h)))
    by_answer p q (Identified part) k n = one_leaves (keeping p q (Identified part)) (omega arith) (λ h. absurd (omega (arith, h))) (λ h. absurd (omega (arith, h)))
    by_answer p q NotOurs k n =
        one_leaves (keeping p q NotOurs) (omega arith) (λ _. (ap (λ (s : Served). besides (one s).card) (k (λ h. absurd (omega (arith, h)))), n refl)) (λ h. absurd (omega (arith, h)))
    by_answer p q (Refused x) k n =
        let w = refusal_within x in
        one_leaves (keeping p q (Refused x)) w.1 (λ h. absurd (omega (arith, h, w.0)))
        (λ _. ap (λ (s : Served). besides (one s).card) (k (λ h. absurd (omega (arith, h, w.0)))))

    taken_leaves : (s : Served) → Keeps c.plant c.port.numbers s → (s.answer ≡ NotOurs → reply ≡ []) → Leaves c count (one s)
    taken_leaves s = by_answer s.plant s.port s.answer

-- ---- a call of each protocol
scan_all : (G : Feeding) (s : List ℕ) (p : Pending) (n : ℕ) → (scan_from G p n s).taken ≡ false → (scan_from G p n s).used ≡ n + length s
unfolding scan_from
scan_all G [] p n e = omega arith
scan_all G (b ∷ s) p n e = go (G.ends p b) e (scan_all G s (G.next p b) (n + 1))
  where
    go : (t : Bool) → (pick t (record { pending = G.next p b; used = n + 1; taken = true }) (scan_from G (G.next p b) (n + 1) s)).taken ≡ false
        → ((scan_from G (G.next p b) (n + 1) s).taken ≡ false → (scan_from G (G.next p b) (n + 1) s).used ≡ n + 1 + length s)
        → (pick t (record { pending = G.next p b; used = n + 1; taken = true }) (scan_from G (G.next p b) (n + 1) s)).used ≡ n + length (b ∷ s)
    go true e ih = absurd (true≢false e)
    go false e ih = omega (arith, ih e)

module _ (c : Card) (bytes : List ℕ) (room : ℕ) where
  abbrev Q : Received → Type 0
  Q r = Leaves c (length bytes) r

  stream_leaves : (S : Stream) → ((q : Pending) → Keeps c.plant c.port.numbers (S.served c q)) → ((q : Pending) → (S.served c q).answer ≡ NotOurs → S.reply c q ≡ [])
      → Leaves c (length bytes) (streamed S c bytes room)
  stream_leaves S keeps silent =
      let scan : Scan = scan_of S.feeding c bytes in
      pick_both Q (ltb room S.least) (λ _. short_leaves c (length bytes))
      (λ _. pick_both Q scan.taken
      (λ _. taken_leaves c (length bytes) scan.pending scan.used (S.reply c scan.pending) (S.served c scan.pending) (keeps scan.pending) (silent scan.pending))
      (λ e. waiting_leaves c (length bytes) scan (scan_all S.feeding bytes c.port.pending 0 e ∙ omega arith)))

  rtu_leaves : Leaves c (length bytes) (Rtu.rtu_received c bytes room)
  unfolding Rtu.rtu_received ModbusReply.exchanged
  rtu_leaves =
      pick_both Q (ltb room rtu_least) (λ _. short_leaves c (length bytes))
      (λ _. pick_both Q (frame_holds bytes)
      (λ _. taken_leaves c (length bytes) c.port.pending (length bytes) (Rtu.frame_of c.identity (address_in bytes) (Rtu.exchange_on c bytes).reply) (Rtu.exchange_on c bytes).served
      (served_keeps c.plant c.port.numbers (address_in bytes) (unit_in bytes))
      (λ e. ap (Rtu.frame_of c.identity (address_in bytes)) (modbus_silent (address_in bytes) (unit_in bytes) _ e)))
      (λ _. spoilt_leaves c (length bytes)))

  ascii_leaves : Leaves c (length bytes) (ascii_received c bytes room)
  unfolding ascii_received ModbusReply.exchanged
  ascii_leaves =
      stream_leaves ascii_stream
      (λ q. served_keeps c.plant c.port.numbers (get_or (bytes_in (held q)) 0 0) (unit_among (bytes_in (held q))))
      (λ q e. ap (reply_text c.identity (get_or (bytes_in (held q)) 0 0)) (modbus_silent (get_or (bytes_in (held q)) 0 0) (unit_among (bytes_in (held q))) _ e))

  serial_leaves : Leaves c (length bytes) (nfo_received c bytes room)
  unfolding nfo_received
  serial_leaves = stream_leaves nfo_stream (λ q. nfo_keeps c.plant c.port.numbers (message_of q.bytes)) (λ q e. nfo_silent (message_of q.bytes) _ e)

  pub received_leaves : Leaves c (length bytes) (received c bytes room)
  unfolding received
  received_leaves = pick_both Q (eqb (protocol_of c) 1) (λ _. rtu_leaves) (λ _. pick_both Q (eqb (protocol_of c) 2) (λ _. ascii_leaves) (λ _. serial_leaves))
