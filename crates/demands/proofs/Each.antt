-- What holds of each kind of call holds of every call: a short buffer, a frame that is wrong, nothing taken, or a message served; and so of a tick. So every routine leaves
-- the port's protocol and the identity as they are. Assumes nothing.
use mathlib.Core.Path.{◌≡◌, refl, ◌∙◌}
use mathlib.Core.Logic.{◌≢◌}
use mathlib.Core.List.{List}
use Prim.Native.Nat.{ℕ, ◌+◌}
use borrow.Author.Tests.{eqb-false}
use lib.Dec.{eqb, ltb}
use lib.ListN.{length, get_or}
use Rattle.base.specs.Buffers.{rtu_least}
use Rattle.base.specs.Choice.{either}
use Rattle.base.proofs.Tests.{pick_both}
use Rattle.table.specs.Names.{SioTot}
use Rattle.port.specs.Port.{Numbers, TimeOut, protocol, sum, with_sum}
use Rattle.pending.specs.declared.Pending.{Pending}
use Rattle.pending.specs.Scanning.{Scan, scan_from}
use Rattle.service.specs.Serving.{Served}
use Rattle.card.specs.State.{Core, core_of, protocol_of, restarted}
use Rattle.card.specs.Events.{Ticked, event_on, fault_raised, cause_ended, din1_set, measured_set, port_faulted, parity_told, summed, counted, ticked_in, ticked}
use Rattle.card.specs.declared.state.Card.{Card}
use Rattle.nfo_parts.specs.declared.message.Message.{Message}
use Rattle.nfo_service.specs.Serve as Nfo
use Rattle.modbus_service.specs.Serve as Modbus
use Rattle.modbus_service.specs.Reply.{exchanged}
use Rattle.turn.specs.Turn.{Received, too_short, waiting, card_after, answered}
use Rattle.turn.specs.Stream.{Stream, streamed}
use Rattle.rtu.specs.Rtu.{frame_holds}
use Rattle.nfo_port.specs.Receive.{nfo_stream, nfo_received}
use Rattle.rtu_port.specs.Receive.{spoilt, rtu_received}
use Rattle.ascii_port.specs.Receive.{ascii_stream, ascii_received}
use Rattle.receive.specs.Receive.{received}
use Rattle.demands.specs.Calls.{Step, receive, restart, raise, end, din1, measure, parity, tick}
use Rattle.demands.proofs.Serving.{sum_speaks, sioerr_speaks, after_speaks, nfo_speaks, modbus_speaks}

module _ (c : Card) (bytes : List ℕ) (room : ℕ) where
  -- a message served on this card
  abbrev taken : Pending → ℕ → Served → List ℕ → Received
  taken = answered c.identity

  abbrev by_nfo : Message → Served
  by_nfo m = Nfo.served c.plant c.port.numbers m

  abbrev by_modbus : ℕ → List ℕ → Served
  by_modbus a u = Modbus.served c.plant c.port.numbers a u

  module _ (Q : Received → Type 0) (short : Q (too_short c)) (wrong : Q (spoilt c (length bytes))) (waits : (scan : Scan) → Q (waiting c scan))
      (nfo : (held : Pending) (used : ℕ) (m : Message) (reply : List ℕ) → Q (taken held used (by_nfo m) reply))
      (modbus : (held : Pending) (used a : ℕ) (u reply : List ℕ) → Q (taken held used (by_modbus a u) reply)) where
    stream : (S : Stream) → ((held : Pending) (used : ℕ) → Q (taken held used (S.served c held) (S.reply c held))) → Q (streamed S c bytes room)
    stream S serves =
        let scan : Scan = scan_from S.feeding c.port.pending 0 bytes in
        pick_both Q (ltb room S.least) (λ _. short) (λ _. pick_both Q scan.taken (λ _. serves scan.pending scan.used) (λ _. waits scan))

    pub each : Q (received c bytes room)
    unfolding received nfo_received ascii_received rtu_received exchanged
    each =
        pick_both Q (eqb (protocol_of c) 1)
        (λ _. pick_both Q (ltb room rtu_least) (λ _. short) (λ _. pick_both Q (frame_holds bytes) (λ _. modbus _ _ _ _ _) (λ _. wrong)))
        (λ _. pick_both Q (eqb (protocol_of c) 2) (λ _. stream ascii_stream (λ held used. modbus _ _ _ _ _)) (λ _. stream nfo_stream (λ held used. nfo _ _ _ _)))

  pub same_protocol : protocol_of (received c bytes room).card ≡ protocol_of c
  unfolding waiting card_after
  same_protocol =
      each (λ (r : Received). protocol_of r.card ≡ protocol_of c) refl refl (λ scan. refl)
      (λ held used m reply. after_speaks (by_nfo m).answer (by_nfo m).port ∙ nfo_speaks c.plant c.port.numbers m)
      (λ held used a u reply. after_speaks (by_modbus a u).answer (by_modbus a u).port ∙ modbus_speaks c.plant c.port.numbers a u)

  pub same_identity : (received c bytes room).card.identity ≡ c.identity
  unfolding waiting card_after
  same_identity = each (λ (r : Received). r.card.identity ≡ c.identity) refl refl (λ scan. refl) (λ held used m reply. refl) (λ held used a u reply. refl)

-- ---- a tick: it is refused; SioTot is 0, and so is the sum; a time-out happens; or the sum counts
pub each_tick : (Q : Core → Type 0) (n : ℕ) (c : Card) → Q (core_of c) → Q (summed 0 (core_of c)) → Q (port_faulted TimeOut (summed 0 (core_of c)))
    → (get_or c.plant SioTot 0 ≢ 0 → Q (summed (sum c.port.numbers + n) (core_of c))) → Q (core_of (ticked n c).card)
unfolding ticked ticked_in counted
each_tick Q n c refused off out counts =
    pick_both (λ (t : Ticked). Q t.core) (either (ltb n 1) (ltb 250 n)) (λ _. refused)
    (λ _. pick_both Q (eqb limit 0) (λ _. off) (λ some. pick_both Q (ltb limit (sum c.port.numbers + n)) (λ _. out) (λ _. counts (eqb-false limit 0 some))))
  where
    limit : ℕ
    limit = get_or c.plant SioTot 0

-- ---- what every routine leaves as it is
-- the port's protocol
pub step_protocol : (c d : Card) → Step c d → protocol_of d ≡ protocol_of c
unfolding restarted fault_raised cause_ended event_on din1_set measured_set parity_told port_faulted
step_protocol c d (receive bytes room) = same_protocol c bytes room
step_protocol c d restart = refl
step_protocol c d (raise n) = refl
step_protocol c d (end n) = refl
step_protocol c d (din1 active) = refl
step_protocol c d (measure measured) = refl
step_protocol c d parity = sioerr_speaks _ c.port.numbers
step_protocol c d (tick n) =
    each_tick (λ (k : Core). protocol k.port ≡ protocol_of c) n c refl (sum_speaks 0 q) (sioerr_speaks _ (with_sum 0 q) ∙ sum_speaks 0 q) (λ _. sum_speaks _ q)
  where
    q : Numbers
    q = c.port.numbers

-- the identity
pub step_identity : (c d : Card) → Step c d → d.identity ≡ c.identity
unfolding restarted fault_raised cause_ended event_on din1_set measured_set parity_told ticked
step_identity c d (receive bytes room) = same_identity c bytes room
step_identity c d restart = refl
step_identity c d (raise n) = refl
step_identity c d (end n) = refl
step_identity c d (din1 active) = refl
step_identity c d (measure measured) = refl
step_identity c d parity = refl
step_identity c d (tick n) = refl
