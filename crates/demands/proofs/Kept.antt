-- Each routine keeps a card sound: its plant number by number, and at its port what is pending a beginning, the protocol, and the time sum. Assumes nothing.
use Rattle.std.proofs.Common.{Result}
use mathlib.Core.Path.{◌≡◌, refl, sym, ◌∙◌}
use mathlib.Core.Bool.{Bool, true, not}
use mathlib.Core.List.{List, []}
use Prim.Native.Nat.{ℕ, ◌≤◌}
use native.Mathlib.Omega.{arith}
use borrow.Author.Tests.{not-false, eqb-true, eqb-false}
use lib.Dec.{eqb, ltb}
use lib.ListN.{length, set, length-set}
use lib.Seq.{get_or-set_same, get_or-set_other}
use Rattle.base.specs.Buffers.{rtu_least}
use Rattle.base.proofs.Tests.{pick_both}
use Rattle.table.specs.Names.{Inv-St-ack, Inv-St, SioErr}
use Rattle.table.specs.Table.{rows, start_words}
use Rattle.table.specs.declared.labels.Row.{Row}
use Rattle.identity.specs.Identity.{Identity}
use Rattle.port.specs.Port.{Numbers, ProtocolAt, Sum, Sioerr, protocol, sum, with_sum, with_sioerr}
use Rattle.drive.specs.Plant.{Plant}
use Rattle.drive.specs.Plant as Plants
use Rattle.drive.specs.Status.{flag_stands}
use Rattle.drive.specs.Faults.{without14, stopped}
use Rattle.drive.specs.Events.{raised, ended, with_active, with_measured}
use Rattle.drive.specs.declared.events.Measured.{Measured}
use Rattle.answers.specs.declared.Answer.{Answer}
use Rattle.answers.specs.declared.Answer.TheVariants as Answers
use Rattle.reading.specs.Read.{Told, told}
use Rattle.permit.specs.Refusals.{read_only, allowed, permitted}
use Rattle.permit.specs.Refusals as Refusals
use Rattle.permit.specs.Permit.{permit_of}
use Rattle.service.specs.Write.{after, written}
use Rattle.service.specs.Serving.{Served, told_served, wrote_served}
use Rattle.service.specs.Serving as Serving
use Rattle.stream.specs.Format.{Format, Lawful}
use Rattle.stream.proofs.Reading.{empty_viable}
use Rattle.pending.specs.declared.Pending.{Pending}
use Rattle.pending.specs.Held.{held, Sized}
use Rattle.pending.specs.Scanning.{Scan, scan_from, Follows}
use Rattle.pending.proofs.Laws.{held_empty, held_emptied, sized_empty, sized_emptied}
use Rattle.pending.proofs.Scans.{scan_sized, scan_leaves}
use Rattle.nfo.specs.Message.{nfo}
use Rattle.nfo.proofs.Lawful.{nfo_lawful}
use Rattle.nfo.proofs.Follows.{nfo_follows}
use Rattle.ascii.specs.Ascii.{ascii}
use Rattle.ascii.proofs.Lawful.{ascii_lawful}
use Rattle.ascii_scan.proofs.Follows.{ascii_follows}
use Rattle.nfo_parts.specs.declared.message.Message.{Message}
use Rattle.nfo_service.specs.Serve as NfoServe
use Rattle.modbus_service.specs.Serve as Modbus
use Rattle.modbus_service.specs.Reply.{exchanged}
use Rattle.card.specs.State as State
use Rattle.card.specs.State.{Core, core_of, protocol_of, with_core, with_pending}
use Rattle.card.specs.Events as Events
use Rattle.card.specs.declared.state.Card.{Card}
use Rattle.card.specs.declared.state.Protocol as Protocols
use Rattle.card.specs.declared.state.Protocol.TheVariants.{Nfo, Rtu, Ascii}
use Rattle.turn.specs.Turn.{Received, waiting, port_after, card_after}
use Rattle.turn.specs.Stream.{Stream, streamed}
use Rattle.nfo_port.specs.Receive.{nfo_stream, nfo_received}
use Rattle.rtu_port.specs.Receive.{rtu_received}
use Rattle.rtu.specs.Rtu.{frame_holds, address_in, unit_in}
use Rattle.ascii_port.specs.Receive.{ascii_stream, ascii_received}
use Rattle.receive.specs.Receive.{received}
use Rattle.demands.specs.Calls.{Step, receive, restart, raise, end, din1, measure, parity, tick}
use Rattle.demands.specs.Kept.{SoundPlant, SoundPending, SoundIdentity, Sound, Kept}
use Rattle.demands.proofs.Serving.{nfo_each, modbus_each}
use Rattle.demands.proofs.Each.{each_tick, step_identity}
use Rattle.demands.proofs.Addressed.{healed_never, step_own}
use Rattle.demands.proofs.Host.{restarted_address}
use Rattle.demands.proofs.KeptPlant.{Fits, acknowledged_keeps, without14_keeps, stopped_keeps, applied_keeps, raised_keeps, ended_keeps, active_keeps, measured_keeps, fault_keeps, restarted_keeps, started_sound}
use Rattle.answers.specs.declared.Change.{Change}
use Rattle.answers.specs.declared.Refusal.{Refusal}

-- ---- the port's numbers, for a protocol n
abbrev SoundPort : ℕ → Numbers → Type 0
SoundPort n q = (length q ≡ 3) × (protocol q ≡ n)

-- a number set at another name leaves the protocol as it was
port_set : (n i v : ℕ) (q : Numbers) → (ProtocolAt ≡ i → ⊥) → SoundPort n q → SoundPort n (set q i v)
port_set n i v q o (size, same) = (length-set q i v ∙ size, get_or-set_other q i ProtocolAt v 0 o ∙ same)

-- so do the sum and SioErr
sum_set : (n x : ℕ) (q : Numbers) → SoundPort n q → SoundPort n (with_sum x q)
sum_set n x q = port_set n Sum x q (λ e. omega (arith, e))

sioerr_set : (n x : ℕ) (q : Numbers) → SoundPort n q → SoundPort n (with_sioerr x q)
sioerr_set n x q = port_set n Sioerr x q (λ e. omega (arith, e))

-- a sum that restarts is 0
sum_0 : (n : ℕ) (q : Numbers) → SoundPort n q → sum (with_sum 0 q) ≡ 0
sum_0 n q (size, same) = get_or-set_same q Sum 0 0 (omega (arith, size))

-- ---- a plant and a port, for a protocol n
abbrev SoundCore : ℕ → Core → Type 0
SoundCore n k = Fits k.port k.plant × SoundPort n k.port

-- beside a sum of 0 any sound plant fits
restarts : (n : ℕ) (k : Core) → SoundPlant k.plant → SoundPort n k.port → SoundCore n (Events.summed 0 k)
restarts n k plant port = ((plant, λ _. sum_0 n k.port port), sum_set n 0 k.port port)

-- ---- a message served, by either protocol
-- what it leaves
abbrev left_by : Served → Core
left_by s = record { port = port_after s.answer s.port; plant = s.plant }

module _ (n : ℕ) (p : Plant) (q : Numbers) (old : SoundCore n (record { port = q; plant = p })) where
  abbrev Leaves : Served → Type 0
  Leaves s = SoundCore n (left_by s)

  -- the sum restarts, and nothing else changes
  again : SoundCore n (record { port = with_sum 0 q; plant = p })
  again = restarts n (record { port = q; plant = p }) old.0.0 old.1

  -- SioErr is zeroed, too, beside a plant without 14
  zeroed : (x : Plant) → SoundPlant x → SoundCore n (record { port = with_sum 0 (with_sioerr 0 q); plant = x })
  zeroed x plant = restarts n (record { port = with_sioerr 0 q; plant = x }) plant (sioerr_set n 0 q old.1)

  -- outcome 1 leaves the sum as it was, and any other restarts it
  kept_leaves : (a : Answer) → Leaves (Serving.keeping p q a)
  kept_leaves (Answers.Told row word) = again
  kept_leaves (Answers.Written change) = again
  kept_leaves (Answers.Identified part) = again
  kept_leaves Answers.NotOurs = old
  kept_leaves (Answers.Refused refusal) = again

  -- a read clears flags
  told_leaves : (row : Row) → Leaves (told_served p q row)
  unfolding told_served told
  told_leaves row =
      pick_both Tells (eqb row.0 Inv-St-ack) (λ _. (acknowledged_keeps (with_sum 0 q) p again.0, again.1))
      (λ _. pick_both Tells (eqb row.0 Inv-St) (λ _. again)
      (λ _. pick_both Tells (eqb row.0 SioErr) (λ _. zeroed (without14 p) (without14_keeps q p old.0).0) (λ _. again)))
    where
      Tells : Told → Type 0
      Tells t = SoundCore n (record { port = with_sum 0 t.port; plant = t.plant })

  -- a refusal changes nothing else, and what is not refused is right
  wrote_leaves : (row w : ℕ) → Leaves (wrote_served p q row w)
  unfolding wrote_served written permit_of
  wrote_leaves row w =
      pick_both After (read_only row) (λ _. again)
      (λ _. pick_both After (not (allowed p row w)) (λ _. again)
      (λ can. pick_both After (flag_stands p) (λ _. again)
      (λ calm. pick_both After (Refusals.init_running p row) (λ _. again)
      (λ _. pick_both After (not (permitted p row w)) (λ _. again)
      (λ may. (applied_keeps (with_sum 0 q) (sum_0 n q old.1) p again.0 row w (not-false (allowed p row w) can) calm (not-false (permitted p row w) may), again.1))))))
    where
      After : Result Change Refusal → Type 0
      After x = Leaves (record { plant = after x p; port = q; answer = Serving.permitted x })

  -- so every message does
  nfo_leaves : (m : Message) → Leaves (NfoServe.served p q m)
  nfo_leaves = nfo_each Leaves p q kept_leaves told_leaves wrote_leaves (λ row w. zeroed (stopped p) (stopped_keeps q p old.0).0)

  modbus_leaves : (a : ℕ) (u : List ℕ) → Leaves (Modbus.served p q a u)
  modbus_leaves = modbus_each Leaves p q kept_leaves told_leaves wrote_leaves

-- ---- what is pending
-- nothing is
none_pending : (c : Card) → Sized c.port.pending → held c.port.pending ≡ [] → SoundPending c
none_pending c size none =
    record { sized = size; nfo = λ _. rw none (empty_viable nfo nfo_lawful); rtu = λ _. none; ascii = λ _. rw none (empty_viable ascii ascii_lawful) }

-- what was, at a port of the same protocol
same_pending : (c : Card) (k : Core) → protocol k.port ≡ protocol_of c → SoundPending c → SoundPending (with_core k c)
same_pending c k same old = record { sized = old.sized; nfo = λ e. old.nfo (sym same ∙ e); rtu = λ e. old.rtu (sym same ∙ e); ascii = λ e. old.ascii (sym same ∙ e) }

-- a beginning is, of the port's protocol
nfo_pending : (c : Card) (x : Pending) → protocol_of c ≡ 0 → Sized x → nfo.viable (held x) ≡ true → SoundPending (with_pending x c)
nfo_pending c x speaks size begun = record { sized = size; nfo = λ _. begun; rtu = λ e. absurd (omega (arith, speaks, e)); ascii = λ e. absurd (omega (arith, speaks, e)) }

ascii_pending : (c : Card) (x : Pending) → protocol_of c ≡ 2 → Sized x → ascii.viable (held x) ≡ true → SoundPending (with_pending x c)
ascii_pending c x speaks size begun = record { sized = size; nfo = λ e. absurd (omega (arith, speaks, e)); rtu = λ e. absurd (omega (arith, speaks, e)); ascii = λ _. begun }

-- ---- a card of its parts, after a sound one of the same protocol and the same identity
sound : (c d : Card) → Sound c → SoundCore (protocol_of c) (core_of d) → SoundPending d → d.identity ≡ c.identity → Sound d
sound c d old ((plant, sum), (numbers, same)) pending who =
    record { plant = plant; pending = pending; numbers = numbers; protocol = rw same old.protocol; sum = sum; identity = rw who old.identity }

-- the parts of a sound card
core_in : (c : Card) → Sound c → SoundCore (protocol_of c) (core_of c)
core_in c old = ((old.plant, old.sum), (old.numbers, refl))

-- what is pending stays
core_keeps : (c : Card) (k : Core) → Sound c → SoundCore (protocol_of c) k → Sound (with_core k c)
core_keeps c k old core = sound c (with_core k c) old core (same_pending c k core.1.1 old.pending) refl

-- the plant alone changes
plant_keeps : (change : Plant → Plant) → ((q : Numbers) (p : Plant) → Fits q p → Fits q (change p)) → (c : Card) → Sound c → Sound (State.with_plant (change c.plant) c)
plant_keeps change keeps c old =
    core_keeps c (record { port = c.port.numbers; plant = change c.plant }) old (keeps c.port.numbers c.plant (old.plant, old.sum), (core_in c old).1)

-- ---- the calls
module _ (c : Card) (old : Sound c) where
  abbrev n : ℕ
  n = protocol_of c

  abbrev Serves : Served → Type 0
  Serves s = SoundCore n (left_by s)

  abbrev Keeps : Received → Type 0
  Keeps r = Sound r.card

  -- a message served on this card
  nfo_serves : (m : Message) → Serves (NfoServe.served c.plant c.port.numbers m)
  nfo_serves = nfo_leaves n c.plant c.port.numbers (core_in c old)

  modbus_serves : (a : ℕ) (u : List ℕ) → Serves (exchanged c.plant c.port.numbers a u).served
  unfolding exchanged
  modbus_serves = modbus_leaves n c.plant c.port.numbers (core_in c old)

  -- "what is pending after a taken message is empty"
  after_keeps : (x : Pending) (s : Served) → Sized x → Serves s → Sound (card_after c.identity x s)
  unfolding card_after
  after_keeps x s size left =
      let d : Card = card_after c.identity x s in
      sound c d old left (none_pending d (sized_emptied x size) (held_emptied x)) refl

  module _ (bytes : List ℕ) (room : ℕ) where
    -- a scan takes a message, or leaves a beginning
    stream_keeps : (F : Format) (S : Stream) → Lawful F → Follows F S.feeding → F.viable (held c.port.pending) ≡ true
        → ((x : Pending) → Sized x → F.viable (held x) ≡ true → SoundPending (with_pending x c)) → ((x : Pending) → Serves (S.served c x)) → Keeps (streamed S c bytes room)
    unfolding waiting
    stream_keeps F S L W begun waits serves =
        let scan : Scan = scan_from S.feeding c.port.pending 0 bytes in
        let size : Sized scan.pending = scan_sized F L S.feeding W bytes c.port.pending 0 old.pending.sized in
        let left = scan_leaves F L S.feeding W bytes c.port.pending 0 old.pending.sized begun in
        pick_both Keeps (ltb room S.least) (λ _. old)
        (λ _. pick_both Keeps scan.taken (λ _. after_keeps scan.pending (S.served c scan.pending) size (serves scan.pending))
        (λ e. sound c (with_pending scan.pending c) old (core_in c old) (waits scan.pending size (left.1 e)) refl))

    -- a frame is taken, or changes nothing
    rtu_keeps : Keeps (rtu_received c bytes room)
    unfolding rtu_received
    rtu_keeps =
        pick_both Keeps (ltb room rtu_least) (λ _. old)
        (λ _. pick_both Keeps (frame_holds bytes) (λ _. after_keeps c.port.pending _ old.pending.sized (modbus_serves (address_in bytes) (unit_in bytes))) (λ _. old))

    -- a stream by its format
    ascii_keeps : n ≡ 2 → Keeps (ascii_received c bytes room)
    unfolding ascii_received
    ascii_keeps e = stream_keeps ascii ascii_stream ascii_lawful ascii_follows (old.pending.ascii e) (λ x. ascii_pending c x e) (λ x. modbus_serves _ _)

    nfo_keeps : n ≡ 0 → Keeps (nfo_received c bytes room)
    unfolding nfo_received
    nfo_keeps e = stream_keeps nfo nfo_stream nfo_lawful nfo_follows (old.pending.nfo e) (λ x. nfo_pending c x e) (λ x. nfo_serves _)

    -- by the number in the port
    receive_keeps : Keeps (received c bytes room)
    unfolding received
    receive_keeps =
        pick_both Keeps (eqb n 1) (λ _. rtu_keeps)
        (λ r. pick_both Keeps (eqb n 2) (λ a. ascii_keeps (eqb-true n 2 a)) (λ a. nfo_keeps (omega (arith, eqb-false n 1 r, eqb-false n 2 a, old.protocol))))

-- ---- the host's events
-- of the plant alone
raise_keeps : (n : ℕ) (c : Card) → Sound c → Sound (Events.fault_raised n c).card
unfolding Events.fault_raised Events.event_on
raise_keeps n = plant_keeps (λ p. (raised n p).plant) (λ q. raised_keeps q n)

end_keeps : (n : ℕ) (c : Card) → Sound c → Sound (Events.cause_ended n c).card
unfolding Events.cause_ended Events.event_on
end_keeps n = plant_keeps (λ p. (ended n p).plant) (λ q. ended_keeps q n)

din1_keeps : (active : Bool) (c : Card) → Sound c → Sound (Events.din1_set active c).card
unfolding Events.din1_set
din1_keeps active = plant_keeps (with_active active) (λ q. active_keeps q active)

measure_keeps : (measured : Measured) (c : Card) → Sound c → Sound (Events.measured_set measured c).card
unfolding Events.measured_set
measure_keeps measured = plant_keeps (with_measured measured) (λ q. measured_keeps q measured)

-- of the port: SioErr changes, and the sum does not
fault_leaves : (n bit : ℕ) (k : Core) → SoundCore n k → SoundCore n (Events.port_faulted bit k)
unfolding Events.port_faulted
fault_leaves n bit k (fits, port) =
    let then = fault_keeps k.port k.plant fits in
    ((then.0, λ z. get_or-set_other k.port Sioerr Sum _ 0 (λ e. omega (arith, e)) ∙ then.1 z), sioerr_set n _ k.port port)

parity_keeps : (c : Card) → Sound c → Sound (Events.parity_told c).card
unfolding Events.parity_told
parity_keeps c old = core_keeps c _ old (fault_leaves (protocol_of c) 2 (core_of c) (core_in c old))

-- "12: host event number not allowed" changes nothing; "While SioTot is 0 the sum is 0": where it counts, SioTot is not 0
tick_keeps : (tenths : ℕ) (c : Card) → Sound c → Sound (Events.ticked tenths c).card
unfolding Events.ticked
tick_keeps tenths c old =
    let (fits, port) = core_in c old in
    let zero = restarts (protocol_of c) (core_of c) fits.0 port in
    core_keeps c _ old
    (each_tick (SoundCore (protocol_of c)) tenths c (fits, port) zero (fault_leaves (protocol_of c) 1 (Events.summed 0 (core_of c)) zero)
    (λ some. ((fits.0, λ off. absurd (some off)), sum_set (protocol_of c) _ c.port.numbers port)))

-- ---- start and restart: nothing is pending, and the sum is 0
start_keeps : (protocol : Protocols.Protocol) (i : Identity) → SoundIdentity i → Sound (State.started protocol i)
unfolding State.started
start_keeps protocol i given =
    record { plant = started_sound; pending = none_pending (State.started protocol i) sized_empty held_empty; numbers = refl; protocol = most protocol; sum = λ _. refl; identity = given }
  where
    most : (protocol : Protocols.Protocol) → State.protocol_number protocol ≤ 2
    most Nfo = omega arith
    most Rtu = omega arith
    most Ascii = omega arith

restart_keeps : (c : Card) → Sound c → Sound (State.restarted c)
unfolding State.restarted
restart_keeps c old =
    record {
      plant = (restarted_keeps c.port.numbers c.plant (core_in c old).0).0;
      pending = none_pending (State.restarted c) (sized_emptied c.port.pending old.pending.sized) (held_emptied c.port.pending);
      numbers = refl;
      protocol = old.protocol;
      sum = λ _. refl;
      identity = old.identity;
    }

-- ---- so does each routine
each_keeps : (c d : Card) → Step c d → Sound c → Sound d
each_keeps c d (receive bytes room) old = receive_keeps c old bytes room
each_keeps c d restart old = restart_keeps c old
each_keeps c d (raise n) old = raise_keeps n c old
each_keeps c d (end n) old = end_keeps n c old
each_keeps c d (din1 active) old = din1_keeps active c old
each_keeps c d (measure measured) old = measure_keeps measured c old
each_keeps c d parity old = parity_keeps c old
each_keeps c d (tick n) old = tick_keeps n c old

pub kept : Kept
unfolding State.started Plants.started start_words rows
kept =
    record {
      start = start_keeps;
      each = each_keeps;
      identity = record { start = λ protocol i. refl; each = step_identity };
      address = record { start = λ protocol i. (omega arith, omega arith); each = step_own; restart = λ c sized. rw (restarted_address c sized) (healed_never (Plants.si_adr c.plant)) };
    }
