-- Demand 1 holds: each number is given by the first line of its order that applies, and leaves what document 01 says. Assumes nothing.
use Rattle.std.proofs.Common.{Result, Ok, Err}
use mathlib.Core.Path.{◌≡◌, refl, sym, ap, ◌∙◌}
use mathlib.Core.Bool.{Bool, true, false, not}
use mathlib.Core.List.{List, [], ◌∷◌}
use Prim.Native.Nat.{ℕ, ◌≤◌}
use native.Mathlib.Omega.{arith}
use borrow.Author.Tests.{ltb-false}
use lib.Dec.{ltb}
use lib.ListN.{length, get_or}
use Rattle.base.specs.Buffers.{reply_least}
use Rattle.base.specs.Choice.{pick, either}
use Rattle.base.specs.Order.{when, first_of, saying}
use Rattle.base.proofs.Tests.{pick_yes}
use Rattle.base.proofs.Sets.{fitting_none}
use Rattle.table.specs.Names.{SioTot}
use Rattle.drive.specs.Plant.{Plant}
use Rattle.drive.specs.Events.{is_fault, event, raised, ended}
use Rattle.card.specs.State.{Core, core_of, protocol_of, with_core, with_plant}
use Rattle.card.specs.Events.{event_outcome, event_on, fault_raised, cause_ended, din1_set, measured_set, parity_told, counted, Ticked, ticked_in, ticked}
use Rattle.card.specs.Outcome.{outcome_number}
use Rattle.card.specs.declared.state.Card.{Card}
use Rattle.card.specs.declared.events.After.{After}
use Rattle.card.specs.declared.outcome.Outcome.TheVariants.{Done, NoSuchEvent}
use Rattle.master.specs.declared.Unsent.TheVariants.{CannotBeSaid, ShortBuffer}
use Rattle.master.specs.Sent.{sent_number, refusals, sent_of, bytes_sent}
use Rattle.master.proofs.Sends.{sent_cases}
use Rattle.receive.specs.Receive.{received}
use Rattle.receive.proofs.Laws.{received_used, received_short}
use Rattle.demands.specs.Orders.{call_order}
use Rattle.demands.specs.Demand1.{number_in, Receiving, Refuses, Events, Writing, Demand1}
use Rattle.demands.proofs.Numbered.{gives, received_number}
use Rattle.demands.proofs.Leaving.{received_leaves}
use Rattle.demands.proofs.OneCall.{nfo_nothing, ascii_nothing, nfo_takes, ascii_takes, rtu_used}
use Rattle.demands.proofs.Unsaid.{unsaid}
use Rattle.demands.proofs.Hearing.{hearing}
use Rattle.master.specs.declared.Unsent.{Unsent}

-- ---- calls
reply_fits : (c : Card) (bytes : List ℕ) (room : ℕ) → length (received c bytes room).reply ≤ room
reply_fits c bytes room = go (ltb room (reply_least (protocol_of c))) refl
  where
    go : (t : Bool) → ltb room (reply_least (protocol_of c)) ≡ t → length (received c bytes room).reply ≤ room
    go true e =
        let ten : number_in (received c bytes room) ≡ 10 = received_number c bytes room ∙ sym (pick_yes (ltb room (reply_least (protocol_of c))) _ _ 10 e refl) in
        let none : length (received c bytes room).reply ≡ 0 = ap length ((received_leaves c bytes room).short ten).2 in
        omega (arith, none)
    go false e = omega (arith, received_short c bytes room, ltb-false room (reply_least (protocol_of c)) e)

receiving : Receiving
receiving =
    record {
      within = λ c bytes room. (received_used c bytes room, reply_fits c bytes room);
      number = λ c bytes room n. gives outcome_number (call_order c bytes room) (number_in (received c bytes room)) n (received_number c bytes room);
      nfo_nothing = nfo_nothing;
      ascii_nothing = ascii_nothing;
      nfo_takes = nfo_takes;
      ascii_takes = ascii_takes;
      rtu_used = rtu_used;
      leaves = λ c bytes room. received_leaves c bytes room;
    }

-- ---- events
-- the card as it was, and 12; or another card, and 0
abbrev after : Bool → Card → Card → After
after t c d = pick t (record { card = c; outcome = NoSuchEvent }) (record { card = d; outcome = Done })

refuses : (t : Bool) (c d : Card) (a : After) → a ≡ after t c d → Refuses t c a
refuses true c d a e =
    (λ n. gives outcome_number (when true NoSuchEvent ∷ []) (outcome_number a.outcome) n (ap (λ (x : After). outcome_number x.outcome) e), λ _. ap (λ (x : After). x.card) e)
refuses false c d a e = (
  λ n. gives outcome_number (when false NoSuchEvent ∷ []) (outcome_number a.outcome) n (ap (λ (x : After). outcome_number x.outcome) e),
  λ h. let z : outcome_number a.outcome ≡ 0 = ap (λ (x : After). outcome_number x.outcome) e in absurd (omega (arith, z, h)),
)

-- a known fault
tells : (n : ℕ) (p : Plant) (c : Card) → Refuses (not (is_fault n)) c (event_on (event n p c.plant) c)
unfolding event_on event_outcome
tells n p c = refuses (not (is_fault n)) c (with_plant p c) (event_on (event n p c.plant) c) (go (is_fault n))
  where
    go : (t : Bool) → event_on (pick t (record { plant = p; known = true }) (record { plant = c.plant; known = false })) c ≡ after (not t) c (with_plant p c)
    go true = refl
    go false = refl

-- a number of tenths
ticks : (n : ℕ) (c : Card) → Refuses (either (ltb n 1) (ltb 250 n)) c (ticked n c)
unfolding ticked ticked_in
ticks n c = refuses (either (ltb n 1) (ltb 250 n)) c (with_core k c) (ticked n c) (go (either (ltb n 1) (ltb 250 n)))
  where
    k : Core
    k = counted (get_or c.plant SioTot 0) n (core_of c)

    of_core : Ticked → After
    of_core t = record { card = with_core t.core c; outcome = t.outcome }

    go : (t : Bool) → of_core (pick t (record { core = core_of c; outcome = NoSuchEvent }) (record { core = k; outcome = Done })) ≡ after t c (with_core k c)
    go true = refl
    go false = refl

events : Events
unfolding fault_raised cause_ended raised ended din1_set measured_set parity_told
events =
    record {
      raise = λ n c. tells n _ c;
      end = λ n c. tells n _ c;
      tick = ticks;
      din1 = λ active c. refl;
      measure = λ measured c. refl;
      parity = λ c. refl;
    }

-- ---- the master's writers
sent_number_lem : (sayable : Bool) (m : List ℕ) (room : ℕ) → sent_number (sent_of sayable m room) ≡ first_of (saying sent_number (refusals sayable m room)) 0
unfolding sent_of
sent_number_lem s m room = go s (ltb room (length m))
  where
    go : (s t : Bool) → sent_number (pick (not s) (Err CannotBeSaid) (pick t (Err ShortBuffer) (Ok (length m)))) ≡ pick (not s) 13 (pick t 10 0)
    go false t = refl
    go true true = refl
    go true false = refl

unsent : (sayable : Bool) (m : List ℕ) (room : ℕ) → (sent_number (sent_of sayable m room) ≡ 0 → ⊥) → bytes_sent sayable m room ≡ []
unfolding bytes_sent
unsent s m room =
    sent_cases s m room (λ (x : Result ℕ Unsent). (sent_number x ≡ 0 → ⊥) → bytes_sent s m room ≡ []) (λ e _. simp e) (λ e h _. simp e (fitting_none m room h)) (λ e h n. absurd (n refl))

writing : Writing
writing =
    record { number = λ s m room n. gives sent_number (refusals s m room) (sent_number (sent_of s m room)) n (sent_number_lem s m room); unsent = unsent }

pub demand_1 : Demand1
demand_1 = record { receiving = receiving; events = events; writing = writing; unsaid = unsaid; hearing = hearing }
