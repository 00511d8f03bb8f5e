-- A card at MODE 3 stops by itself in silence: by what the host's events do (`Host`) and what a call leaves (`Leaves`), no step but a tick touches MODE, SioTot or the time
-- sum; ticks add up in the sum until it goes above SioTot; and what a time-out leaves, no step takes back. Assumes nothing.
use mathlib.Core.Path.{◌≡◌, refl, sym, ap, subst, ◌∙◌}
use mathlib.Core.Logic.{◌⊎◌, inl, inr, ◌≢◌}
use mathlib.Core.Bool.{Bool, true, false, false≢true}
use mathlib.Core.List.{List, ◌++◌}
use Prim.Native.Nat.{ℕ, zero, suc, ◌+◌, ◌*◌, ◌/◌, ◌%◌, ◌≤◌, ◌<◌}
use native.Mathlib.Omega.{arith}
use borrow.Author.Tests.{eq-eqb, lt-ltb, eqb-true, eqb-false, ltb-true, ltb-false}
use lib.Dec.{eqb, ltb}
use lib.ListN.{length, get_or, set, length-set, replicate}
use lib.Seq.{get_or-set_same, get_or-set_other}
use Rattle.base.specs.Choice.{either}
use Rattle.base.proofs.Tests.{either_left, either_right, not_yes}
use Rattle.table.specs.Names.{SioTot, MODE, SCMD, FrqAct, I-rms, OpTime, Drive-Status}
use Rattle.table.specs.Table.{rows, start_words}
use Rattle.port.specs.Port.{Numbers, Sum, Sioerr, sum, sioerr, with_sioerr}
use Rattle.drive.specs.Plant as Plants
use Rattle.drive.specs.Plant.{Plant, Sized, DIN1, Causes, Flags, mode, flags, with_din1, with_causes}
use Rattle.drive.specs.Flags.{flagged}
use Rattle.drive.specs.Status.{runs, righted}
use Rattle.drive.proofs.Righted.{righted_other}
use Rattle.drive.specs.Events.{is_fault}
use Rattle.drive.specs.declared.events.Measured.{Measured}
use Rattle.drive.specs.declared.events.Measured.TheVariants.{Frq, Rms, Optime}
use Rattle.card.specs.State.{core_of, with_core, started, with_plant, card_sum}
use Rattle.card.specs.Events.{fault_raised, cause_ended, din1_set, measured_set, parity_told, ticked}
use Rattle.card.specs.Outcome.{outcome_number}
use Rattle.card.specs.declared.state.Card.{Card}
use Rattle.card.specs.declared.state.Port.{Port}
use Rattle.ticks.specs.Ticks.{rest, ticks_of, ticking, handed_over}
use Rattle.ticks.proofs.Laws.{all_counted}
use Rattle.turn.specs.Turn.{Received}
use Rattle.receive.specs.Receive.{received}
use Rattle.master_reply.specs.Told.{Within}
use Rattle.demands.specs.Calls.{besides}
use Rattle.demands.specs.Kept.{PutIn}
use Rattle.demands.specs.Demand1.{Leaves}
use Rattle.demands.specs.Host.{RaisesFlag, PortFaultLeaves}
use Rattle.demands.specs.Silence.{Unheard, Silence, over, call, tick, no_tick, raise, end, din1, measure, parity, Stopped, SilenceStops}
use Rattle.demands.proofs.KeptPlant.{at_name}
use Rattle.demands.proofs.Demand1.{demand_1}
use Rattle.demands.proofs.Host.{host}

-- a number that is in a mask stays there when another is put in
stays_in : (n k before after : ℕ) → k < 32 → PutIn n before after → flagged k before ≡ true → flagged k after ≡ true
stays_in n k before after small put e = put k small ∙ either_left (flagged k before) (eqb k n) e

now_in : (n before after : ℕ) → n < 32 → PutIn n before after → flagged n after ≡ true
now_in n before after small put = put n small ∙ either_right (flagged n before) (eqb n n) (eq-eqb n n refl)

-- a call that hears nothing changes what is pending, and nothing else
unheard_keeps : (c : Card) (count : ℕ) (r : Received) → Leaves c count r → Unheard r → besides r.card ≡ besides c
unheard_keeps c count r l (inl one) = (l.other one).0
unheard_keeps c count r l (inr ten) = by l.listed (eqb (outcome_number r.outcome) 10) refl
  where
    by : (outcome_number r.outcome ≤ 11) ⊎ (outcome_number r.outcome ≡ 15) → (t : Bool) → eqb (outcome_number r.outcome) 10 ≡ t → besides r.card ≡ besides c
    by (inr e) t q = (l.waiting e).0
    by (inl most) true q = ap besides (l.short (eqb-true (outcome_number r.outcome) 10 q)).0
    by (inl most) false q = ap besides (l.spoilt (omega (arith, ten, most, eqb-false (outcome_number r.outcome) 10 q))).0

-- ---- the plant, with this SioTot; `out` is whether the time is out
module _ (tot : ℕ) (out : Bool) where
  record Guarded (p : Plant) : Type 0 where
    sized : Sized p
    mode : Plants.mode p ≡ 3
    limit : get_or p SioTot 0 ≡ tot
    scmd : out ≡ true → Plants.scmd p ≡ 0
    flag_14 : out ≡ true → flagged 14 (flags p) ≡ true

  -- a number is set that is neither MODE nor SioTot; SCMD becomes 0, and of the flags none is cleared
  set_guarded : (p : Plant) (i v : ℕ) → Guarded p → i ≢ MODE → i ≢ SioTot → (i ≡ SCMD → v ≡ 0) → (i ≡ Flags → out ≡ true → flagged 14 v ≡ true) → Guarded (set p i v)
  set_guarded p i v g other unlimited halts in-flags =
      record {
        sized = length-set p i v ∙ g.sized;
        mode = at_name (λ (x : ℕ). x ≡ 3) p i MODE v g.mode (λ e. absurd (other e));
        limit = at_name (λ (x : ℕ). x ≡ tot) p i SioTot v g.limit (λ e. absurd (unlimited e));
        scmd = at_name (λ (x : ℕ). out ≡ true → x ≡ 0) p i SCMD v g.scmd (λ e _. halts e);
        flag_14 = at_name (λ (x : ℕ). out ≡ true → flagged 14 x ≡ true) p i Flags v g.flag_14 in-flags;
      }

  -- a number that none of this asks for: behind SCMD stand those and the flags
  free_guarded : (p : Plant) (i v : ℕ) → SCMD < i → i ≢ Flags → Guarded p → Guarded (set p i v)
  free_guarded p i v behind other g =
      set_guarded p i v g (λ e. omega (arith, e, behind)) (λ e. omega (arith, e, behind)) (λ e. absurd (omega (arith, e, behind))) (λ e. absurd (other e))

  -- the word that is kept is such a number
  righted_guarded : (p : Plant) → Guarded p → Guarded (righted p)
  unfolding righted
  righted_guarded p = free_guarded p Drive-Status _ (omega arith) (λ h. omega (arith, h))

  -- a flag is raised, and SCMD becomes 0
  flag_guarded : (n : ℕ) (p after : Plant) → RaisesFlag n p after → Guarded p → Guarded after
  flag_guarded n p after (x, put, e) g =
      subst Guarded (sym e)
      (righted_guarded _ (set_guarded (set p Flags x) SCMD 0
      (set_guarded p Flags x g (λ h. omega (arith, h)) (λ h. omega (arith, h)) (λ h. absurd (omega (arith, h))) (λ _ o. stays_in n 14 (flags p) x (omega arith) put (g.flag_14 o)))
      (λ h. omega (arith, h)) (λ h. omega (arith, h)) (λ _. refl) (λ h. absurd (omega (arith, h)))))

  -- ---- the port's numbers and the plant
  record Watched (q : Numbers) (p : Plant) : Type 0 where
    sized : length q ≡ 3
    plant : Guarded p
    time_out : out ≡ true → flagged 0 (sioerr q) ≡ true

  abbrev WatchedCard : Card → Type 0
  WatchedCard c = Watched c.port.numbers c.plant

  -- a step that is no tick: what is watched stays, and so does the sum
  abbrev Passes : Card → Card → Type 0
  Passes c d = (WatchedCard c → WatchedCard d) × (sum d.port.numbers ≡ sum c.port.numbers)

  same_passes : (c d : Card) → besides d ≡ besides c → Passes c d
  same_passes c d e =
      let q : d.port.numbers ≡ c.port.numbers = ap (λ (x : Card). x.port.numbers) e in
      let p : d.plant ≡ c.plant = ap (λ (x : Card). x.plant) e in (λ w. rw (q, p) w, ap sum q)

  plant_passes : (c : Card) (p : Plant) → (Guarded c.plant → Guarded p) → Passes c (with_plant p c)
  plant_passes c p keep = (λ w. record { sized = w.sized; plant = keep w.plant; time_out = w.time_out }, refl)

  -- a call that hears nothing
  call_passes : (c : Card) (bytes : List ℕ) (room : ℕ) → Unheard (received c bytes room) → Passes c (received c bytes room).card
  call_passes c bytes room u = same_passes c (received c bytes room).card (unheard_keeps c _ _ (demand_1.receiving.leaves c bytes room) u)

  -- the host names a fault, or a number that is none
  fault_passes : (n : ℕ) (c d : Card) → (is_fault n ≡ true → Passes c d) → (is_fault n ≡ false → d ≡ c) → Passes c d
  fault_passes n c d known unknown = go (is_fault n) refl
    where
      go : (t : Bool) → is_fault n ≡ t → Passes c d
      go true e = known e
      go false e = same_passes c d (ap besides (unknown e))

  -- a tick outside 1 to 250
  no_tick_passes : (n : ℕ) (c : Card) → (n < 1) ⊎ (250 < n) → Passes c (ticked n c).card
  no_tick_passes n c outside =
      same_passes c (ticked n c).card (ap besides ((demand_1.events.tick n c).1 (((demand_1.events.tick n c).0 12).1 (inl (by outside, refl)))))
    where
      by : (n < 1) ⊎ (250 < n) → either (ltb n 1) (ltb 250 n) ≡ true
      by (inl l) = either_left (ltb n 1) (ltb 250 n) (lt-ltb n 1 l)
      by (inr l) = either_right (ltb n 1) (ltb 250 n) (lt-ltb 250 n l)

  raise_passes : (n : ℕ) (c : Card) → Passes c (fault_raised n c).card
  raise_passes n c =
      fault_passes n c _
      (λ e.
      let (p, raises, (x, put, is)) = host.raise n c e in
      subst (Passes c) (sym is)
      (plant_passes c (with_causes x p)
      (λ g. free_guarded p Causes x (omega arith) (λ h. omega (arith, h)) (flag_guarded n c.plant p raises g))))
      (λ e. (demand_1.events.raise n c).1 (((demand_1.events.raise n c).0 12).1 (inl (not_yes (is_fault n) e, refl))))

  end_passes : (n : ℕ) (c : Card) → Passes c (cause_ended n c).card
  end_passes n c =
      fault_passes n c _
      (λ e.
      let (x, put, is) = host.end n c e in
      subst (Passes c) (sym is)
      (plant_passes c (with_causes x c.plant) (free_guarded c.plant Causes x (omega arith) (λ h. omega (arith, h)))))
      (λ e. (demand_1.events.end n c).1 (((demand_1.events.end n c).0 12).1 (inl (not_yes (is_fault n) e, refl))))

  -- DIN1 and the measured numbers
  din1_passes : (active : Bool) (c : Card) → Passes c (din1_set active c).card
  din1_passes true c = rw (host.active c) (plant_passes c _ (λ g. righted_guarded _ (free_guarded c.plant DIN1 1 (omega arith) (λ h. omega (arith, h)) g)))
  din1_passes false c =
      rw (host.inactive c)
      (plant_passes c _
      (λ g. righted_guarded _
      (set_guarded (with_din1 0 c.plant) SCMD 0 (free_guarded c.plant DIN1 0 (omega arith) (λ h. omega (arith, h)) g)
      (λ h. omega (arith, h)) (λ h. omega (arith, h)) (λ _. refl) (λ h. absurd (omega (arith, h))))))

  measure_passes : (measured : Measured) (c : Card) → Passes c (measured_set measured c).card
  measure_passes (Frq w) c = rw (host.frq_act w c) (plant_passes c _ (free_guarded c.plant FrqAct w (omega arith) (λ h. omega (arith, h))))
  measure_passes (Rms w) c = rw (host.i_rms w c) (plant_passes c _ (free_guarded c.plant I-rms w (omega arith) (λ h. omega (arith, h))))
  measure_passes (Optime w) c = rw (host.op_time w c) (plant_passes c _ (free_guarded c.plant OpTime w (omega arith) (λ h. omega (arith, h))))

-- ---- the port's faults
module _ (tot : ℕ) (out : Bool) where
  -- a port's fault at MODE 3 raises 14, and SCMD is 0 then
  fault_guarded : (p after : Plant) → RaisesFlag 14 p after → Guarded tot out p → Guarded tot true after
  fault_guarded p after raises g =
      let kept : Guarded tot out after = flag_guarded tot out 14 p after raises g in
      let (x, put, is) = raises in
      record {
        sized = kept.sized;
        mode = kept.mode;
        limit = kept.limit;
        scmd = λ _. rw is (righted_other _ SCMD (λ h. omega (arith, h)) ∙ get_or-set_same (set p Flags x) SCMD 0 0 (omega (arith, length-set p Flags x, g.sized)));
        flag_14 = λ _. rw (is, righted_other (set (set p Flags x) SCMD 0) Flags (λ h. omega (arith, h)), get_or-set_other (set p Flags x) SCMD Flags 0 0 (λ h. omega (arith, h)), get_or-set_same p Flags x 0 (omega (arith, g.sized))) (now_in 14 (flags p) x (omega arith) put);
      }

  -- its bit in SioErr is put in; `after` is whether the time is out then
  fault_watched : (bit : ℕ) (after : Bool) (c d : Card) → (after ≡ true → (word : ℕ) → PutIn bit (sioerr c.port.numbers) word → flagged 0 word ≡ true)
      → PortFaultLeaves bit c d → WatchedCard tot out c → WatchedCard tot after d
  fault_watched bit after c d told left w =
      let g : Guarded tot true d.plant = fault_guarded c.plant d.plant (left.at_3 w.plant.mode) w.plant in
      let q : d.port.numbers ≡ with_sioerr left.word c.port.numbers = ap (λ (x : Port). x.numbers) left.port in
      rw q
      (record {
        sized = length-set c.port.numbers Sioerr left.word ∙ w.sized;
        plant = record { sized = g.sized; mode = g.mode; limit = g.limit; scmd = λ _. g.scmd refl; flag_14 = λ _. g.flag_14 refl };
        time_out = λ e. rw (get_or-set_same c.port.numbers Sioerr left.word 0 (omega (arith, w.sized))) (told e left.word left.bit_set);
      })

  -- the host tells a parity fault: the sum stays
  parity_passes : (c : Card) → Passes tot out c (parity_told c).card
  parity_passes c = (
    λ w. fault_watched 1 out c (parity_told c).card (λ e x put. stays_in 1 0 (sioerr c.port.numbers) x (omega arith) put (w.time_out e)) (host.parity c) w,
    ap (λ (x : Port). sum x.numbers) (host.parity c).port ∙ get_or-set_other c.port.numbers Sioerr Sum (host.parity c).word 0 (λ h. omega (arith, h)),
  )

  -- ---- a tick
  -- another sum, and all else as it was
  sum_watched : (x : ℕ) (c : Card) → WatchedCard tot out c → WatchedCard tot out (card_sum x c)
  sum_watched x c w =
      record {
        sized = length-set c.port.numbers Sum x ∙ w.sized;
        plant = w.plant;
        time_out = λ e. rw (get_or-set_other c.port.numbers Sum Sioerr x 0 (λ h. omega (arith, h))) (w.time_out e);
      }

  module _ (n : ℕ) (c : Card) (within : Within 1 250 n) (some : tot ≢ 0) (w : WatchedCard tot out c) where
    on : get_or c.plant SioTot 0 ≢ 0
    on z = some (sym w.plant.limit ∙ z)

    -- up to SioTot it counts
    below : sum c.port.numbers + n ≤ tot → WatchedCard tot out (ticked n c).card × (sum (ticked n c).card.port.numbers ≡ sum c.port.numbers + n)
    below l =
        rw (host.tick_below n c within on (omega (arith, l, w.plant.limit))) (
          sum_watched (sum c.port.numbers + n) c w,
          get_or-set_same c.port.numbers Sum (sum c.port.numbers + n) 0 (omega (arith, w.sized)),
        )

    -- above it the time is out
    above : tot < sum c.port.numbers + n → WatchedCard tot true (ticked n c).card
    above l =
        fault_watched 0 true (card_sum 0 c) (ticked n c).card (λ _ x put. now_in 0 (sioerr (card_sum 0 c).port.numbers) x (omega arith) put)
        (host.tick_above n c within on (omega (arith, l, w.plant.limit))) (sum_watched 0 c w)

-- ---- the run: while the time is not out, the ticks so far, t of them, are in the sum and not above SioTot
module _ (tot : ℕ) (some : tot ≢ 0) where
  abbrev Counts : Bool → ℕ → Card → ℕ → Type 0
  Counts out t c tenths = out ≡ false → (t ≤ sum c.port.numbers) × (t ≤ tot) × (tot < t + tenths)

  -- from the card c on, so many tenths of ticks lead to d, and the time is out there
  abbrev RunsOut : Card → ℕ → Card → Type 0
  RunsOut c tenths d = (out : Bool) (t : ℕ) → WatchedCard tot out c → Counts out t c tenths → WatchedCard tot true d

  -- a step that is no tick leaves what was counted
  step : (c next d : Card) (tenths : ℕ) → ((out : Bool) → Passes tot out c next) → RunsOut next tenths d → RunsOut c tenths d
  step c next d tenths passes later out t w counts =
      later out t ((passes out).0 w) (λ e. let (counted, most, more) = counts e in (omega (arith, counted, (passes out).1), most, more))

  tick_step : (c d : Card) (n tenths : ℕ) → Within 1 250 n → RunsOut (ticked n c).card tenths d → RunsOut c (n + tenths) d
  tick_step c d n tenths within later out t w counts = go (ltb tot (sum c.port.numbers + n)) refl
    where
      go : (b : Bool) → ltb tot (sum c.port.numbers + n) ≡ b → WatchedCard tot true d
      go true e = later true t (above tot out n c within some w (ltb-true tot (sum c.port.numbers + n) e)) (λ h. absurd (false≢true (sym h)))
      go false e =
          let le : sum c.port.numbers + n ≤ tot = ltb-false tot (sum c.port.numbers + n) e in
          let (kept, same) = below tot out n c within some w le in
          later out (t + n) kept (λ h. let (counted, most, more) = counts h in (omega (arith, counted, same), omega (arith, counted, le), omega (arith, more)))

  -- at the end the ticks are more than SioTot
  at_end : (c : Card) → RunsOut c 0 c
  at_end c true t w counts = w
  at_end c false t w counts = absurd (omega (arith, counts refl))

  runs_out : (c d : Card) (tenths : ℕ) → Silence c tenths d → RunsOut c tenths d
  runs_out c d tenths over = at_end c
  runs_out c d tenths (call bytes room unheard later) = step c (received c bytes room).card d tenths (λ out. call_passes tot out c bytes room unheard) (runs_out _ d tenths later)
  runs_out c d tenths (tick {tenths = more} n within later) = tick_step c d n more within (runs_out _ d more later)
  runs_out c d tenths (no_tick n outside later) = step c (ticked n c).card d tenths (λ out. no_tick_passes tot out n c outside) (runs_out _ d tenths later)
  runs_out c d tenths (raise n later) = step c (fault_raised n c).card d tenths (λ out. raise_passes tot out n c) (runs_out _ d tenths later)
  runs_out c d tenths (end n later) = step c (cause_ended n c).card d tenths (λ out. end_passes tot out n c) (runs_out _ d tenths later)
  runs_out c d tenths (din1 active later) = step c (din1_set active c).card d tenths (λ out. din1_passes tot out active c) (runs_out _ d tenths later)
  runs_out c d tenths (measure measured later) = step c (measured_set measured c).card d tenths (λ out. measure_passes tot out measured c) (runs_out _ d tenths later)
  runs_out c d tenths (parity later) = step c (parity_told c).card d tenths (λ out. parity_passes tot out c) (runs_out _ d tenths later)

-- what the time being out comes to
stopped : (tot : ℕ) (c : Card) → WatchedCard tot true c → Stopped c
unfolding runs
stopped tot c w = record { still = rw (w.plant.mode, w.plant.scmd refl); flag_14 = w.plant.flag_14 refl; time_out = w.time_out refl }

-- ---- the tenths of a clock
-- a sum of tenths, written otherwise
adding_to : (m n : ℕ) (c d : Card) → m ≡ n → Silence c m d → Silence c n d
adding_to m n c d e = subst (λ (tenths : ℕ). Silence c tenths d) e

-- as many ticks of 250 as there are, and one of the rest, if there is any
ticks_add : (m n : ℕ) (c : Card) → n < 250 → Silence c (250 * m + n) (with_core (ticking (replicate m 250 ++ rest n) (core_of c)) c)
unfolding ticked
ticks_add zero zero c h = over
ticks_add zero (suc n) c h = adding_to _ _ c _ (omega arith) (tick (suc n) (omega arith, omega arith) over)
ticks_add (suc m) n c h = adding_to _ _ c _ (omega arith) (tick 250 (omega arith, omega arith) (ticks_add m n (ticked 250 c).card h))

pub silence_stops : SilenceStops
unfolding started Plants.started start_words rows handed_over ticks_of
silence_stops =
    record {
      start = λ protocol i. refl;
      stops =
          λ c d tenths sized numbers at_3 some silence more.
          stopped (get_or c.plant SioTot 0) d
          (runs_out (get_or c.plant SioTot 0) some c d tenths silence false 0
          (record {
            sized = numbers;
            plant = record { sized = sized; mode = at_3; limit = refl; scmd = λ e. absurd (false≢true e); flag_14 = λ e. absurd (false≢true e) };
            time_out = λ e. absurd (false≢true e);
          })
          (λ _. (omega arith, omega arith, omega (arith, more))));
      handed = λ c tenths. adding_to _ _ c _ (omega arith) (ticks_add (tenths / 250) (tenths % 250) c (omega arith));
      counted = all_counted;
    }
