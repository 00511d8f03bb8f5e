-- Start, restart and the host's events do what document 01 says of them. Assumes nothing.
use mathlib.Core.Path.{◌≡◌, refl, ◌∙◌}
use mathlib.Core.Logic.{◌≢◌}
use mathlib.Core.Bool.{true}
use Prim.Native.Nat.{ℕ, ◌+◌, ◌≤◌, ◌<◌}
use native.Mathlib.Omega.{arith}
use borrow.Author.Tests.{eq-eqb, ne_eqb, lt-ltb, le-ltb}
use lib.Bits.{bit_or, bit_and}
use lib.ListN.{length, get_or, length-set}
use lib.Seq.{get_or-set_same, get_or-set_other}
use Rattle.table.specs.Names.{SiAdr, SioTot, MbAdr, MODE, SCMD, Drive-Status, row_count}
use Rattle.table.specs.Table.{rows, start_words}
use Rattle.port.specs.Port.{sum, sioerr}
use Rattle.drive.specs.Plant as Plants
use Rattle.drive.specs.Plant.{Plant, Sized, Flags, Station, si_adr, mode, causes, flags, with_si_adr, with_mode, with_scmd, with_flags, with_station}
use Rattle.drive.specs.Flags.{only, all_but}
use Rattle.drive.specs.Status.{righted}
use Rattle.drive.specs.Faults.{halted, flag_raised}
use Rattle.drive.specs.Events as Drive
use Rattle.drive.specs.Events.{healed, is_fault, raised, ended, port_fault, switched, with_active, with_measured}
use Rattle.drive.proofs.Laws.{fault_small, healed_these, healed_others}
use Rattle.drive.proofs.Flagging.{put_in, taken_out}
use Rattle.drive.proofs.Righted.{righted_other}
use Rattle.pending.proofs.Laws.{held_empty, held_emptied}
use Rattle.identity.specs.Identity.{Identity}
use Rattle.card.specs.State.{core_of, with_core, card_sum, started, restarted, with_plant}
use Rattle.card.specs.Events.{event_on, fault_raised, cause_ended, din1_set, measured_set, port_faulted, parity_told, counted, ticked_in, ticked}
use Rattle.card.specs.declared.state.Card.{Card}
use Rattle.card.specs.declared.state.Protocol as Protocols
use Rattle.master_reply.specs.Told.{Within}
use Rattle.demands.specs.Kept.{PutIn, TakenOut}
use Rattle.demands.specs.Host.{RaisesFlag, PortFaultLeaves, AtStart, AfterRestart, Host}

-- ---- faults
flag_raised_lem : (n : ℕ) (p : Plant) → n < 32 → RaisesFlag n p (flag_raised (only n) p)
unfolding flag_raised halted
flag_raised_lem n p small = (bit_or (flags p) (only n), λ k. put_in (flags p) n k small, refl)

raise : (n : ℕ) (c : Card) → is_fault n ≡ true
    → (p : Plant) × RaisesFlag n c.plant p × ((x : ℕ) × PutIn n (causes c.plant) x × ((fault_raised n c).card ≡ with_plant (Plants.with_causes x p) c))
unfolding fault_raised event_on raised
raise n c e =
    let small : n < 32 = fault_small n e in
    (flag_raised (only n) c.plant, flag_raised_lem n c.plant small, (bit_or (causes c.plant) (only n), λ k. put_in (causes c.plant) n k small, rw e))

end : (n : ℕ) (c : Card) → is_fault n ≡ true → (x : ℕ) × TakenOut n (causes c.plant) x × ((cause_ended n c).card ≡ with_plant (Plants.with_causes x c.plant) c)
unfolding cause_ended event_on ended
end n c e = (bit_and (causes c.plant) (all_but n), λ k. taken_out (causes c.plant) n k (fault_small n e), rw e)

-- ---- the port's faults: a bit of SioErr, and at MODE 3 flag 14
port_fault_lem : (bit : ℕ) (c : Card) → bit < 32 → PortFaultLeaves bit c (with_core (port_faulted (only bit) (core_of c)) c)
unfolding port_faulted port_fault
port_fault_lem bit c small =
    record {
      word = bit_or (sioerr c.port.numbers) (only bit);
      bit_set = λ k. put_in (sioerr c.port.numbers) bit k small;
      port = refl;
      at_3 = λ e. rw (eq-eqb (mode c.plant) 3 e) (flag_raised_lem 14 c.plant (omega arith));
      else = λ n. rw (ne_eqb (mode c.plant) 3 n);
    }

parity : (c : Card) → PortFaultLeaves 1 c (parity_told c).card
unfolding parity_told
parity c = port_fault_lem 1 c (omega arith)

-- ---- ticks
module _ (n : ℕ) (c : Card) (h : Within 1 250 n) where
  -- 1 to 250 tenths are counted
  counts : (ticked n c).card ≡ with_core (counted (get_or c.plant SioTot 0) n (core_of c)) c
  unfolding ticked ticked_in
  counts = rw (le-ltb n 1 h.0, le-ltb 250 n h.1)

  tick_off : get_or c.plant SioTot 0 ≡ 0 → (ticked n c).card ≡ card_sum 0 c
  unfolding counted
  tick_off e = counts ∙ rw (eq-eqb (get_or c.plant SioTot 0) 0 e)

  tick_below : get_or c.plant SioTot 0 ≢ 0 → sum c.port.numbers + n ≤ get_or c.plant SioTot 0 → (ticked n c).card ≡ card_sum (sum c.port.numbers + n) c
  unfolding counted
  tick_below e l = counts ∙ rw (ne_eqb (get_or c.plant SioTot 0) 0 e, le-ltb (get_or c.plant SioTot 0) (sum c.port.numbers + n) l)

  tick_above : get_or c.plant SioTot 0 ≢ 0 → get_or c.plant SioTot 0 < sum c.port.numbers + n → PortFaultLeaves 0 (card_sum 0 c) (ticked n c).card
  unfolding counted
  tick_above e l = rw (counts, ne_eqb (get_or c.plant SioTot 0) 0 e, lt-ltb (get_or c.plant SioTot 0) (sum c.port.numbers + n) l) (port_fault_lem 0 (card_sum 0 c) (omega arith))

-- ---- start and restart
start : (protocol : Protocols.Protocol) (i : Identity) → AtStart protocol (started protocol i)
unfolding started Plants.started start_words rows
start protocol i = record { speaks = refl; pending = held_empty; sum = refl; din1 = refl; causes = refl; flags = refl }

-- ---- a restart sets five numbers, one after the other, and then the word is made right
module _ (c : Card) (sized : Sized c.plant) where
  abbrev p : Plant
  p = c.plant

  abbrev ours : Plant
  ours = with_station (get_or p MbAdr 0) p

  abbrev addressed : Plant
  addressed = with_si_adr (healed (si_adr p)) ours

  abbrev reflagged : Plant
  reflagged = with_flags (causes p) addressed

  abbrev halts : Plant
  halts = with_scmd 0 reflagged

  ours_long : length ours ≡ row_count + 4
  ours_long = length-set p Station (get_or p MbAdr 0) ∙ sized

  addressed_long : length addressed ≡ row_count + 4
  addressed_long = length-set ours SiAdr (healed (si_adr p)) ∙ ours_long

  reflagged_long : length reflagged ≡ row_count + 4
  reflagged_long = length-set addressed Flags (causes p) ∙ addressed_long

  abbrev after : Plant
  after = righted (with_mode 1 halts)

  -- a number that is none of the last three, or four
  past : (i : ℕ) → i ≢ MODE → i ≢ SCMD → i ≢ Drive-Status → get_or after i 0 ≡ get_or reflagged i 0
  past i m s w = righted_other (with_mode 1 halts) i w ∙ get_or-set_other halts MODE i 1 0 m ∙ get_or-set_other reflagged SCMD i 0 0 s

  past_flags : (i : ℕ) → i ≢ MODE → i ≢ SCMD → i ≢ Flags → i ≢ Drive-Status → get_or after i 0 ≡ get_or addressed i 0
  past_flags i m s f w = past i m s w ∙ get_or-set_other addressed Flags i (causes p) 0 f

  pub restarted_address : si_adr (restarted c).plant ≡ healed (si_adr p)
  unfolding restarted Drive.restarted
  restarted_address =
      past_flags SiAdr (λ e. absurd (omega (arith, e))) (λ e. absurd (omega (arith, e))) (λ e. absurd (omega (arith, e))) (λ e. absurd (omega (arith, e)))
      ∙ get_or-set_same ours SiAdr (healed (si_adr p)) 0 (omega (arith, ours_long))

  restart : AfterRestart c (restarted c)
  unfolding restarted Drive.restarted
  restart =
      record {
        keeps = λ i a m s f o w. past_flags i m s f w ∙ get_or-set_other ours SiAdr i (healed (si_adr p)) 0 a ∙ get_or-set_other p Station i (get_or p MbAdr 0) 0 o;
        healed = λ h. restarted_address ∙ healed_these (si_adr p) h;
        address = λ n m. restarted_address ∙ healed_others (si_adr p) n m;
        flags = past Flags (λ e. absurd (omega (arith, e))) (λ e. absurd (omega (arith, e))) (λ e. absurd (omega (arith, e))) ∙ get_or-set_same addressed Flags (causes p) 0 (omega (arith, addressed_long));
        mode = righted_other (with_mode 1 halts) MODE (λ e. absurd (omega (arith, e))) ∙ get_or-set_same halts MODE 1 0 (omega (arith, length-set reflagged SCMD 0, reflagged_long));
        scmd = righted_other (with_mode 1 halts) SCMD (λ e. absurd (omega (arith, e))) ∙ get_or-set_other halts MODE SCMD 1 0 (λ e. absurd (omega (arith, e))) ∙ get_or-set_same reflagged SCMD 0 0 (omega (arith, reflagged_long));
        station =
            past_flags Station (λ e. absurd (omega (arith, e))) (λ e. absurd (omega (arith, e))) (λ e. absurd (omega (arith, e))) (λ e. absurd (omega (arith, e)))
            ∙ get_or-set_other ours SiAdr Station (healed (si_adr p)) 0 (λ e. absurd (omega (arith, e))) ∙ get_or-set_same p Station (get_or p MbAdr 0) 0 (omega (arith, sized));
        speaks = refl;
        pending = held_emptied c.port.pending;
        sum = refl;
        sioerr = refl;
      }

pub host : Host
unfolding din1_set with_active switched measured_set with_measured
host =
    record {
      start = start;
      restart = restart;
      raise = raise;
      end = end;
      active = λ c. refl;
      inactive = λ c. refl;
      frq_act = λ w c. refl;
      i_rms = λ w c. refl;
      op_time = λ w c. refl;
      parity = parity;
      tick_off = tick_off;
      tick_below = tick_below;
      tick_above = tick_above;
    }
