-- What each thing that a message comes to leaves of a card, by what reads tell then: a row written, the broadcast stop, a row told. Assumes nothing.
use mathlib.Core.Path.{◌≡◌, refl, sym, ap, subst, ◌∙◌}
use mathlib.Core.Logic.{◌≢◌}
use mathlib.Core.Bool.{Bool, true, false}
use Prim.Native.Nat.{ℕ, ◌≤◌, ◌<◌}
use native.Mathlib.Omega.{arith}
use borrow.Author.Tests.{eqb-true, eqb-false, ne_eqb, ltb-true}
use lib.Bits.{bit_or, bit_and}
use lib.Dec.{eqb, ltb}
use lib.ListN.{length, get_or, length-set}
use lib.Seq.{get_or-set_same, get_or-set_other}
use Rattle.base.specs.Choice.{pick, both}
use Rattle.base.proofs.Tests.{pick_both}
use Rattle.table.specs.Names.{Mode, Setpoint, MODE, SCMD, Inv-St-ack, Inv-St, SioErr, Drive-Status, row_count}
use Rattle.port.specs.Port.{Numbers, ProtocolAt, Sum, Sioerr, protocol, sum, sioerr, with_sum, with_sioerr}
use Rattle.drive.specs.Plant.{Plant, DIN1, Causes, Flags, Station, scmd, din1, causes, flags, station, with_flags, with_scmd}
use Rattle.drive.specs.Flags.{flagged, only, all_but}
use Rattle.drive.specs.Faults.{halted, acknowledged, without14, stopped}
use Rattle.drive.proofs.Masks.{masks}
use Rattle.drive.proofs.Flagging.{put_in, taken_out}
use Rattle.drive.proofs.Righted.{righted_other}
use Rattle.reading.specs.Read.{Told, stored, told}
use Rattle.service.specs.Write.{applied}
use Rattle.service.proofs.Stores.{stores_told, leaves, sets_setpoint, sets_scmd}
use Rattle.reading.proofs.Tells.{tells_stored, tells_ack, tells_sioerr}
use Rattle.card.specs.State.{protocol_of, card_sum}
use Rattle.card.specs.declared.state.Card.{Card}
use Rattle.demands.specs.Calls.{besides}
use Rattle.demands.specs.Kept.{Sound}
use Rattle.demands.specs.Effects.{Tells, Unchanged, WriteLeaves, StopLeaves, flagged_with, sio_err_zeroed, ReadLeaves}
use Rattle.demands.proofs.Asking.{tells}

-- ---- what a read tells, from card to card
-- a row tells the same where its word and SioErr are the same; the two Inv St rows have their rule
told_same : (p x : Plant) (q y : Numbers) (n : ℕ) → n ≢ Inv-St-ack → n ≢ Inv-St → (n < row_count → get_or x n 0 ≡ get_or p n 0) → (n ≡ SioErr → sioerr y ≡ sioerr q)
    → (told x y n).word ≡ (told p q n).word
unfolding told stored
told_same p x q y n a b at s = rw (ne_eqb n Inv-St-ack a, ne_eqb n Inv-St b) (go (eqb n SioErr) (ltb n row_count) refl refl)
  where
    go : (t u : Bool) → eqb n SioErr ≡ t → ltb n row_count ≡ u
        → (pick {A = Told} t (record { plant = without14 x; port = with_sioerr 0 y; word = sioerr y }) (record { plant = x; port = y; word = pick u (get_or x n 0) 0 })).word
        ≡ (pick {A = Told} t (record { plant = without14 p; port = with_sioerr 0 q; word = sioerr q }) (record { plant = p; port = q; word = pick u (get_or p n 0) 0 })).word
    go true u e f = s (eqb-true n SioErr e)
    go false true e f = at (ltb-true n row_count f)
    go false false e f = refl

-- a card that tells a word, told otherwise
pub tells_word : (c : Card) → Sound c → (n w : ℕ) → (told c.plant c.port.numbers n).word ≡ w → Tells c n w
tells_word c sound n w e = subst (Tells c n) e (tells c sound n)

unchanged : (c d : Card) → Sound c → Sound d → (n : ℕ) → (told d.plant d.port.numbers n).word ≡ (told c.plant c.port.numbers n).word → Unchanged c d n
unchanged c d sound then n e = ((told c.plant c.port.numbers n).word, tells c sound n, tells_word d then n _ e)

-- ---- the port's numbers
module _ (q : Numbers) (three : length q ≡ 3) where
  sum_0 : sum (with_sum 0 q) ≡ 0
  sum_0 = get_or-set_same q Sum 0 0 (omega (arith, three))

  sioerr_stays : sioerr (with_sum 0 q) ≡ sioerr q
  sioerr_stays = get_or-set_other q Sum Sioerr 0 0 (λ e. absurd (omega (arith, e)))

  sioerr_0 : sioerr (with_sum 0 (with_sioerr 0 q)) ≡ 0
  sioerr_0 = get_or-set_other (with_sioerr 0 q) Sum Sioerr 0 0 (λ e. absurd (omega (arith, e))) ∙ get_or-set_same q Sioerr 0 0 (omega (arith, three))

-- ---- a row was written
module _ (c : Card) (sound : Sound c) (d : Card) (then : Sound d) (row w : ℕ) (low : row ≤ SCMD) (plant : d.plant ≡ applied row w c.plant)
    (port : d.port.numbers ≡ with_sum 0 c.port.numbers) (who : d.identity ≡ c.identity) where
  abbrev p : Plant
  p = c.plant

  abbrev q : Numbers
  q = c.port.numbers

  -- what is told then, of the plant and the port that are then
  told_then : (n v : ℕ) → (told (applied row w p) (with_sum 0 q) n).word ≡ v → (told d.plant d.port.numbers n).word ≡ v
  told_then n v e = ap (λ (x : Plant). (told x d.port.numbers n).word) plant ∙ ap (λ (y : Numbers). (told (applied row w p) y n).word) port ∙ e

  -- the numbers behind the rows stay
  number_stays : (n : ℕ) → row_count ≤ n → get_or d.plant n 0 ≡ get_or p n 0
  number_stays n h =
      ap (λ (x : Plant). get_or x n 0) plant
      ∙ leaves p row w n (λ e. absurd (omega (arith, e, low, h))) (λ e. absurd (omega (arith, e, h))) (λ _ _ e. absurd (omega (arith, e, h))) (λ _ _ e. absurd (omega (arith, e, h)))

  -- "A write of a different Mode also sets Setpoint to 0"
  setpoint_0 : row ≡ Mode → get_or p Mode 0 ≢ w → (told (applied row w p) (with_sum 0 q) Setpoint).word ≡ 0
  setpoint_0 e k =
      ap (λ (t : Told). t.word) (tells_stored (applied row w p) (with_sum 0 q) Setpoint (omega arith) (λ z. absurd (omega (arith, z))) (λ z. absurd (omega (arith, z))) (λ z. absurd (omega (arith, z))))
      ∙ ap (λ (r : ℕ). get_or (applied r w p) Setpoint 0) e ∙ sets_setpoint p w sound.plant.sized k

  -- "SCMD becomes 0 when .. MODE changes to a different number"
  scmd_0 : row ≡ MODE → get_or p MODE 0 ≢ w → (told (applied row w p) (with_sum 0 q) SCMD).word ≡ 0
  scmd_0 e k =
      ap (λ (t : Told). t.word) (tells_stored (applied row w p) (with_sum 0 q) SCMD (omega arith) (λ z. absurd (omega (arith, z))) (λ z. absurd (omega (arith, z))) (λ z. absurd (omega (arith, z))))
      ∙ ap (λ (r : ℕ). get_or (applied r w p) SCMD 0) e ∙ sets_scmd p w sound.plant.sized k

  pub wrote : WriteLeaves c (record { row = record { 0 = row }; word = w }) d
  wrote =
      record {
        stored = tells_word d then row w (told_then row w (stores_told p (with_sum 0 q) row w sound.plant.sized low));
        setpoint = λ k. tells_word d then Setpoint 0 (told_then Setpoint 0 (setpoint_0 k.0 k.1));
        scmd = λ k. tells_word d then SCMD 0 (told_then SCMD 0 (scmd_0 k.0 k.1));
        others = λ n k.
            unchanged c d sound then n
            (told_then n _
            (told_same p (applied row w p) q (with_sum 0 q) n k.own.0 k.own.1
            (λ _. leaves p row w n k.other k.own.2 (λ e x z. k.setpoint (e, x) z) (λ e x z. k.scmd (e, x) z)) (λ _. sioerr_stays q sound.numbers)));
        stays =
            record {
              protocol = ap protocol port ∙ get_or-set_other q Sum ProtocolAt 0 0 (λ e. absurd (omega (arith, e)));
              station = number_stays Station (omega arith);
              din1 = number_stays DIN1 (omega arith);
              causes = number_stays Causes (omega arith);
              identity = who;
            };
        flags = number_stays Flags (omega arith);
        sum = ap sum port ∙ sum_0 q sound.numbers;
      }

-- ---- the broadcast stop
module _ (c : Card) (sound : Sound c) (d : Card) (then : Sound d) (only_one : flags c.plant ≡ only 14) (plant : d.plant ≡ stopped c.plant)
    (port : d.port.numbers ≡ with_sum 0 (with_sioerr 0 c.port.numbers)) (who : d.identity ≡ c.identity) (serial : protocol_of c ≡ 0) where
  abbrev p₀ : Plant
  p₀ = c.plant

  abbrev q₀ : Numbers
  q₀ = c.port.numbers

  -- SCMD is 0 where a flag stands
  standing : scmd p₀ ≡ 0
  standing = go (eqb (scmd p₀) 0) refl
    where
      go : (t : Bool) → eqb (scmd p₀) 0 ≡ t → scmd p₀ ≡ 0
      go true e = eqb-true (scmd p₀) 0 e
      go false e = let none : flags p₀ ≡ 0 = (sound.plant.commanded (eqb-false (scmd p₀) 0 e)).2 in absurd (omega (arith, none, only_one))

  -- every number but the flags and the word that is kept stays
  stop_stays : (n : ℕ) → n ≢ Flags → n ≢ Drive-Status → get_or (stopped p₀) n 0 ≡ get_or p₀ n 0
  unfolding stopped halted
  stop_stays n other word = righted_other _ n word ∙ go (eqb n SCMD) refl
    where
      flags_other : get_or (with_flags (bit_and (flags p₀) (all_but 14)) p₀) n 0 ≡ get_or p₀ n 0
      flags_other = get_or-set_other p₀ Flags n _ 0 (λ e. absurd (other e))

      go : (t : Bool) → eqb n SCMD ≡ t → get_or (with_scmd 0 (with_flags (bit_and (flags p₀) (all_but 14)) p₀)) n 0 ≡ get_or p₀ n 0
      go true e =
          rw (eqb-true n SCMD e)
          (get_or-set_same (with_flags (bit_and (flags p₀) (all_but 14)) p₀) SCMD 0 0 (omega (arith, length-set p₀ Flags (bit_and (flags p₀) (all_but 14)), sound.plant.sized)) ∙ sym standing)
      go false e = get_or-set_other (with_flags (bit_and (flags p₀) (all_but 14)) p₀) SCMD n 0 0 (λ k. absurd (eqb-false n SCMD e k)) ∙ flags_other

  flags_0 : flags (stopped p₀) ≡ 0
  unfolding stopped halted
  flags_0 =
      righted_other _ Flags (λ e. absurd (omega (arith, e))) ∙ get_or-set_other (with_flags (bit_and (flags p₀) (all_but 14)) p₀) SCMD Flags 0 0 (λ e. absurd (omega (arith, e)))
      ∙ get_or-set_same p₀ Flags (bit_and (flags p₀) (all_but 14)) 0 (omega (arith, sound.plant.sized)) ∙ ap (λ (f : ℕ). bit_and f (all_but 14)) only_one

  at_stop : (n : ℕ) → n ≢ Flags → n ≢ Drive-Status → get_or d.plant n 0 ≡ get_or p₀ n 0
  at_stop n other word = ap (λ (x : Plant). get_or x n 0) plant ∙ stop_stays n other word

  pub stopped_is : StopLeaves c (record { row = record { 0 = SCMD }; word = 0 }) d
  stopped_is =
      record {
        nfo = serial;
        command = refl;
        only_14 = only_one;
        sioerr = tells_word d then SioErr 0 (ap (λ (t : Told). t.word) (tells_sioerr d.plant d.port.numbers) ∙ ap sioerr port ∙ sioerr_0 q₀ sound.numbers);
        others = λ n k status.
            unchanged c d sound then n
            (told_same p₀ d.plant q₀ d.port.numbers n status.0 status.1 (λ l. at_stop n (λ e. absurd (omega (arith, e, l))) status.2) (λ e. absurd (k e)));
        stays =
            record {
              protocol =
                  ap protocol port ∙ get_or-set_other (with_sioerr 0 q₀) Sum ProtocolAt 0 0 (λ e. absurd (omega (arith, e)))
                  ∙ get_or-set_other q₀ Sioerr ProtocolAt 0 0 (λ e. absurd (omega (arith, e)));
              station = at_stop Station (λ e. absurd (omega (arith, e))) (λ e. absurd (omega (arith, e)));
              din1 = at_stop DIN1 (λ e. absurd (omega (arith, e))) (λ e. absurd (omega (arith, e)));
              causes = at_stop Causes (λ e. absurd (omega (arith, e))) (λ e. absurd (omega (arith, e)));
              identity = who;
            };
        flags = ap flags plant ∙ flags_0;
        sum = ap sum port ∙ sum_0 (with_sioerr 0 q₀) (length-set q₀ Sioerr 0 ∙ sound.numbers);
      }

-- ---- a row was told
besides_same : (c d : Card) → d.plant ≡ c.plant → d.port.numbers ≡ c.port.numbers → d.identity ≡ c.identity → besides d ≡ besides c
besides_same c d e f g = rw (e, f, g)

module _ (c d : Card) (n : ℕ) (plant : d.plant ≡ (told c.plant c.port.numbers n).plant) (port : d.port.numbers ≡ with_sum 0 (told c.plant c.port.numbers n).port)
    (who : d.identity ≡ c.identity) where
  -- any other read changes neither the plant nor the port
  told_keeps : n ≢ Inv-St-ack → n ≢ SioErr → ((told c.plant c.port.numbers n).plant ≡ c.plant) × ((told c.plant c.port.numbers n).port ≡ c.port.numbers)
  unfolding told
  told_keeps a s =
      rw (ne_eqb n Inv-St-ack a, ne_eqb n SioErr s) (pick_both (λ (t : Told). (t.plant ≡ c.plant) × (t.port ≡ c.port.numbers)) (eqb n Inv-St) (λ _. (refl, refl)) (λ _. (refl, refl)))

  pub read_leaves : ReadLeaves c n d
  unfolding acknowledged without14
  read_leaves =
      record {
        others = λ a s. let k = told_keeps a s in besides_same (card_sum 0 c) d (plant ∙ k.0) (port ∙ ap (with_sum 0) k.1) who;
        acknowledged = λ e.
            let t : told c.plant c.port.numbers n ≡ _ = ap (told c.plant c.port.numbers) e ∙ tells_ack c.plant c.port.numbers in (
              bit_and (flags c.plant) (bit_or (causes c.plant) (only 14)),
              besides_same (flagged_with (bit_and (flags c.plant) (bit_or (causes c.plant) (only 14))) c) d (plant ∙ ap (λ (x : Told). x.plant) t) (port ∙ ap (λ (x : Told). with_sum 0 x.port) t) who,
              λ k l. masks.common k _ _ ∙ ap (both (flagged k (flags c.plant))) (put_in (causes c.plant) 14 k (omega arith) l),
            );
        zeroed = λ e.
            let t : told c.plant c.port.numbers n ≡ _ = ap (told c.plant c.port.numbers) e ∙ tells_sioerr c.plant c.port.numbers in (
              bit_and (flags c.plant) (all_but 14),
              besides_same (flagged_with (bit_and (flags c.plant) (all_but 14)) (sio_err_zeroed c)) d (plant ∙ ap (λ (x : Told). x.plant) t) (port ∙ ap (λ (x : Told). with_sum 0 x.port) t) who,
              λ k l. taken_out (flags c.plant) 14 k (omega arith) l,
            );
      }
