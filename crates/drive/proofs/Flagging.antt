-- What events, acknowledging and stopping do to the flags and causes, number by number: each is a mask, and masks are read bit by bit. Assumes nothing.
use mathlib.Core.Path.{◌≡◌, refl, ap, ◌∙◌}
use mathlib.Core.Bool.{Bool, true, false, not}
use Prim.Native.Nat.{ℕ, ◌+◌, ◌<◌}
use native.Mathlib.Omega.{arith}
use lib.Bits.{bit_or, bit_and}
use lib.Dec.{eqb}
use lib.ListN.{length, length-set}
use lib.Seq.{get_or-set_same, get_or-set_other}
use borrow.Author.Tests.{eq-eqb, eqb-true}
use Rattle.base.specs.Choice.{both, either}
use Rattle.base.proofs.Tests.{pick_both}
use Rattle.table.specs.Names.{SCMD, row_count}
use Rattle.drive.specs.Plant.{Plant, Sized, Causes, Flags, mode, causes, flags, with_causes, with_flags}
use Rattle.drive.specs.Flags.{flagged, only, all_but}
use Rattle.drive.specs.Faults.{reflagged, halted, flag_raised, acknowledged, without14, only14}
use Rattle.drive.specs.Events.{is_fault, raised, ended, port_fault}
use Rattle.drive.specs.Flagging.{Flagging}
use Rattle.drive.proofs.Laws.{fault_small}
use Rattle.drive.proofs.Masks.{masks}
use Rattle.drive.proofs.Righted.{righted_sized, righted_other}

-- a mask with number n put in, and with it taken out
pub put_in : (mask n k : ℕ) → n < 32 → k < 32 → flagged k (bit_or mask (only n)) ≡ either (flagged k mask) (eqb k n)
put_in mask n k g h = masks.joined k mask (only n) ∙ ap (either (flagged k mask)) (masks.alone n k g h)

pub taken_out : (mask n k : ℕ) → n < 32 → k < 32 → flagged k (bit_and mask (all_but n)) ≡ both (flagged k mask) (not (eqb k n))
taken_out mask n k g h = masks.common k mask (all_but n) ∙ ap (both (flagged k mask)) (masks.others n k g h)

-- ---- what was set is read back, and what was not is as it was
flags_set : (p : Plant) (x : ℕ) → Sized p → flags (with_flags x p) ≡ x
flags_set p x s = get_or-set_same p Flags x 0 (omega (arith, s))

causes_set : (p : Plant) (x : ℕ) → length p ≡ row_count + 4 → causes (with_causes x p) ≡ x
causes_set p x s = get_or-set_same p Causes x 0 (omega (arith, s))

flags_halted : (p : Plant) (x : ℕ) → Sized p → flags (halted x p) ≡ x
unfolding halted
flags_halted p x s = righted_other _ Flags (λ q. absurd (omega (arith, q))) ∙ get_or-set_other (with_flags x p) SCMD Flags 0 0 (λ q. absurd (omega (arith, q))) ∙ flags_set p x s

flags_again : (p : Plant) (x : ℕ) → Sized p → flags (reflagged x p) ≡ x
unfolding reflagged
flags_again p x s =
    pick_both (λ (y : Plant). flags y ≡ x) (eqb (flags p) x) (λ e. eqb-true (flags p) x e) (λ _. righted_other _ Flags (λ q. absurd (omega (arith, q))) ∙ flags_set p x s)

flags_raised : (p : Plant) (mask : ℕ) → Sized p → flags (flag_raised mask p) ≡ bit_or (flags p) mask
unfolding flag_raised
flags_raised p mask = flags_halted p (bit_or (flags p) mask)

raised_sized : (p : Plant) (mask : ℕ) → Sized p → Sized (flag_raised mask p)
unfolding flag_raised halted
raised_sized p mask s =
    righted_sized _ ∙ length-set (with_flags (bit_or (flags p) mask) p) SCMD 0 ∙ length-set p Flags (bit_or (flags p) mask) ∙ s

-- ---- number by number
raised_flags : (p : Plant) (n k : ℕ) → Sized p → is_fault n ≡ true → k < 32 → flagged k (flags (raised n p).plant) ≡ either (flagged k (flags p)) (eqb k n)
unfolding raised
raised_flags p n k s e h =
    simp e
    (ap (flagged k)
    (get_or-set_other (flag_raised (only n) p) Causes Flags (bit_or (causes p) (only n)) 0 (λ q. absurd (omega (arith, q))) ∙ flags_raised p (only n) s)
    ∙ put_in (flags p) n k (fault_small n e) h)

raised_causes : (p : Plant) (n k : ℕ) → Sized p → is_fault n ≡ true → k < 32 → flagged k (causes (raised n p).plant) ≡ either (flagged k (causes p)) (eqb k n)
unfolding raised
raised_causes p n k s e h =
    simp e
    (ap (flagged k) (causes_set (flag_raised (only n) p) (bit_or (causes p) (only n)) (raised_sized p (only n) s)) ∙ put_in (causes p) n k (fault_small n e) h)

ended_causes : (p : Plant) (n k : ℕ) → Sized p → is_fault n ≡ true → k < 32 → flagged k (causes (ended n p).plant) ≡ both (flagged k (causes p)) (not (eqb k n))
unfolding ended
ended_causes p n k s e h = simp e (ap (flagged k) (causes_set p (bit_and (causes p) (all_but n)) s) ∙ taken_out (causes p) n k (fault_small n e) h)

ended_flags : (p : Plant) (n : ℕ) → flags (ended n p).plant ≡ flags p
unfolding ended
ended_flags p n = go (is_fault n) refl
  where
    go : (t : Bool) → is_fault n ≡ t → flags (ended n p).plant ≡ flags p
    go true e = simp e (get_or-set_other p Causes Flags (bit_and (causes p) (all_but n)) 0 (λ q. absurd (omega (arith, q))))
    go false e = simp e

acknowledged_flags : (p : Plant) (k : ℕ) → Sized p → k < 32 → flagged k (flags (acknowledged p)) ≡ both (flagged k (flags p)) (either (flagged k (causes p)) (eqb k 14))
unfolding acknowledged
acknowledged_flags p k s h =
    ap (flagged k) (flags_again p (bit_and (flags p) (bit_or (causes p) (only 14))) s)
    ∙ masks.common k (flags p) (bit_or (causes p) (only 14))
    ∙ ap (both (flagged k (flags p))) (put_in (causes p) 14 k (omega arith) h)

port_flags : (p : Plant) (k : ℕ) → Sized p → mode p ≡ 3 → k < 32 → flagged k (flags (port_fault p)) ≡ either (flagged k (flags p)) (eqb k 14)
unfolding port_fault
port_flags p k s m h = simp (eq-eqb _ _ m) (ap (flagged k) (flags_raised p (only 14) s) ∙ put_in (flags p) 14 k (omega arith) h)

without14_flags : (p : Plant) (k : ℕ) → Sized p → k < 32 → flagged k (flags (without14 p)) ≡ both (flagged k (flags p)) (not (eqb k 14))
unfolding without14
without14_flags p k s h = ap (flagged k) (flags_again p (bit_and (flags p) (all_but 14)) s) ∙ taken_out (flags p) 14 k (omega arith) h

only14_flags : (p : Plant) (k : ℕ) → only14 p ≡ true → k < 32 → flagged k (flags p) ≡ eqb k 14
unfolding only14
only14_flags p k e h = ap (flagged k) (eqb-true _ _ e) ∙ masks.alone 14 k (omega arith) h

pub flagging : Flagging
flagging =
    record {
      raised_flags = raised_flags;
      raised_causes = raised_causes;
      ended_causes = ended_causes;
      ended_flags = ended_flags;
      acknowledged_flags = acknowledged_flags;
      port_flags = port_flags;
      without14_flags = without14_flags;
      only14_flags = only14_flags;
    }
