-- The word that is kept: what its bits say, that making it right changes nothing else, and that every change of a plant leaves it right. Assumes nothing.
use mathlib.Core.Path.{◌≡◌, refl, sym, ap, ◌∙◌}
use mathlib.Core.Logic.{◌≢◌}
use mathlib.Core.Bool.{Bool, true, false, true≢false, not}
use Prim.Native.Nat.{ℕ, ◌^◌, ◌<◌}
use native.Mathlib.Omega.{arith}
use borrow.Author.Tests.{ne_eqb, not-true}
use lib.Bits.{bit_or, or_lt}
use lib.Dec.{eqb}
use lib.ListN.{length, get_or, set, length-set}
use lib.Pow.{pow-lt}
use lib.Seq.{get_or-set_same, get_or-set_other}
use Rattle.base.specs.Choice.{both, either}
use Rattle.base.proofs.Tests.{pick_both, both_true, both_false, either_false, below_at}
use Rattle.table.specs.Names.{MODE, SCMD, FrqAct, I-rms, OpTime, Drive-Status}
use Rattle.table.specs.Table.{rows, start_words}
use Rattle.drive.specs.Plant.{Plant, Sized, DIN1, Causes, Flags, mode, scmd, din1, flags, started}
use Rattle.drive.specs.Flags.{flagged}
use Rattle.drive.specs.Status.{active, flag_stands, runs, bit, ready, status_word, righted, Right, StatusBits}
use Rattle.drive.specs.Faults.{reflagged, halted, flag_raised, acknowledged, without14, stopped}
use Rattle.drive.specs.Events.{restarted, is_fault, Event, raised, ended, port_fault, switched, with_active, with_measured}
use Rattle.drive.specs.declared.events.Measured.{Measured}
use Rattle.drive.specs.declared.events.Measured.TheVariants.{Frq, Rms, Optime}
use Rattle.drive.proofs.Masks.{masks}

-- ---- bit by bit
-- bit n, where the test holds
bit_at : (n k : ℕ) (t : Bool) → n < 32 → k < 32 → flagged k (bit n t) ≡ both (eqb k n) t
unfolding flagged
bit_at n k true g h = masks.alone n k g h ∙ sym (both_true (eqb k n))
bit_at n k false g h = not-true (flagged k 0) (below_at 32 (λ m. not (flagged m 0)) k refl h) ∙ sym (both_false (eqb k n))

join : (k a b : ℕ) (s t : Bool) → flagged k a ≡ s → flagged k b ≡ t → flagged k (bit_or a b) ≡ either s t
join k a b s t e f = masks.joined k a b ∙ rw (e, f)

bits_at : (p : Plant) (k : ℕ) → k < 32
    → flagged k (status_word p)
    ≡ either (either (either (either
    (both (eqb k 0) (ready p))
    (both (eqb k 1) (runs p)))
    (both (eqb k 3) (flag_stands p)))
    (both (eqb k 6) (not (active p))))
    (both (eqb k 9) (eqb (mode p) 3))
unfolding status_word
bits_at p k h =
    join k _ _ _ _ (join k _ _ _ _ (join k _ _ _ _ (join k _ _ _ _
    (bit_at 0 k (ready p) (omega arith) h)
    (bit_at 1 k (runs p) (omega arith) h))
    (bit_at 3 k (flag_stands p) (omega arith) h))
    (bit_at 6 k (not (active p)) (omega arith) h))
    (bit_at 9 k (eqb (mode p) 3) (omega arith) h)

bit_small : (n : ℕ) (t : Bool) → n < 16 → bit n t < 2 ^ 16
bit_small n t h = pick_both (λ (x : ℕ). x < 2 ^ 16) t (λ _. pow-lt h) (λ _. omega arith)

small : (p : Plant) → status_word p < 2 ^ 16
unfolding status_word
small p =
    or_lt 16 _ _ (or_lt 16 _ _ (or_lt 16 _ _ (or_lt 16 _ _
    (bit_small 0 (ready p) (omega arith))
    (bit_small 1 (runs p) (omega arith)))
    (bit_small 3 (flag_stands p) (omega arith)))
    (bit_small 6 (not (active p)) (omega arith)))
    (bit_small 9 (eqb (mode p) 3) (omega arith))

pub status_bits : (p : Plant) → StatusBits p
status_bits p =
    record {
      bit_0 = bits_at p 0 (omega arith) ∙ simp either_false;
      bit_1 = bits_at p 1 (omega arith) ∙ simp either_false;
      bit_3 = bits_at p 3 (omega arith) ∙ simp either_false;
      bit_6 = bits_at p 6 (omega arith) ∙ simp either_false;
      bit_9 = bits_at p 9 (omega arith);
      others = λ k h a b c d e. bits_at p k h ∙ rw (ne_eqb k 0 a, ne_eqb k 1 b, ne_eqb k 3 c, ne_eqb k 6 d, ne_eqb k 9 e);
      width = small p;
    }

-- ---- making it right
pub righted_sized : (p : Plant) → length (righted p) ≡ length p
unfolding righted
righted_sized p = length-set p Drive-Status (status_word p)

-- every other number is as it was
pub righted_other : (p : Plant) (i : ℕ) → i ≢ Drive-Status → get_or (righted p) i 0 ≡ get_or p i 0
unfolding righted
righted_other p i other = get_or-set_other p Drive-Status i (status_word p) 0 other

-- the rules look at four numbers
word_by : (p x : Plant) → mode x ≡ mode p → scmd x ≡ scmd p → din1 x ≡ din1 p → flags x ≡ flags p → status_word x ≡ status_word p
unfolding status_word ready runs flag_stands active
word_by p x m s d f = rw (m, s, d, f)

righted_word : (p : Plant) → Sized p → get_or (righted p) Drive-Status 0 ≡ status_word p
unfolding righted
righted_word p size = get_or-set_same p Drive-Status (status_word p) 0 (omega (arith, size))

pub righted_right : (p : Plant) → Sized p → Right (righted p)
righted_right p size =
    record {
      sized = righted_sized p ∙ size;
      word =
          righted_word p size
          ∙ sym (word_by p (righted p) (righted_other p MODE (λ e. omega (arith, e))) (righted_other p SCMD (λ e. omega (arith, e)))
          (righted_other p DIN1 (λ e. omega (arith, e))) (righted_other p Flags (λ e. omega (arith, e))));
    }

-- the word is at this name, or looks at the number there
looks : ℕ → Bool
looks i = either (eqb i MODE) (either (eqb i SCMD) (either (eqb i DIN1) (either (eqb i Flags) (eqb i Drive-Status))))

-- a number that is set elsewhere leaves it right
set_right : (p : Plant) (i v : ℕ) → looks i ≡ false → Right p → Right (set p i v)
unfolding looks
set_right p i v off right =
    record { sized = length-set p i v ∙ right.sized; word = there Drive-Status refl ∙ right.word ∙ sym (word_by p (set p i v) (there MODE refl) (there SCMD refl) (there DIN1 refl) (there Flags refl)) }
  where
    there : (k : ℕ) → looks k ≡ true → get_or (set p i v) k 0 ≡ get_or p k 0
    there k on = get_or-set_other p i k v 0 (λ e. true≢false (sym on ∙ ap looks e ∙ off))

causes_right : (x : ℕ) (p : Plant) → Right p → Right (set p Causes x)
unfolding looks
causes_right x p = set_right p Causes x refl

-- ---- every change of a plant
reflagged_right : (x : ℕ) (p : Plant) → Right p → Right (reflagged x p)
unfolding reflagged
reflagged_right x p right = pick_both Right (eqb (flags p) x) (λ _. right) (λ _. righted_right _ (simp length-set right.sized))

halted_right : (x : ℕ) (p : Plant) → Right p → Right (halted x p)
unfolding halted
halted_right x p right = righted_right _ (simp length-set right.sized)

-- a read of Inv St, a read of SioErr, the broadcast stop
pub acknowledged_right : (p : Plant) → Right p → Right (acknowledged p)
unfolding acknowledged
acknowledged_right p = reflagged_right _ p

pub without14_right : (p : Plant) → Right p → Right (without14 p)
unfolding without14
without14_right p = reflagged_right _ p

pub stopped_right : (p : Plant) → Right p → Right (stopped p)
unfolding stopped
stopped_right p = halted_right _ p

-- a fault, the end of its cause, a fault of the port
pub raised_right : (n : ℕ) (p : Plant) → Right p → Right (raised n p).plant
unfolding raised flag_raised
raised_right n p right =
    pick_both (λ (e : Event). Right e.plant) (is_fault n) (λ _. causes_right _ _ (halted_right _ p right)) (λ _. right)

pub ended_right : (n : ℕ) (p : Plant) → Right p → Right (ended n p).plant
unfolding ended
ended_right n p right = pick_both (λ (e : Event). Right e.plant) (is_fault n) (λ _. causes_right _ p right) (λ _. right)

pub fault_right : (p : Plant) → Right p → Right (port_fault p)
unfolding port_fault flag_raised
fault_right p right = pick_both Right (eqb (mode p) 3) (λ _. halted_right _ p right) (λ _. right)

-- DIN1
switched_sized : (active : Bool) (p : Plant) → Sized p → Sized (switched active p)
unfolding switched
switched_sized true p size = simp length-set size
switched_sized false p size = simp length-set size

pub active_right : (active : Bool) (p : Plant) → Right p → Right (with_active active p)
unfolding with_active
active_right active p right = righted_right _ (switched_sized active p right.sized)

-- the measured numbers
pub measured_right : (m : Measured) (p : Plant) → Right p → Right (with_measured m p)
unfolding with_measured looks
measured_right (Frq w) p = set_right p FrqAct w refl
measured_right (Rms w) p = set_right p I-rms w refl
measured_right (Optime w) p = set_right p OpTime w refl

-- a restart, and the start
pub restarted_right : (p : Plant) → Sized p → Right (restarted p)
unfolding restarted
restarted_right p size = righted_right _ (simp length-set size)

pub started_right : Right started
unfolding started start_words rows status_word ready runs flag_stands active
started_right = record { sized = refl; word = refl }
