-- What keeps a plant sound: each change of it is a run of numbers set, and a number is set only where it is right at its name. A write of them is refused unless it
-- is allowed, events only set SCMD to 0, and masks of flags lose numbers or gain faults and 14. Assumes nothing.
use mathlib.Core.Path.{◌≡◌, refl, sym, ap, subst, ◌∙◌}
use mathlib.Core.Logic.{◌⊎◌, inl, inr}
use mathlib.Core.Bool.{Bool, true, false, not, false≢true}
use Prim.Native.Nat.{ℕ, ◌^◌, ◌<◌}
use native.Mathlib.Omega.{arith}
use borrow.Author.Tests.{not-true, not-false, eqb-true, eqb-false, ltb-true, ltb-false}
use lib.Bits.{bit_or, bit_and, and_zero_l, and_le_l, or_lt}
use lib.Pow.{pow-lt}
use lib.Dec.{eqb, ltb}
use lib.ListN.{length, get_or, set, length-set}
use lib.Seq.{get_or-set_same, get_or-set_other, set_out, set-get_or, set_comm}
use Rattle.base.specs.Choice.{either}
use Rattle.base.proofs.Tests.{pick_both, both_out, either_out, not_both, below_at}
use Rattle.table.specs.Table.{rows, start_words}
use Rattle.table.specs.Names.{SiAdr, SioTot, MbAdr, Mode, Setpoint, MODE, SCMD, FrqAct, I-rms, OpTime, Drive-Status}
use Rattle.port.specs.Port.{Numbers, sum}
use Rattle.drive.specs.Plant.{Plant, Sized, DIN1, Causes, Flags, Station, si_adr, mode, scmd, flags, causes, with_si_adr, with_scmd, started}
use Rattle.drive.specs.Flags.{flagged, only}
use Rattle.drive.specs.Status.{active, flag_stands, righted}
use Rattle.drive.specs.Faults.{reflagged, halted, flag_raised, acknowledged, without14, stopped}
use Rattle.drive.specs.Events.{healed, restarted, is_fault, Event, raised, ended, port_fault, switched, with_active, with_measured}
use Rattle.drive.specs.declared.events.Measured.{Measured}
use Rattle.drive.specs.declared.events.Measured.TheVariants.{Frq, Rms, Optime}
use Rattle.drive.proofs.Laws.{fault_small}
use Rattle.drive.proofs.Masks.{masks}
use Rattle.drive.proofs.Flagging.{put_in}
use Rattle.permit.specs.Refusals.{allowed, permitted}
use Rattle.service.specs.Write.{followed, applied}
use Rattle.master_reply.specs.Told.{Within}
use Rattle.demands.proofs.Allowing.{mb_adr, mode_one, scmd_one}
use Rattle.demands.specs.Kept.{Command, Commanded, OnlyFaults, OnlyFaultsAnd14, SoundPlant, SumRight}

-- ---- masks of 32 bits: a number that is in one of them has the property P
abbrev Only : (ℕ → Type 0) → ℕ → Type 0
Only P mask = (mask < 2 ^ 32) × ((k : ℕ) → k < 32 → flagged k mask ≡ true → P k)

-- a number that has it is put in
only_with : (P : ℕ → Type 0) (mask n : ℕ) → n < 32 → P n → Only P mask → Only P (bit_or mask (only n))
only_with P mask n small new old = (or_lt 32 mask (only n) old.0 (pow-lt small), λ k h e. go k h (either_out (flagged k mask) (eqb k n) (sym (put_in mask n k small h) ∙ e)))
  where
    go : (k : ℕ) → k < 32 → (flagged k mask ≡ true) ⊎ (eqb k n ≡ true) → P k
    go k h (inl y) = old.1 k h y
    go k h (inr y) = subst P (sym (eqb-true k n y)) new

-- numbers are taken out
only_less : (P : ℕ → Type 0) (mask rest : ℕ) → Only P mask → Only P (bit_and mask rest)
only_less P mask rest old =
    (omega (arith, and_le_l mask rest, old.0), λ k h e. old.1 k h (both_out (flagged k mask) (flagged k rest) (sym (masks.common k mask rest) ∙ e)).0)

-- no number is in 0
none_in : (P : ℕ → Type 0) → Only P 0
unfolding flagged
none_in P = (omega arith, λ k h e. absurd (not_both e (not-true (flagged k 0) (below_at 32 (λ n. not (flagged n 0)) k refl h))))

abbrev Fault : ℕ → Type 0
Fault k = is_fault k ≡ true

abbrev FaultOr14 : ℕ → Type 0
FaultOr14 k = (is_fault k ≡ true) ⊎ (k ≡ 14)

-- 14 is no fault of the host's, and is not in 0
14_no_fault : is_fault 14 ≡ true → ⊥
unfolding is_fault
14_no_fault e = false≢true e

14_not_in_0 : (mask : ℕ) → mask ≡ 0 → flagged 14 mask ≡ true → ⊥
14_not_in_0 mask z e = (none_in (λ k. ⊥)).1 14 (omega arith) (sym (ap (flagged 14) z) ∙ e)

-- ---- THE LAW: a number that is right at its name keeps the plant sound
-- the one where the test holds, else the other
abbrev Choose : Bool → Type 0 → Type 0 → Type 0
Choose true A B = A
Choose false A B = B

-- it is there if each of the two is there in its case
choose : {A B : Type 0} (t : Bool) → (t ≡ true → A) → (t ≡ false → B) → Choose t A B
choose true a b = a refl
choose false a b = b refl

-- the number at the name k, once that at i is v: past the end of the plant nothing is set
pub at_name : (Q : ℕ → Type 0) (p : Plant) (i k v : ℕ) → Q (get_or p k 0) → (i ≡ k → Q v) → Q (get_or (set p i v) k 0)
at_name Q p i k v keep right = go (eqb i k) (ltb k (length p)) refl refl
  where
    go : (same there : Bool) → eqb i k ≡ same → ltb k (length p) ≡ there → Q (get_or (set p i v) k 0)
    go false there e t = rw (get_or-set_other p i k v 0 (λ r. eqb-false i k e (sym r))) keep
    go true true e t = rw (eqb-true i k e, get_or-set_same p k v 0 (ltb-true k (length p) t)) (right (eqb-true i k e))
    go true false e t = rw (eqb-true i k e, set_out p k v (ltb-false k (length p) t)) keep

-- SCMD is not 0
abbrev ToldToRun : Plant → Type 0
ToldToRun p = scmd p ≡ 0 → ⊥

-- what the number set at a name must be while SCMD is not 0, and where SCMD may become so
abbrev Obeys : Plant → ℕ → ℕ → Type 0
Obeys p i v =
    Choose (ltb SCMD i)
    (Choose (eqb i DIN1) (ToldToRun p → not (eqb v 0) ≡ true) (Choose (eqb i Flags) (ToldToRun p → v ≡ 0) (Unit {0})))
    (Choose (eqb i MODE) (ToldToRun p → v ≡ 3) (Choose (eqb i SCMD) ((v ≡ 0 → ⊥) → Commanded p) (Unit {0})))

module _ (q : Numbers) where
  -- a sound plant beside a port of these numbers
  abbrev pub Fits : Plant → Type 0
  Fits p = SoundPlant p × SumRight p q

  -- what the number set at a name must be at any time, where MODE is m and the flags are f: 14 stands only at MODE 3
  abbrev Right : (m f : ℕ) → ℕ → ℕ → Type 0
  Right m f i v =
      Choose (ltb SCMD i)
      (Choose (eqb i Causes) (OnlyFaults v)
      (Choose (eqb i Flags) (OnlyFaultsAnd14 v × (flagged 14 v ≡ true → m ≡ 3)) (Choose (eqb i Station) (Within 1 247 v) (Unit {0}))))
      (Choose (eqb i SioTot) (v ≡ 0 → sum q ≡ 0)
      (Choose (eqb i MbAdr) (Within 1 247 v)
      (Choose (eqb i MODE) (Within 1 3 v × (flagged 14 f ≡ true → v ≡ 3)) (Choose (eqb i SCMD) (Command v) (Unit {0})))))

  abbrev RightIn : Plant → ℕ → ℕ → Type 0
  RightIn p i v = Right (mode p) (flags p) i v

  -- one number is set
  set_keeps : (p : Plant) (i v : ℕ) → Fits p → RightIn p i v → Obeys p i v → Fits (set p i v)
  unfolding active
  set_keeps p i v (keep, total) right obeys = (
    record {
      sized = length-set p i v ∙ keep.sized;
      address = at_name (Within 1 247) p i MbAdr v keep.address (is MbAdr);
      mode = at_name (Within 1 3) p i MODE v keep.mode (λ e. (is MODE e).0);
      scmd = at_name Command p i SCMD v keep.scmd (is SCMD);
      commanded = λ r. commanded r (at_name (λ (x : ℕ). (x ≡ 0 → ⊥) → Commanded p) p i SCMD v keep.commanded (does SCMD) r);
      station = at_name (Within 1 247) p i Station v keep.station (is Station);
      causes = at_name OnlyFaults p i Causes v keep.causes (is Causes);
      flags = at_name OnlyFaultsAnd14 p i Flags v keep.flags (λ e. (is Flags e).0);
      bus = at_name (λ (x : ℕ). flagged 14 x ≡ true → mode (set p i v) ≡ 3) p i Flags v stood raised_now;
    },
    at_name (λ (x : ℕ). x ≡ 0 → sum q ≡ 0) p i SioTot v total (is SioTot),
  )
    where
      is : (k : ℕ) → i ≡ k → RightIn p k v
      is k e = subst (λ (x : ℕ). RightIn p x v) e right

      -- 14 stood before, or stands now
      stood : flagged 14 (flags p) ≡ true → mode (set p i v) ≡ 3
      stood b = at_name (λ (x : ℕ). x ≡ 3) p i MODE v (keep.bus b) (λ e. (is MODE e).1 b)

      raised_now : i ≡ Flags → flagged 14 v ≡ true → mode (set p i v) ≡ 3
      raised_now e b = at_name (λ (x : ℕ). x ≡ 3) p i MODE v ((is Flags e).1 b) (λ h. absurd (omega (arith, e, h)))

      does : (k : ℕ) → i ≡ k → Obeys p k v
      does k e = subst (λ (x : ℕ). Obeys p x v) e obeys

      -- a number set at another name leaves SCMD as it was
      ran : ToldToRun (set p i v) → (k : ℕ) → i ≡ k → (SCMD ≡ k → ⊥) → ToldToRun p
      ran r k e o z = r (get_or-set_other p i SCMD v 0 (λ h. o (h ∙ e)) ∙ z)

      commanded : ToldToRun (set p i v) → Commanded p → Commanded (set p i v)
      commanded r (m, a, f) = (
        at_name (λ (x : ℕ). x ≡ 3) p i MODE v m (λ e. does MODE e (ran r MODE e (λ h. omega (arith, h)))),
        at_name (λ (x : ℕ). not (eqb x 0) ≡ true) p i DIN1 v a (λ e. does DIN1 e (ran r DIN1 e (λ h. omega (arith, h)))),
        at_name (λ (x : ℕ). x ≡ 0) p i Flags v f (λ e. does Flags e (ran r Flags e (λ h. omega (arith, h)))),
      )

  -- the word that is kept: nothing here asks for it
  righted_keeps : (p : Plant) → Fits p → Fits (righted p)
  unfolding righted
  righted_keeps p keep = set_keeps p Drive-Status _ keep tt tt

  -- "SCMD becomes 0"
  scmd_keeps : (p : Plant) → Fits p → Fits (with_scmd 0 p)
  scmd_keeps p keep = set_keeps p SCMD 0 keep (inl refl) (λ n. absurd (n refl))

  -- while it is 0, there is nothing to obey
  idle_obeys : (p : Plant) (i v : ℕ) → scmd p ≡ 0 → (i ≡ SCMD → ⊥) → Obeys p i v
  idle_obeys p i v z o =
      choose (ltb SCMD i) (λ _. choose (eqb i DIN1) (λ _ r. absurd (r z)) (λ _. choose (eqb i Flags) (λ _ r. absurd (r z)) (λ _. tt)))
      (λ _. choose (eqb i MODE) (λ _ r. absurd (r z)) (λ _. choose (eqb i SCMD) (λ e. absurd (o (eqb-true i SCMD e))) (λ _. tt)))

  -- it is, once it was set so
  scmd_0 : (p : Plant) → Sized p → scmd (with_scmd 0 p) ≡ 0
  scmd_0 p size = get_or-set_same p SCMD 0 0 (omega (arith, size))

  -- so any number that is right may be set where SCMD becomes 0, too
  halted_keeps : (p : Plant) (i v : ℕ) → Fits p → (i ≡ SCMD → ⊥) → RightIn p i v → Fits (with_scmd 0 (set p i v))
  halted_keeps p i v keep o right =
      rw (set_comm p i SCMD v 0 o) (set_keeps (with_scmd 0 p) i v (scmd_keeps p keep) still (idle_obeys (with_scmd 0 p) i v (scmd_0 p keep.0.sized) o))
    where
      -- MODE and the flags are as they were
      still : RightIn (with_scmd 0 p) i v
      still =
          subst (λ (m : ℕ). Right m (flags (with_scmd 0 p)) i v) (sym (get_or-set_other p SCMD MODE 0 0 (λ h. omega (arith, h))))
          (subst (λ (f : ℕ). Right (mode p) f i v) (sym (get_or-set_other p SCMD Flags 0 0 (λ h. omega (arith, h)))) right)

  -- ---- flags
  -- "SCMD becomes 0 when .. a fault flag is raised"
  raised_flag : (p : Plant) (n : ℕ) → n < 32 → FaultOr14 n → (n ≡ 14 → mode p ≡ 3) → Fits p → Fits (flag_raised (only n) p)
  unfolding flag_raised halted
  raised_flag p n small new at_3 keep =
      righted_keeps _ (halted_keeps p Flags _ keep (λ h. omega (arith, h))
      (only_with FaultOr14 (flags p) n small new keep.0.flags, λ b. go (either_out (flagged 14 (flags p)) (eqb 14 n) (sym (put_in (flags p) n 14 small (omega arith)) ∙ b))))
    where
      go : (flagged 14 (flags p) ≡ true) ⊎ (eqb 14 n ≡ true) → mode p ≡ 3
      go (inl y) = keep.0.bus y
      go (inr y) = at_3 (sym (eqb-true 14 n y))

  -- some are cleared; where SCMD is not 0, there were none
  cleared_keeps : (p : Plant) (rest : ℕ) → Fits p → Fits (set p Flags (bit_and (flags p) rest))
  cleared_keeps p rest keep =
      set_keeps p Flags _ keep
      (only_less FaultOr14 (flags p) rest keep.0.flags, λ b. keep.0.bus (both_out (flagged 14 (flags p)) (flagged 14 rest) (sym (masks.common 14 (flags p) rest) ∙ b)).0)
      (λ r. ap (λ (x : ℕ). bit_and x rest) (keep.0.commanded r).2 ∙ and_zero_l rest)

  reflagged_keeps : (p : Plant) (rest : ℕ) → Fits p → Fits (reflagged (bit_and (flags p) rest) p)
  unfolding reflagged
  reflagged_keeps p rest keep = pick_both Fits (eqb (flags p) (bit_and (flags p) rest)) (λ _. keep) (λ _. righted_keeps _ (cleared_keeps p rest keep))

  -- by a read of Inv St, by a read of SioErr, and by the broadcast stop
  pub acknowledged_keeps : (p : Plant) → Fits p → Fits (acknowledged p)
  unfolding acknowledged
  acknowledged_keeps p = reflagged_keeps p _

  pub without14_keeps : (p : Plant) → Fits p → Fits (without14 p)
  unfolding without14
  without14_keeps p = reflagged_keeps p _

  pub stopped_keeps : (p : Plant) → Fits p → Fits (stopped p)
  unfolding stopped halted
  stopped_keeps p keep = righted_keeps _ (scmd_keeps _ (cleared_keeps p _ keep))

  -- ---- a write, beside a sum of 0
  module _ (zero : sum q ≡ 0) (p : Plant) (keep : Fits p) (row w : ℕ) (can : allowed p row w ≡ true) (calm : flag_stands p ≡ false) (may : permitted p row w ≡ true) where
    -- what is allowed at a row is right there
    at : (k : ℕ) → eqb row k ≡ true → allowed p k w ≡ true
    at k e = sym (ap (λ (i : ℕ). allowed p i w) (eqb-true row k e)) ∙ can

    calm_0 : flags p ≡ 0
    unfolding flag_stands
    calm_0 = eqb-true (flags p) 0 (not-false (eqb (flags p) 0) calm)

    right : ltb SCMD row ≡ false → RightIn p row w
    right l =
        choose (ltb SCMD row) (λ e. absurd (not_both e l))
        (λ _. choose (eqb row SioTot) (λ _ _. zero)
        (λ _. choose (eqb row MbAdr) (λ e. mb_adr p w (at MbAdr e))
        (λ _. choose (eqb row MODE) (λ e. (mode_one p w (at MODE e), λ b. absurd (14_not_in_0 (flags p) calm_0 b))) (λ _. choose (eqb row SCMD) (λ e. scmd_one p w (at SCMD e)) (λ _. tt)))))

    -- "SCMD is written only at MODE 3; run values need DIN1 active", and no flag stands where anything is written
    commands : eqb row SCMD ≡ true → (w ≡ 0 → ⊥) → Commanded p
    unfolding permitted
    commands e o = (eqb-true (mode p) 3 rule.0, runs (either_out (eqb w 0) (active p) rule.1), calm_0)
      where
        rule : (eqb (mode p) 3 ≡ true) × (either (eqb w 0) (active p) ≡ true)
        rule = both_out (eqb (mode p) 3) (either (eqb w 0) (active p)) (rw e at may)

        runs : (eqb w 0 ≡ true) ⊎ (active p ≡ true) → active p ≡ true
        runs (inl z) = absurd (o (eqb-true w 0 z))
        runs (inr a) = a

    -- a row other than MODE holds the word
    stored : ltb SCMD row ≡ false → eqb row MODE ≡ false → Fits (set p row w)
    stored l m =
        set_keeps p row w keep (right l)
        (choose (ltb SCMD row) (λ e. absurd (not_both e l))
        (λ _. choose (eqb row MODE) (λ e. absurd (not_both e m)) (λ _. choose (eqb row SCMD) commands (λ _. tt))))

    -- "A write of a different Mode also sets Setpoint to 0"; "SCMD becomes 0 when .. MODE changes to a different number"
    followed_keeps : ltb SCMD row ≡ false → Fits (followed row (set p row w))
    unfolding followed
    followed_keeps l =
        pick_both Fits (eqb row Mode) (λ e. set_keeps (set p row w) Setpoint 0 (stored l (ap (λ (i : ℕ). eqb i MODE) (eqb-true row Mode e))) tt tt)
        (λ _. pick_both Fits (eqb row MODE) (λ e. halted_keeps p row w keep (λ h. omega (arith, h, eqb-true row MODE e)) (right l)) (stored l))

    -- the same word again changes nothing
    pub applied_keeps : Fits (applied row w p)
    unfolding applied
    applied_keeps =
        pick_both Fits (ltb SCMD row) (λ _. keep)
        (λ l. pick_both Fits (eqb (get_or p row 0) w) (λ e. rw (← eqb-true (get_or p row 0) w e, set-get_or p row 0) keep) (λ _. righted_keeps _ (followed_keeps l)))

  -- ---- the host's events
  -- "The host raises one (both set) or ends a cause (the flag stays)"
  pub raised_keeps : (n : ℕ) (p : Plant) → Fits p → Fits (raised n p).plant
  unfolding raised
  raised_keeps n p keep =
      pick_both (λ (e : Event). Fits e.plant) (is_fault n)
      (λ f. set_keeps _ Causes _ (raised_flag p n (fault_small n f) (inl f) (λ e. absurd (14_no_fault (sym (ap is_fault e) ∙ f))) keep) (only_with Fault (causes p) n (fault_small n f) f keep.0.causes) tt) (λ _. keep)

  pub ended_keeps : (n : ℕ) (p : Plant) → Fits p → Fits (ended n p).plant
  unfolding ended
  ended_keeps n p keep = pick_both (λ (e : Event). Fits e.plant) (is_fault n) (λ _. set_keeps p Causes _ keep (only_less Fault (causes p) _ keep.0.causes) tt) (λ _. keep)

  -- "SCMD becomes 0 when DIN1 goes inactive"
  pub active_keeps : (active : Bool) (p : Plant) → Fits p → Fits (with_active active p)
  unfolding with_active switched
  active_keeps true p keep = righted_keeps _ (set_keeps p DIN1 1 keep tt (λ _. refl))
  active_keeps false p keep = righted_keeps _ (halted_keeps p DIN1 0 keep (λ h. omega (arith, h)) tt)

  -- any number is right at the rows that the host sets
  pub measured_keeps : (m : Measured) (p : Plant) → Fits p → Fits (with_measured m p)
  unfolding with_measured
  measured_keeps (Frq w) p keep = set_keeps p FrqAct w keep tt tt
  measured_keeps (Rms w) p keep = set_keeps p I-rms w keep tt tt
  measured_keeps (Optime w) p keep = set_keeps p OpTime w keep tt tt

  -- "Either one at MODE 3 also raises flag 14"
  pub fault_keeps : (p : Plant) → Fits p → Fits (port_fault p)
  unfolding port_fault
  fault_keeps p keep = pick_both Fits (eqb (mode p) 3) (λ m. raised_flag p 14 (omega arith) (inr refl) (λ _. eqb-true (mode p) 3 m) keep) (λ _. keep)

  -- ---- start and restart
  -- MbAdr is right for our own address, the causes for the flags, and 1 for MODE once SCMD is 0
  pub restarted_keeps : (p : Plant) → Fits p → Fits (restarted p)
  unfolding restarted
  restarted_keeps p keep =
      righted_keeps _
      (set_keeps _ MODE 1 (halted_keeps _ Flags (causes p) ours (λ h. omega (arith, h)) ((keep.0.causes.0, λ k h e. inl (keep.0.causes.1 k h e)), λ b. absurd (no_14 b)))
      ((omega arith, omega arith), λ b. absurd (no_14 (sym (ap (flagged 14) then) ∙ b)))
      (λ r. absurd (r (scmd_0 (set ready Flags (causes p)) (length-set ready Flags (causes p) ∙ ours.0.sized)))))
    where
      addressed : Plant
      addressed = set p Station (get_or p MbAdr 0)

      ready : Plant
      ready = with_si_adr (healed (si_adr p)) addressed

      ours : Fits ready
      ours = set_keeps addressed SiAdr _ (set_keeps p Station _ keep keep.0.address tt) tt tt

      -- 14 has no cause
      no_14 : flagged 14 (causes p) ≡ true → ⊥
      no_14 b = 14_no_fault (keep.0.causes.1 14 (omega arith) b)

      then : flags (with_scmd 0 (set ready Flags (causes p))) ≡ causes p
      then =
          get_or-set_other (set ready Flags (causes p)) SCMD Flags 0 0 (λ h. omega (arith, h)) ∙ get_or-set_same ready Flags (causes p) 0 (omega (arith, ours.0.sized))

-- the column Start
pub started_sound : SoundPlant started
unfolding started start_words rows
started_sound =
    record {
      sized = refl;
      address = (omega arith, omega arith);
      mode = (omega arith, omega arith);
      scmd = inl refl;
      commanded = λ r. absurd (r refl);
      station = (omega arith, omega arith);
      causes = none_in Fault;
      flags = none_in FaultOr14;
      bus = λ b. absurd (14_not_in_0 0 refl b);
    }
