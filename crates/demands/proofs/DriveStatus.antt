-- Drive Status bit by bit, in the words of document 02. Assumes nothing.
use mathlib.Core.Path.{◌≡◌, sym, ◌∙◌}
use mathlib.Core.Logic.{◌⊎◌, inl, inr, ◌≢◌, ◌↔◌}
use mathlib.Core.Bool.{Bool, true, not}
use Prim.Native.Nat.{ℕ}
use borrow.Author.Tests.{eq-eqb, ne_eqb, eqb-true, eqb-false, not-true, not-false}
use lib.Dec.{eqb}
use Rattle.base.specs.Choice.{both, either}
use Rattle.base.proofs.Tests.{both_out, both_in, either_out, either_left, either_right}
use Rattle.drive.specs.Plant.{Plant, mode, scmd, din1, flags}
use Rattle.drive.specs.Status.{active, flag_stands, runs, ready, status_word, StatusBits}
use Rattle.drive.proofs.Righted.{status_bits}
use Rattle.demands.specs.Effects.{DriveStatus}

-- a bit that is a test says what the test says
by_test : (b t : Bool) (A : Type 0) → b ≡ t → (t ≡ true) ↔ A → (b ≡ true) ↔ A
by_test b t A e (out, back) = (λ h. out (sym e ∙ h), λ a. e ∙ back a)

-- a number that is not 0, and one that is, by their tests
not_0 : (x : ℕ) → (not (eqb x 0) ≡ true) ↔ (x ≢ 0)
not_0 x = (λ t. eqb-false x 0 (not-true (eqb x 0) t), λ n. rw (ne_eqb x 0 n))

is_0 : (x : ℕ) → (not (not (eqb x 0)) ≡ true) ↔ (x ≡ 0)
is_0 x = (λ t. eqb-true x 0 (not-false (eqb x 0) (not-true (not (eqb x 0)) t)), λ e. rw (eq-eqb x 0 e))

module _ (p : Plant) where
  -- the tests of the drive, each in words
  active_is : (active p ≡ true) ↔ (din1 p ≢ 0)
  unfolding active
  active_is = not_0 (din1 p)

  inactive_is : (not (active p) ≡ true) ↔ (din1 p ≡ 0)
  unfolding active
  inactive_is = is_0 (din1 p)

  fault_is : (flag_stands p ≡ true) ↔ (flags p ≢ 0)
  unfolding flag_stands
  fault_is = not_0 (flags p)

  calm_is : (not (flag_stands p) ≡ true) ↔ (flags p ≡ 0)
  unfolding flag_stands
  calm_is = is_0 (flags p)

  mode_is : (k : ℕ) → (eqb (mode p) k ≡ true) ↔ (mode p ≡ k)
  mode_is k = (eqb-true (mode p) k, eq-eqb (mode p) k)

  -- at this MODE, DIN1 active and no flag
  free_at : (k : ℕ) → (both (eqb (mode p) k) (both (active p) (not (flag_stands p))) ≡ true) ↔ ((mode p ≡ k) × (din1 p ≢ 0) × (flags p ≡ 0))
  free_at k = (
    λ h.
        let a = both_out (eqb (mode p) k) (both (active p) (not (flag_stands p))) h in
        let b = both_out (active p) (not (flag_stands p)) a.1 in
        ((mode_is k).0 a.0, active_is.0 b.0, calm_is.0 b.1),
    λ h. both_in ((mode_is k).1 h.0) (both_in (active_is.1 h.1) (calm_is.1 h.2)),
  )

  ready_is : (ready p ≡ true) ↔ ((mode p ≡ 3) × (din1 p ≢ 0) × (flags p ≡ 0))
  unfolding ready
  ready_is = free_at 3

  runs_is : (runs p ≡ true) ↔ (((mode p ≡ 2) × (din1 p ≢ 0) × (flags p ≡ 0)) ⊎ ((mode p ≡ 3) × (scmd p ≢ 0)))
  unfolding runs
  runs_is = (λ h. out (either_out auto bus h), back)
    where
      auto : Bool
      auto = both (eqb (mode p) 2) (both (active p) (not (flag_stands p)))

      bus : Bool
      bus = both (eqb (mode p) 3) (not (eqb (scmd p) 0))

      out : (auto ≡ true) ⊎ (bus ≡ true) → ((mode p ≡ 2) × (din1 p ≢ 0) × (flags p ≡ 0)) ⊎ ((mode p ≡ 3) × (scmd p ≢ 0))
      out (inl a) = inl ((free_at 2).0 a)
      out (inr b) =
          let t = both_out (eqb (mode p) 3) (not (eqb (scmd p) 0)) b in
          inr ((mode_is 3).0 t.0, (not_0 (scmd p)).0 t.1)

      back : ((mode p ≡ 2) × (din1 p ≢ 0) × (flags p ≡ 0)) ⊎ ((mode p ≡ 3) × (scmd p ≢ 0)) → either auto bus ≡ true
      back (inl a) = either_left auto bus ((free_at 2).1 a)
      back (inr (m, s)) = either_right auto bus (both_in ((mode_is 3).1 m) ((not_0 (scmd p)).1 s))

  pub word_says : DriveStatus p (status_word p)
  word_says =
      let bits : StatusBits p = status_bits p in
      record {
        ready = by_test _ (ready p) _ bits.bit_0 ready_is;
        running = by_test _ (runs p) _ bits.bit_1 runs_is;
        fault = by_test _ (flag_stands p) _ bits.bit_3 fault_is;
        inactive = by_test _ (not (active p)) _ bits.bit_6 inactive_is;
        bus = by_test _ (eqb (mode p) 3) _ bits.bit_9 (mode_is 3);
        others = bits.others;
        width = bits.width;
      }
