-- What events, acknowledging and stopping do to the flags and causes, number by number. Assumes nothing.
use Rattle.std.specs.Prelude.{◌≡◌, true, not, ℕ, ◌<◌, eqb}
use Rattle.base.specs.Choice.{both, either}
use Rattle.drive.specs.Plant.{Plant, Sized, mode, causes, flags}
use Rattle.drive.specs.Flags.{flagged}
use Rattle.drive.specs.Faults.{acknowledged, without14, only14}
use Rattle.drive.specs.Events.{is_fault, raised, ended, port_fault}

pub record Flagging : Type 0 where
  -- raising fault n: its flag and its cause, and no other
  pub raised_flags : (p : Plant) (n k : ℕ) → Sized p → is_fault n ≡ true → k < 32 → flagged k (flags (raised n p).plant) ≡ either (flagged k (flags p)) (eqb k n)
  pub raised_causes : (p : Plant) (n k : ℕ) → Sized p → is_fault n ≡ true → k < 32 → flagged k (causes (raised n p).plant) ≡ either (flagged k (causes p)) (eqb k n)
  -- ending its cause: that cause, and no other; no flag
  pub ended_causes : (p : Plant) (n k : ℕ) → Sized p → is_fault n ≡ true → k < 32 → flagged k (causes (ended n p).plant) ≡ both (flagged k (causes p)) (not (eqb k n))
  pub ended_flags : (p : Plant) (n : ℕ) → flags (ended n p).plant ≡ flags p
  -- acknowledging keeps the flags whose cause stands, and 14
  pub acknowledged_flags : (p : Plant) (k : ℕ) → Sized p → k < 32 → flagged k (flags (acknowledged p)) ≡ both (flagged k (flags p)) (either (flagged k (causes p)) (eqb k 14))
  -- a port's fault at MODE 3 raises 14, and no other
  pub port_flags : (p : Plant) (k : ℕ) → Sized p → mode p ≡ 3 → k < 32 → flagged k (flags (port_fault p)) ≡ either (flagged k (flags p)) (eqb k 14)
  -- reading SioErr and the broadcast stop clear 14, and no other
  pub without14_flags : (p : Plant) (k : ℕ) → Sized p → k < 32 → flagged k (flags (without14 p)) ≡ both (flagged k (flags p)) (not (eqb k 14))
  -- 14 is the only flag
  pub only14_flags : (p : Plant) (k : ℕ) → only14 p ≡ true → k < 32 → flagged k (flags p) ≡ eqb k 14
