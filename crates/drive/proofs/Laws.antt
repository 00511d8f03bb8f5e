-- The rules of the drive, case by case: each law's premises are what the code's tests and its callees showed. Assumes nothing.
use mathlib.Core.Path.{◌≡◌, refl, ap, ◌∙◌}
use mathlib.Core.Bool.{Bool, true, false, not}
use mathlib.Core.Logic.{◌⊎◌, inl, inr, ◌≢◌, ⊎_elim}
use Prim.Native.Nat.{ℕ, ◌*◌, ◌%◌, ◌^◌, ◌<◌}
use native.Mathlib.Nat.{one-mul, mod-eq_of_lt}
use native.Mathlib.Omega.{arith}
use lib.Dec.{eqb, leb}
use lib.Bits.{bit_or}
use lib.Pow.{pow-lt}
use borrow.Author.Tests.{ne_eqb, eqb-false, leb-true}
use Rattle.base.specs.Choice.{both, either}
use Rattle.base.proofs.Tests.{pick_both, both_out, either_out}
use Rattle.drive.specs.Plant.{Plant, mode, scmd, din1, flags}
use Rattle.drive.specs.Flags.{only}
use Rattle.drive.specs.Status.{active, flag_stands, runs, bit, ready, status_word}
use Rattle.drive.specs.Events.{healed, is_fault}

-- ---- faults
-- 1 << n
pub bit_is : (n : ℕ) → n < 32 → (1 * 2 ^ n) % 4294967296 ≡ only n
bit_is n h = ap (λ (k : ℕ). k % 4294967296) (one-mul (2 ^ n)) ∙ mod-eq_of_lt (pow-lt h)

pub fault_small : (n : ℕ) → is_fault n ≡ true → n < 32
unfolding is_fault
fault_small n e =
    ⊎_elim
    (λ l. let h = leb-true n 13 (both_out (leb 1 n) (leb n 13) l).1 in omega arith)
    (λ r. let h = leb-true n 23 (both_out (leb 16 n) (leb n 23) r).1 in omega arith)
    (either_out (both (leb 1 n) (leb n 13)) (both (leb 16 n) (leb n 23)) e)

-- ---- SiAdr after a restart: 0 and 95 become 1, and any other number stays
pub healed_these : (a : ℕ) → (a ≡ 0) ⊎ (a ≡ 95) → healed a ≡ 1
unfolding healed
healed_these a (inl e) = simp e
healed_these a (inr e) = simp e

pub healed_others : (a : ℕ) → a ≢ 0 → a ≢ 95 → healed a ≡ a
unfolding healed
healed_others a n m = simp (ne_eqb a 0 n, ne_eqb a 95 m)

-- so it is what 1 is, and what every number is that is neither
pub healed_both : (Q : ℕ → Type 0) (a : ℕ) → Q 1 → (a ≢ 0 → a ≢ 95 → Q a) → Q (healed a)
unfolding healed
healed_both Q a one other = pick_both Q (eqb a 0) (λ _. one) (λ n. pick_both Q (eqb a 95) (λ _. one) (λ m. other (eqb-false a 0 n) (eqb-false a 95 m)))

-- ---- Drive Status, by three tests: no flag stands, DIN1 is inactive, SCMD is 0
-- the code's two bits that hold the drive, and the definition's word at MODE 2, at MODE 3 and at another
abbrev held : Bool → Bool → ℕ
held calm inactive = bit_or (bit 3 (not calm)) (bit 6 inactive)

abbrev word : (auto bus : Bool) → Bool → Bool → Bool → ℕ
word auto bus calm inactive still =
    bit_or (bit_or (bit_or (bit_or
    (bit 0 (both bus (both (not inactive) (not (not calm)))))
    (bit 1 (either (both auto (both (not inactive) (not (not calm)))) (both bus (not still)))))
    (bit 3 (not calm)))
    (bit 6 (not (not inactive))))
    (bit 9 bus)

-- the code's word is the same, in every case
bus_word : (calm inactive still : Bool) → bit_or (bit_or (bit_or (held calm inactive) 512) (bit 0 (eqb (held calm inactive) 0))) (bit 1 (not still)) ≡ word false true calm inactive still
bus_word true true true = refl
bus_word true true false = refl
bus_word true false true = refl
bus_word true false false = refl
bus_word false true true = refl
bus_word false true false = refl
bus_word false false true = refl
bus_word false false false = refl

auto_word : (calm inactive still : Bool) → bit_or (held calm inactive) (bit 1 (eqb (held calm inactive) 0)) ≡ word true false calm inactive still
auto_word true true still = refl
auto_word true false still = refl
auto_word false true still = refl
auto_word false false still = refl

other_word : (calm inactive still : Bool) → held calm inactive ≡ word false false calm inactive still
other_word true true still = refl
other_word true false still = refl
other_word false true still = refl
other_word false false still = refl

module _ (p : Plant) (f a : ℕ) (fault : f ≡ bit 3 (not (eqb (flags p) 0))) (inactive : a ≡ bit 6 (eqb (din1 p) 0)) where
  pub word_bus : (r s : ℕ) → mode p ≡ 3 → r ≡ bit 0 (eqb (bit_or f a) 0) → s ≡ bit 1 (not (eqb (scmd p) 0)) → bit_or (bit_or (bit_or (bit_or f a) 512) r) s ≡ status_word p
  unfolding status_word ready runs active flag_stands
  word_bus r s m e g = rw (e, g, fault, inactive, m) (bus_word (eqb (flags p) 0) (eqb (din1 p) 0) (eqb (scmd p) 0))

  pub word_auto : (r : ℕ) → mode p ≡ 2 → r ≡ bit 1 (eqb (bit_or f a) 0) → bit_or (bit_or f a) r ≡ status_word p
  unfolding status_word ready runs active flag_stands
  word_auto r m e = rw (e, fault, inactive, m) (auto_word (eqb (flags p) 0) (eqb (din1 p) 0) (eqb (scmd p) 0))

  pub word_other : (mode p ≡ 2 → ⊥) → (mode p ≡ 3 → ⊥) → bit_or f a ≡ status_word p
  unfolding status_word ready runs active flag_stands
  word_other m n = rw (fault, inactive, ne_eqb (mode p) 2 m, ne_eqb (mode p) 3 n) (other_word (eqb (flags p) 0) (eqb (din1 p) 0) (eqb (scmd p) 0))
