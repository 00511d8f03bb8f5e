-- Masks: a fault number n is bit n. Assumes nothing.
use Rattle.std.specs.Prelude.{◌≡◌, Bool, true, false, not, ℕ, zero, suc, ◌+◌, ◌-◌, ◌/◌, ◌%◌, ◌^◌, ◌<◌, eqb}
use Rattle.std.specs.Int.Bits.{bit_or, bit_and}
use Rattle.base.specs.Choice.{pick, both, either}

-- number n is in the mask
unfoldable pub flagged : ℕ → ℕ → Bool
flagged n mask = eqb (mask / 2 ^ n % 2) 1

-- the mask of number n alone
abbrev pub only : ℕ → ℕ
only n = 2 ^ n

-- the mask of every number but n
abbrev pub all_but : ℕ → ℕ
all_but n = 2 ^ 32 - 1 - 2 ^ n

-- ---- the lowest number in the mask: the first of the k bits from n on that is set, else n + k
unfoldable pub lowest_from : ℕ → ℕ → ℕ → ℕ
lowest_from zero n mask = n
lowest_from (suc k) n mask = pick (flagged n mask) n (lowest_from k (n + 1) mask)

unfoldable pub lowest_of : ℕ → ℕ
lowest_of mask = lowest_from 32 0 mask

-- ---- what the masks say, number by number
pub record Masks : Type 0 where
  pub joined : (k a b : ℕ) → flagged k (bit_or a b) ≡ either (flagged k a) (flagged k b)
  pub common : (k a b : ℕ) → flagged k (bit_and a b) ≡ both (flagged k a) (flagged k b)
  pub alone : (n k : ℕ) → n < 32 → k < 32 → flagged k (only n) ≡ eqb k n
  pub others : (n k : ℕ) → n < 32 → k < 32 → flagged k (all_but n) ≡ not (eqb k n)
  -- a mask in which no number is, is 0
  pub none : (mask : ℕ) → mask < 2 ^ 32 → ((k : ℕ) → k < 32 → flagged k mask ≡ false) → mask ≡ 0
  -- the lowest number is in the mask, and none below it is
  pub lowest_in : (mask : ℕ) → mask < 2 ^ 32 → (mask ≡ 0 → ⊥) → flagged (lowest_of mask) mask ≡ true
  pub lowest_first : (mask k : ℕ) → k < lowest_of mask → flagged k mask ≡ false
