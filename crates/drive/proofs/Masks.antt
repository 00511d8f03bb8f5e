-- Masks, bit by bit: what each says of a fault number, and the lowest number, which is the count of the zeros below it. Assumes nothing.
use mathlib.Core.Path.{◌≡◌, refl, sym, ap, ◌∙◌}
use mathlib.Core.Bool.{Bool, true, false, not}
use Prim.Native.Nat.{ℕ, zero, suc, ◌+◌, ◌*◌, ◌/◌, ◌%◌, ◌^◌, ◌≤◌, ◌<◌}
use native.Mathlib.Nat.{mod-lt, div-one, pow-suc, zero-add}
use native.Mathlib.Omega.{arith}
use lib.Bits.{bit_or, bit_and, or_shr, and_shr, or_mod, and_mod}
use lib.Count.{count_trailing_zeros, under}
use lib.Dec.{eqb, ltb}
use lib.Pow.{shr-shr}
use borrow.Author.Tests.{eqb-true, eqb-false, ltb-true, ltb-false}
use Rattle.base.specs.Choice.{pick, both, either}
use Rattle.base.specs.Bytes.{every_below}
use Rattle.base.proofs.Tests.{below_at}
use Rattle.drive.specs.Flags.{Masks, flagged, only, all_but, lowest_from, lowest_of}

-- ---- the count of trailing zeros
-- counted from bit n on
zeros_from : (k n mask : ℕ) → n + count_trailing_zeros k (mask / 2 ^ n) ≡ lowest_from k n mask
unfolding count_trailing_zeros lowest_from flagged
zeros_from zero n mask = omega arith
zeros_from (suc k) n mask = turn (mask / 2 ^ n % 2) (mod-lt (mask / 2 ^ n) (omega arith)) (zeros_from k (n + 1) mask)
  where
    turn : (digit : ℕ) → digit < 2 → n + 1 + count_trailing_zeros k (mask / 2 ^ (n + 1)) ≡ lowest_from k (n + 1) mask
        → n + under digit (count_trailing_zeros k (mask / 2 ^ n / 2)) ≡ pick (eqb digit 1) n (lowest_from k (n + 1) mask)
    turn zero h later = rw (shr-shr mask n 1) (omega arith)
    turn (suc zero) h later = omega arith
    turn (suc (suc digit)) h later = absurd (let z : ⊥ = omega arith in z)

-- in a mask of any width k the lowest number is the count of the zeros below it; of the mask 0 both are k
pub zeros_lowest : (k mask : ℕ) → count_trailing_zeros k mask ≡ lowest_from k 0 mask
zeros_lowest k mask = simp (div-one, zero-add) at (zeros_from k 0 mask)

-- ---- a digit of two masks
either_digit : (x y : ℕ) → x < 2 → y < 2 → eqb (bit_or x y) 1 ≡ either (eqb x 1) (eqb y 1)
either_digit zero zero g h = refl
either_digit zero (suc zero) g h = refl
either_digit (suc zero) zero g h = refl
either_digit (suc zero) (suc zero) g h = refl
either_digit (suc (suc x)) y g h = absurd (let z : ⊥ = omega arith in z)
either_digit zero (suc (suc y)) g h = absurd (let z : ⊥ = omega arith in z)
either_digit (suc zero) (suc (suc y)) g h = absurd (let z : ⊥ = omega arith in z)

both_digit : (x y : ℕ) → x < 2 → y < 2 → eqb (bit_and x y) 1 ≡ both (eqb x 1) (eqb y 1)
both_digit zero y g h = refl
both_digit (suc zero) zero g h = refl
both_digit (suc zero) (suc zero) g h = refl
both_digit (suc (suc x)) y g h = absurd (let z : ⊥ = omega arith in z)
both_digit (suc zero) (suc (suc y)) g h = absurd (let z : ⊥ = omega arith in z)

joined : (k a b : ℕ) → flagged k (bit_or a b) ≡ either (flagged k a) (flagged k b)
unfolding flagged
joined k a b =
    ap (λ (x : ℕ). eqb (x % 2) 1) (or_shr a b k)
    ∙ ap (λ (x : ℕ). eqb x 1) (or_mod (a / 2 ^ k) (b / 2 ^ k) 1)
    ∙ either_digit (a / 2 ^ k % 2) (b / 2 ^ k % 2) (mod-lt (a / 2 ^ k) (omega arith)) (mod-lt (b / 2 ^ k) (omega arith))

common : (k a b : ℕ) → flagged k (bit_and a b) ≡ both (flagged k a) (flagged k b)
unfolding flagged
common k a b =
    ap (λ (x : ℕ). eqb (x % 2) 1) (and_shr a b k)
    ∙ ap (λ (x : ℕ). eqb x 1) (and_mod (a / 2 ^ k) (b / 2 ^ k) 1)
    ∙ both_digit (a / 2 ^ k % 2) (b / 2 ^ k % 2) (mod-lt (a / 2 ^ k) (omega arith)) (mod-lt (b / 2 ^ k) (omega arith))

-- ---- a mask of one number and one of all others, computed for each of the 32
abbrev same : Bool → Bool → Bool
same true b = b
same false b = not b

same_is : (a b : Bool) → same a b ≡ true → a ≡ b
same_is true true e = refl
same_is true false e = sym e
same_is false true e = e
same_is false false e = refl

-- a test that was computed for every two numbers below 32
below_both : (test : ℕ → ℕ → Bool) (n k : ℕ) → every_below 32 (λ m. every_below 32 (test m)) ≡ true → n < 32 → k < 32 → test n k ≡ true
below_both test n k e g h = below_at 32 (test n) k (below_at 32 (λ m. every_below 32 (test m)) n e g) h

alone : (n k : ℕ) → n < 32 → k < 32 → flagged k (only n) ≡ eqb k n
unfolding flagged
alone n k g h = same_is (flagged k (only n)) (eqb k n) (below_both (λ m j. same (flagged j (only m)) (eqb j m)) n k refl g h)

others : (n k : ℕ) → n < 32 → k < 32 → flagged k (all_but n) ≡ not (eqb k n)
unfolding flagged
others n k g h = same_is (flagged k (all_but n)) (not (eqb k n)) (below_both (λ m j. same (flagged j (all_but m)) (not (eqb j m))) n k refl g h)

-- ---- a mask that has no number
-- half of a mask has each number one lower
halved : (k f : ℕ) → flagged k (f / 2) ≡ flagged (suc k) f
unfolding flagged
halved k f = ap (λ (x : ℕ). eqb (x % 2) 1) (shr-shr f 1 k ∙ ap (λ (n : ℕ). f / 2 ^ n) (let q : 1 + k ≡ suc k = omega arith in q))

even : (f : ℕ) → flagged 0 f ≡ false → f % 2 ≡ 0
unfolding flagged
even f e =
    let o : f % 2 ≡ 1 → ⊥ = λ q. eqb-false _ _ e (ap (λ (x : ℕ). x % 2) (div-one f) ∙ q) in
    let l : f % 2 < 2 = mod-lt f (omega arith) in
    omega arith

none_below : (j f : ℕ) → f < 2 ^ j → ((k : ℕ) → k < j → flagged k f ≡ false) → f ≡ 0
none_below zero f h e = omega arith
none_below (suc j) f h e =
    let twice : f < 2 ^ j * 2 = rw pow-suc at h in
    let half : f / 2 < 2 ^ j = omega arith in
    let rest : f / 2 ≡ 0 = none_below j (f / 2) half (λ k l. halved k f ∙ e (suc k) (omega arith)) in
    omega (arith, even f (e 0 (omega arith)))

none : (mask : ℕ) → mask < 2 ^ 32 → ((k : ℕ) → k < 32 → flagged k mask ≡ false) → mask ≡ 0
none mask h e = none_below 32 mask h e

-- ---- the lowest number
first_from : (j n f k : ℕ) → n ≤ k → k < lowest_from j n f → flagged k f ≡ false
unfolding lowest_from
first_from zero n f k g h = absurd (let z : ⊥ = omega arith in z)
first_from (suc j) n f k g h = go (flagged n f) refl h (first_from j (n + 1) f k)
  where
    here : (s : Bool) → eqb k n ≡ s → flagged n f ≡ false → (n + 1 ≤ k → flagged k f ≡ false) → flagged k f ≡ false
    here true q e later = rw (eqb-true k n q) e
    here false q e later = let o : k ≡ n → ⊥ = eqb-false k n q in later (omega arith)

    go : (t : Bool) → flagged n f ≡ t → k < pick t n (lowest_from j (n + 1) f) → (n + 1 ≤ k → k < lowest_from j (n + 1) f → flagged k f ≡ false) → flagged k f ≡ false
    go true e l later = absurd (let z : ⊥ = omega arith in z)
    go false e l later = here (eqb k n) refl e (λ m. later m l)

in_from : (j n f : ℕ) → lowest_from j n f < n + j → flagged (lowest_from j n f) f ≡ true
unfolding lowest_from
in_from zero n f h = absurd (let z : ⊥ = omega arith in z)
in_from (suc j) n f h = go (flagged n f) refl h (in_from j (n + 1) f)
  where
    go : (t : Bool) → flagged n f ≡ t → pick t n (lowest_from j (n + 1) f) < n + suc j → (lowest_from j (n + 1) f < n + 1 + j → flagged (lowest_from j (n + 1) f) f ≡ true)
        → flagged (pick t n (lowest_from j (n + 1) f)) f ≡ true
    go true e l later = e
    go false e l later = later (omega arith)

lowest_first : (mask k : ℕ) → k < lowest_of mask → flagged k mask ≡ false
unfolding lowest_of
lowest_first mask k h = first_from 32 0 mask k (omega arith) h

lowest_in : (mask : ℕ) → mask < 2 ^ 32 → (mask ≡ 0 → ⊥) → flagged (lowest_of mask) mask ≡ true
unfolding lowest_of
lowest_in mask h o = go (ltb (lowest_from 32 0 mask) 32) refl
  where
    go : (t : Bool) → ltb (lowest_from 32 0 mask) 32 ≡ t → flagged (lowest_from 32 0 mask) mask ≡ true
    go true e = in_from 32 0 mask (omega (arith, ltb-true (lowest_from 32 0 mask) 32 e))
    go false e = absurd (o (none mask h (λ k l. first_from 32 0 mask k (omega arith) (omega (arith, ltb-false (lowest_from 32 0 mask) 32 e)))))

pub masks : Masks
masks = record { joined = joined; common = common; alone = alone; others = others; none = none; lowest_in = lowest_in; lowest_first = lowest_first }
