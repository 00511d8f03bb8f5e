-- Exclusive-or is associative. Assumes nothing.
use Rattle.std.proofs.Common.{◌≡◌, ℕ, zero, suc, ◌+◌, ◌*◌, ◌/◌, ◌%◌, ◌<◌, sym, refl, ap, ◌∙◌, ap₂, lt_trans, le_of_suc-le-suc, not-suc-le-zero, mod-lt, zero-lt-suc, lt-suc_self}
use lib.Arith.{bin_ind, digits_mod}
use lib.Bits.{bit_xor, differ, xor_step, xor_shr}

-- on digits of one bit
differ_assoc : (x y z : ℕ) → x < 2 → y < 2 → z < 2 → differ (differ x y) z ≡ differ x (differ y z)
differ_assoc zero y z hx hy hz = refl
differ_assoc (suc zero) zero z hx hy hz = refl
differ_assoc (suc zero) (suc zero) zero hx hy hz = refl
differ_assoc (suc zero) (suc zero) (suc zero) hx hy hz = refl
differ_assoc (suc zero) (suc zero) (suc (suc z)) hx hy hz = absurd (not-suc-le-zero (le_of_suc-le-suc (le_of_suc-le-suc hz)))
differ_assoc (suc zero) (suc (suc y)) z hx hy hz = absurd (not-suc-le-zero (le_of_suc-le-suc (le_of_suc-le-suc hy)))
differ_assoc (suc (suc x)) y z hx hy hz = absurd (not-suc-le-zero (le_of_suc-le-suc (le_of_suc-le-suc hx)))

differ_lt : (x y : ℕ) → x < 2 → y < 2 → differ x y < 2
differ_lt zero y hx hy = hy
differ_lt (suc x) zero hx hy = hx
differ_lt (suc zero) (suc y) hx hy = lt_trans (lt-suc_self y) hy
differ_lt (suc (suc x)) (suc y) hx hy = absurd (not-suc-le-zero (le_of_suc-le-suc (le_of_suc-le-suc hx)))

two : 0 < 2
two = zero-lt-suc 1

bit : (a b : ℕ) → bit_xor a b % 2 ≡ differ (a % 2) (b % 2)
bit a b = ap (λ (m : ℕ). m % 2) (xor_step a b) ∙ digits_mod (bit_xor (a / 2) (b / 2)) (differ_lt (a % 2) (b % 2) (mod-lt a two) (mod-lt b two))

pub xor_assoc : (a b c : ℕ) → bit_xor (bit_xor a b) c ≡ bit_xor a (bit_xor b c)
xor_assoc a =
    bin_ind (λ (n : ℕ). (b c : ℕ) → bit_xor (bit_xor n b) c ≡ bit_xor n (bit_xor b c)) (λ b c. refl)
    (λ n ih b c.
    xor_step (bit_xor n b) c
    ∙ ap₂ (λ (p q : ℕ). p * 2 + q)
    (ap (λ (m : ℕ). bit_xor m (c / 2)) (xor_shr n b 1) ∙ ih (b / 2) (c / 2) ∙ ap (bit_xor (n / 2)) (sym (xor_shr b c 1)))
    (ap (λ (m : ℕ). differ m (c % 2)) (bit n b)
    ∙ differ_assoc (n % 2) (b % 2) (c % 2) (mod-lt n two) (mod-lt b two) (mod-lt c two)
    ∙ ap (differ (n % 2)) (sym (bit b c)))
    ∙ sym (xor_step n (bit_xor b c)))
    a
