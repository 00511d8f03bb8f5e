-- "13 (addresses above .. 247, a broadcast read, counts outside the limits)": what cannot be said is exactly that. Assumes nothing.
use mathlib.Core.Path.{◌≡◌, refl}
use mathlib.Core.Logic.{◌⊎◌, inl, inr, ⊎_elim, ◌↔◌}
use mathlib.Core.Bool.{Bool, true, false, true≢false}
use Prim.Native.Nat.{ℕ, ◌/◌, ◌%◌, ◌<◌}
use native.Mathlib.Omega.{arith}
use borrow.Author.Tests.{ne_eqb, lt-leb, eqb-false, leb-false}
use lib.Dec.{leb, eqb}
use Rattle.base.specs.Choice.{both}
use Rattle.modbus.specs.Request.{between}
use Rattle.master_request.specs.declared.Ask.{Ask}
use Rattle.master_request.specs.declared.Ask.TheVariants.{Holding, Input, One, Many}
use Rattle.master_request.specs.Ask.{read_sayable, many_sayable, sayable}
use Rattle.master_request.specs.Said.{Outside, Unsayable}

-- ---- where a test fails
above : (a b : ℕ) → (leb a b ≡ false) ↔ (b < a)
above a b = (leb-false a b, lt-leb a b)

-- two joined tests fail where one of them does
one_of : {A B : Type 0} (s t : Bool) → (s ≡ false) ↔ A → (t ≡ false) ↔ B → (both s t ≡ false) ↔ (A ⊎ B)
one_of true t f g = ((λ e. inr (g.0 e)), ⊎_elim (λ a. absurd (true≢false (f.1 a))) g.1)
one_of false t f g = ((λ e. inl (f.0 refl)), (λ u. refl))

outside : (low high n : ℕ) → (between low high n ≡ false) ↔ Outside low high n
outside low high n = one_of (leb low n) (leb n high) (above low n) (above n high)

-- ---- a read, and a 16 of so many register bytes
pub read_unsayable : (address count : ℕ) → (read_sayable address count ≡ false) ↔ ((address ≡ 0) ⊎ ((247 < address) ⊎ Outside 1 125 count))
unfolding read_sayable
read_unsayable address count =
    let (f, g) = one_of (between 1 247 address) (between 1 125 count) (outside 1 247 address) (outside 1 125 count) in (
      (λ e. ⊎_elim (⊎_elim (λ l. inl (omega arith)) (λ h. inr (inl h))) (λ o. inr (inr o)) (f e)),
      ⊎_elim (λ z. g (inl (inl (omega arith)))) (⊎_elim (λ h. g (inl (inr h))) (λ o. g (inr o))),
    )

odd : (n : ℕ) → (eqb (n % 2) 0 ≡ false) ↔ (n % 2 ≡ 1)
odd n = ((λ e. let o : n % 2 ≡ 0 → ⊥ = eqb-false (n % 2) 0 e in omega arith), (λ e. ne_eqb (n % 2) 0 (λ z. omega arith)))

pub many_unsayable : (address bytes : ℕ) → (many_sayable address bytes ≡ false) ↔ ((247 < address) ⊎ ((bytes % 2 ≡ 1) ⊎ Outside 1 123 (bytes / 2)))
unfolding many_sayable
many_unsayable address bytes =
    one_of (leb address 247) (both (eqb (bytes % 2) 0) (between 1 123 (bytes / 2))) (above address 247)
    (one_of (eqb (bytes % 2) 0) (between 1 123 (bytes / 2)) (odd bytes) (outside 1 123 (bytes / 2)))

-- 13, exactly then
pub unsayable : (address : ℕ) (ask : Ask) (bytes : ℕ) → (sayable address ask bytes ≡ false) ↔ Unsayable address ask bytes
unfolding sayable
unsayable address (Holding first count) bytes = read_unsayable address count
unsayable address (Input first count) bytes = read_unsayable address count
unsayable address (One register word) bytes = above address 247
unsayable address (Many first) bytes = many_unsayable address bytes
