-- What can be said is within 01's limits. Assumes nothing.
use mathlib.Core.Path.{◌≡◌}
use mathlib.Core.Logic.{◌⊎◌, inl, inr}
use mathlib.Core.Bool.{true}
use Prim.Native.Nat.{ℕ, ◌/◌, ◌%◌, ◌≤◌, ◌<◌}
use native.Mathlib.Omega.{arith}
use borrow.Author.Tests.{leb-true}
use Rattle.base.proofs.Tests.{not_both}
use Rattle.master_request.specs.declared.Ask.{Ask}
use Rattle.master_request.specs.declared.Ask.TheVariants.{Holding, Input, One, Many}
use Rattle.master_request.specs.Ask.{read_sayable, many_sayable, sayable}
use Rattle.master_request.specs.Said.{Outside}
use Rattle.master_request.proofs.Unsayable.{read_unsayable, many_unsayable}

pub record ReadSayable (a n : ℕ) : Type 0 where
  pub first : 1 ≤ a
  pub last : a ≤ 247
  pub some : 1 ≤ n
  pub most : n ≤ 125

pub read_out : (a n : ℕ) → read_sayable a n ≡ true → ReadSayable a n
read_out a n e =
    let no-0 : a ≡ 0 → ⊥ = λ z. unsaid (inl z) in
    let below-248 : 247 < a → ⊥ = λ h. unsaid (inr (inl h)) in
    let some : n < 1 → ⊥ = λ l. unsaid (inr (inr (inl l))) in
    let most : 125 < n → ⊥ = λ h. unsaid (inr (inr (inr h))) in
    record { first = omega arith; last = omega arith; some = omega arith; most = omega arith }
  where
    unsaid : (a ≡ 0) ⊎ ((247 < a) ⊎ Outside 1 125 n) → ⊥
    unsaid u = not_both e ((read_unsayable a n).1 u)

-- n register bytes
pub record ManySayable (a n : ℕ) : Type 0 where
  pub last : a ≤ 247
  pub whole : n % 2 ≡ 0
  pub some : 1 ≤ n / 2
  pub most : n / 2 ≤ 123

pub many_out : (a n : ℕ) → many_sayable a n ≡ true → ManySayable a n
many_out a n e =
    let below-248 : 247 < a → ⊥ = λ h. unsaid (inl h) in
    let even : n % 2 ≡ 1 → ⊥ = λ o. unsaid (inr (inl o)) in
    let some : n / 2 < 1 → ⊥ = λ l. unsaid (inr (inr (inl l))) in
    let most : 123 < n / 2 → ⊥ = λ h. unsaid (inr (inr (inr h))) in
    record { last = omega arith; whole = omega arith; some = omega arith; most = omega arith }
  where
    unsaid : (247 < a) ⊎ ((n % 2 ≡ 1) ⊎ Outside 1 123 (n / 2)) → ⊥
    unsaid u = not_both e ((many_unsayable a n).1 u)

pub said_address : (a : ℕ) (ask : Ask) (n : ℕ) → sayable a ask n ≡ true → a ≤ 247
unfolding sayable
said_address a (Holding r c) n e = (read_out a c e).last
said_address a (Input r c) n e = (read_out a c e).last
said_address a (One r w) n e = leb-true a 247 e
said_address a (Many r) n e = (many_out a n e).last
