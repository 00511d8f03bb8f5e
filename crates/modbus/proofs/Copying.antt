-- A loop that copies bytes to a lent slice from a place on, as far as they fit. Assumes nothing.
use mathlib.Core.Path.{◌≡◌, refl, sym, ap, ◌∙◌}
use mathlib.Core.List.{List}
use Prim.Native.Nat.{ℕ, suc, ◌+◌, ◌≤◌, ◌<◌}
use native.Mathlib.Numerals.{add-one}
use native.Mathlib.Omega.{arith}
use lib.ListN.{length, drop, get_or, set, length-set, drop_of_length-le}
use lib.Seq.{sets, set_out, drop-cons}

-- a store past the end changes nothing
pub ruleset past = (set_out)

-- stores of all bytes left would give the whole
pub record Copying (bytes out₀ out : List ℕ) (at i : ℕ) : Type 0 where
  pub passed : i ≤ length bytes
  pub kept : length out ≡ length out₀
  pub left : sets out (at + i) (drop i bytes) ≡ sets out₀ at bytes

pub copy_starts : (bytes out : List ℕ) (at : ℕ) → Copying bytes out out at 0
copy_starts bytes out at = record { passed = omega arith; kept = refl; left = let e : at + 0 ≡ at = omega arith in rw e }

pub copy_again : (bytes out₀ out r : List ℕ) (at i : ℕ) → Copying bytes out₀ out at i → i < length bytes → r ≡ set out (at + i) (get_or bytes i 0)
    → Copying bytes out₀ r at (i + 1)
copy_again bytes out₀ out r at i k h e =
    record {
      passed = omega arith;
      kept = rw e (simp length-set k.kept);
      left =
          let n : at + (i + 1) ≡ suc (at + i) = omega arith in
          rw (e, n, add-one) (sym (ap (sets out (at + i)) (drop-cons bytes i 0 h)) ∙ k.left);
    }

pub copy_stores : (bytes out₀ out : List ℕ) (at i : ℕ) → Copying bytes out₀ out at i → length bytes ≤ i → out ≡ sets out₀ at bytes
copy_stores bytes out₀ out at i k h = rw (drop_of_length-le bytes h) at k.left

-- ---- what is told and stored in the case k of a choice x is that of x
pub case_count : {A : Type 0} (bytes : A → List ℕ) (x k : A) (n : ℕ) → x ≡ k → n ≡ length (bytes k) → n ≡ length (bytes x)
case_count bytes x k n e p = rw e p

pub case_stores : {A : Type 0} (bytes : A → List ℕ) (x k : A) (before now : List ℕ) → x ≡ k → now ≡ sets before 0 (bytes k) → now ≡ sets before 0 (bytes x)
case_stores bytes x k before now e p = rw e p
