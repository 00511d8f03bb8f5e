-- What is held after one byte more, and that the array keeps its length. Assumes nothing.
use mathlib.Core.Path.{◌≡◌, refl, ◌∙◌}
use mathlib.Core.List.{[], ◌∷◌, ◌++◌}
use Prim.Native.Nat.{ℕ, ◌<◌}
use native.Mathlib.Numerals.{add-one}
use native.Mathlib.Omega.{arith}
use borrow.Author.Tests.{lt-ltb}
use lib.Dec.{ltb}
use lib.ListN.{length, get_or, length-set, length-take}
use lib.Seq.{take-suc-set, get_or-take}
use Rattle.base.proofs.Tests.{pick_both}
use Rattle.pending.specs.declared.Pending.{Pending}
use Rattle.pending.specs.Held.{held, Sized, empty, emptied, pushed, began_with}

-- ---- the array keeps its length
pub sized_empty : Sized empty
unfolding empty
sized_empty = refl

pub sized_emptied : (p : Pending) → Sized p → Sized (emptied p)
unfolding emptied
sized_emptied p h = h

pub sized_pushed : (p : Pending) (b : ℕ) → Sized p → Sized (pushed p b)
unfolding pushed
sized_pushed p b h = pick_both Sized (ltb p.len 512) (λ e. length-set p.bytes p.len b ∙ h) (λ e. h)

pub sized_began_with : (p : Pending) (b : ℕ) → Sized p → Sized (began_with p b)
unfolding began_with
sized_began_with p b h = length-set p.bytes 0 b ∙ h

-- ---- the bytes pending
pub held_empty : held empty ≡ []
unfolding held empty
held_empty = refl

pub held_emptied : (p : Pending) → held (emptied p) ≡ []
unfolding held emptied
held_emptied p = refl

-- where there is room
pub held_pushed : (p : Pending) (b : ℕ) → Sized p → p.len < 512 → held (pushed p b) ≡ held p ++ b ∷ []
unfolding held pushed
held_pushed p b h l = simp (lt-ltb p.len 512 l, add-one) (take-suc-set p.bytes p.len b (omega arith))

pub held_began_with : (p : Pending) (b : ℕ) → Sized p → held (began_with p b) ≡ b ∷ []
unfolding held began_with
held_began_with p b h = take-suc-set p.bytes 0 b (omega arith)

-- fewer bytes than the array has room for: `len` tells how many
pub held_length : (p : Pending) → Sized p → length (held p) < 512 → length (held p) ≡ p.len
unfolding held
held_length p h l = omega (arith, length-take p.len p.bytes)

-- a byte pending stands in the array at its place
pub held_at : (p : Pending) (i : ℕ) → i < p.len → get_or (held p) i 0 ≡ get_or p.bytes i 0
unfolding held
held_at p i l = get_or-take p.len p.bytes i 0 l
