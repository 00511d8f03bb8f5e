-- What the code stores of a request: six bytes, or seven and the register bytes behind them. Assumes nothing.
use Rattle.std.proofs.Common.{Some, None}
use mathlib.Core.Path.{◌≡◌, refl, sym, ap, ap₂, ◌∙◌}
use mathlib.Core.Bool.{Bool, true, false, not}
use mathlib.Core.List.{List, [], ◌∷◌, ◌++◌}
use Prim.Native.Nat.{ℕ, ◌+◌, ◌-◌, ◌/◌, ◌%◌, ◌≤◌, ◌<◌}
use native.Mathlib.Omega.{arith}
use borrow.Author.Tests.{not-false}
use borrow.Rule.Slice.PartMut.{put_mid}
use lib.ListN.{length, drop, get_or, replicate}
use Rattle.base.specs.Buffers.{front}
use Rattle.table.specs.declared.labels.Register.{Register}
use Rattle.modbus_words.specs.Words.{word_bytes}
use Rattle.master_request.specs.declared.Body.{Body}
use Rattle.master_request.specs.declared.Ask.{Ask}
use Rattle.master_request.specs.declared.Ask.TheVariants.{Many}
use Rattle.master_request.specs.Ask.{head_of, many_unit, sayable, request_unit, body_with, body_said}
use Rattle.master_request.proofs.Limits.{many_out}

-- ---- the array, before, and the bytes m in it
abbrev pub room : List ℕ
room = replicate 256 0

body_is : (m b : List ℕ) (n : ℕ) → b ≡ front m room → n ≡ length m → ◌≡◌ {A = Body} (record { bytes = b; size = n }) (body_with m)
body_is m b n e h = rw (e, h)

-- ---- a word was taken apart into x
abbrev pub Apart : ℕ → List ℕ → Type 0
Apart w x = x ≡ w / 256 % 256 ∷ w % 256 ∷ []

word_apart : (w : ℕ) (x : List ℕ) → Apart w x → w < 65536 → get_or x 0 0 ∷ get_or x 1 0 ∷ [] ≡ word_bytes w
unfolding word_bytes
word_apart w x e h = let high : w / 256 % 256 ≡ w / 256 = omega arith in rw (e, high)

-- ---- six bytes
pub short_made : (a f r n : ℕ) (x y start : List ℕ) → Apart r x → Apart n y → start ≡ a ∷ f ∷ get_or x 0 0 ∷ get_or x 1 0 ∷ get_or y 0 0 ∷ get_or y 1 0 ∷ [] → r < 65536 → n < 65536
    → ◌≡◌ {A = Body} (record { bytes = start ++ drop 6 room; size = 6 }) (body_with (a ∷ f ∷ word_bytes r ++ word_bytes n))
unfolding front word_bytes
short_made a f r n x y start p q e h k =
    let all : start ≡ a ∷ f ∷ word_bytes r ++ word_bytes n = e ∙ ap₂ (λ (u v : List ℕ). a ∷ f ∷ u ++ v) (word_apart r x p h) (word_apart n y q k) in
    body_is (a ∷ f ∷ word_bytes r ++ word_bytes n) (start ++ drop 6 room) 6 (ap (λ (t : List ℕ). t ++ drop 6 room) all) refl

-- ---- seven bytes, then the register bytes in the part behind them, which was lent and came back as l
pub long_made : (a : ℕ) (r : Register) (s x y start l : List ℕ) → Apart r.0 x → Apart (length s / 2) y
    → start ≡ a ∷ 16 ∷ get_or x 0 0 ∷ get_or x 1 0 ∷ get_or y 0 0 ∷ get_or y 1 0 ∷ length s ∷ []
    → l ≡ s → r.0 < 65536 → length s ≤ 246
    → ◌≡◌ {A = Body} (record { bytes = put_mid 7 (length s + 7 - 7) (start ++ drop 7 room) l; size = length s + 7 }) (body_with (a ∷ many_unit r s))
unfolding front many_unit head_of word_bytes
long_made a r s x y start l p q first e h few =
    let all : start ≡ a ∷ 16 ∷ word_bytes r.0 ++ (word_bytes (length s / 2) ++ (length s ∷ [])) =
    first ∙ ap₂ (λ (u v : List ℕ). a ∷ 16 ∷ u ++ (v ++ (length s ∷ []))) (word_apart r.0 x p h) (word_apart (length s / 2) y q (omega arith)) in
    let k : length s + 7 - 7 ≡ length s = omega arith in
    body_is (a ∷ many_unit r s) (put_mid 7 (length s + 7 - 7) (start ++ drop 7 room) l) (length s + 7)
    (λ i. put_mid 7 (k i) (all i ++ drop 7 room) (e i)) (omega arith)

-- ---- what was asked
module _ (a : ℕ) (ask : Ask) (s : List ℕ) where
  pub unsaid_body : sayable a ask (length s) ≡ false → None ≡ body_said a ask s
  unfolding body_said
  unsaid_body h = rw h

  -- the arm of the case k
  pub said_body : (k : Ask) (b : Body) → sayable a ask (length s) ≡ true → ask ≡ k → b ≡ body_with (a ∷ request_unit k s) → Some b ≡ body_said a ask s
  unfolding body_said
  said_body k b h e q = rw (h, e, q)

-- a 16 that can be said has no more than 246 register bytes
pub long_few : (a : ℕ) (ask : Ask) (r : Register) (n : ℕ) (t : Bool) → t ≡ sayable a ask n → not t ≡ false → ask ≡ Many r → n ≤ 246
unfolding sayable
long_few a ask r n t h g e =
    let k = many_out a n (rw e at (sym h ∙ not-false t g)) in
    omega (arith, k.most, k.whole)
