-- What a text answers, by the code's tests and calls. Assumes nothing.
use Rattle.std.proofs.Common.{None}
use mathlib.Core.Path.{◌≡◌, refl, sym, ap, ap₂, ◌∙◌}
use mathlib.Core.Bool.{Bool, true, false}
use mathlib.Core.List.{List, [], ◌∷◌}
use Prim.Native.Nat.{ℕ, suc, ◌+◌, ◌-◌, ◌*◌, ◌≤◌}
use native.Mathlib.Omega.{arith}
use mir.Syntax.{w64}
use mir.Val.{Fits}
use lib.ListN.{length, take, drop, get_or, length-take, replicate}
use lib.Seq.{sets, length-sets, take-nil, take-take, get_or-take}
use Rattle.base.specs.Choice.{both}
use Rattle.base.proofs.Tests.{is_false, not_both}
use Rattle.base.proofs.Sets.{take_sets}
use Rattle.hex_pairs.specs.Hex.{bytes_of}
use Rattle.checks.specs.Lrc.{adds_to_zero}
use Rattle.ascii.specs.Ascii.{bytes_in, right, formed, unit_among}
use Rattle.ascii.proofs.Message.{counted_in}
use Rattle.master_reply.specs.declared.Heard.{Heard}
use Rattle.master_reply.specs.Reply.{heard, heard_of}
use Rattle.master_ascii.specs.Heard.{framed, ascii_heard}
use Rattle.master_ascii.proofs.Texts.{inner, inner_few, inner_least, inner_bytes, inner_formed, formed_framed, formed_whole}

-- the bytes between the first and the last of k bytes at the start of b
unit_part : (k : ℕ) (b : List ℕ) → 2 ≤ k → k ≤ length b → take (k - 1 - 1) (drop 1 b) ≡ drop 1 (take (length (take (k - 0) b) - 1) (take (k - 0) b))
unit_part k b h l =
    let n : length (take (k - 0) b) - 1 ≡ k - 1 = omega (arith, length-take (k - 0) b) in
    let m : suc (k - 1 - 1) ≡ k - 1 = omega arith in
    from_second (k - 1 - 1) b
    ∙ ap (λ (i : ℕ). drop 1 (take i b)) m
    ∙ ap (drop 1) (sym (take-take (k - 1) (k - 0) b (omega arith)) ∙ ap (λ (i : ℕ). take i (take (k - 0) b)) (sym n))
  where
    from_second : (n : ℕ) (s : List ℕ) → take n (drop 1 s) ≡ drop 1 (take (suc n) s)
    from_second n [] = take-nil n
    from_second n (x ∷ s) = refl

-- ---- a text that is no message
no_message : (m : List ℕ) (x : Heard) → formed m ≡ false → x ≡ heard None [] → x ≡ ascii_heard m
unfolding ascii_heard
no_message m x h e = rw h e

pub unframed : (m : List ℕ) (x : Heard) → framed m ≡ false → x ≡ heard None [] → x ≡ ascii_heard m
unframed m x h e = no_message m x (is_false (formed m) (λ f. not_both (formed_framed m f) h)) e

pub not_whole : (m : List ℕ) (x : Heard) (k : ℕ) → k ≡ length (bytes_of (inner m)) → (2 * k + 3 ≡ length m → ⊥) → x ≡ heard None [] → x ≡ ascii_heard m
not_whole m x k c n e = no_message m x (is_false (formed m) (λ f. n (ap (λ (i : ℕ). 2 * i + 3) c ∙ formed_whole m f))) e

-- ---- a framed text, with k bytes between
module _ (m : List ℕ) (k : ℕ) (count : k ≡ length (bytes_of (inner m))) (f : framed m ≡ true) where
  -- their double does not wrap
  pub twice_fits : Fits w64 (2 * k)
  twice_fits = omega (arith, inner_few m f)

  pub size_fits : Fits w64 (2 * k + 3)
  size_fits = omega (arith, inner_few m f)

  -- they are all of it, so there are three at least, and the last is not the first
  module _ (w : 2 * k + 3 ≡ length m) where
    three : 3 ≤ k
    three = omega (arith, inner_least m f)

    pub last_there : 1 ≤ k
    last_there = omega (arith, three)

    pub unit_there : 1 ≤ k - 1
    unit_there = omega (arith, three)

    whole : 2 * length (bytes_of (inner m)) + 3 ≡ length m
    whole = ap (λ (i : ℕ). 2 * i + 3) (sym count) ∙ w

    -- stored in an array, which is now b
    module _ (b : List ℕ) (lent : b ≡ sets (replicate 255 0) 0 (bytes_of (inner m))) where
      few : length (bytes_of (inner m)) ≤ 255
      few = inner_few m f

      array_length : length b ≡ 255
      array_length = ap length lent ∙ length-sets (replicate 255 0) 0 (bytes_of (inner m))

      pub count_within : k ≤ length b
      count_within = omega (arith, few, array_length)

      pub last_within : k - 1 ≤ length b
      last_within = omega (arith, count_within)

      taken : take (k - 0) b ≡ bytes_in m
      taken =
          let n : k - 0 ≡ length (bytes_of (inner m)) = omega arith in
          ap₂ take n lent ∙ take_sets (bytes_of (inner m)) (replicate 255 0) few ∙ sym (inner_bytes m f whole)

      -- whether it is a message, the sum tells
      by_sum : formed m ≡ adds_to_zero (take (k - 0) b)
      unfolding right
      by_sum =
          let n : length (bytes_in m) ≡ k = ap length (inner_bytes m f whole) ∙ sym count in
          inner_formed m f whole
          ∙ ap (λ (t : Bool). both t (adds_to_zero (bytes_in m))) (counted_in (bytes_in m) (omega (arith, three)) (omega (arith, few)))
          ∙ ap adds_to_zero (sym taken)

      pub sum_wrong : (x : Heard) → adds_to_zero (take (k - 0) b) ≡ false → x ≡ heard None [] → x ≡ ascii_heard m
      sum_wrong x h e = no_message m x (by_sum ∙ h) e

      pub sum_right : (x : Heard) → adds_to_zero (take (k - 0) b) ≡ true → x ≡ heard_of (get_or b 0 0) (take (k - 1 - 1) (drop 1 b)) → x ≡ ascii_heard m
      unfolding ascii_heard unit_among
      sum_right x h e =
          let n : k - 0 ≡ length (bytes_in m) = omega (arith, count, ap length (inner_bytes m f whole)) in
          rw (by_sum ∙ h) (e ∙ ap₂ heard_of (sym (get_or-take (k - 0) b 0 0 (omega (arith, three))) ∙ ap (λ (s : List ℕ). get_or s 0 0) taken)
          (unit_part k b (omega (arith, three)) count_within ∙ ap (λ (s : List ℕ). drop 1 (take (length s - 1) s)) taken))
