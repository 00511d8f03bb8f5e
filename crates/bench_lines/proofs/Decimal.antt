-- The digits of a number, put one in front of the other from the last on, are its digits as `decimal_of` has them. Assumes nothing.
use Rattle.std.proofs.Common.{◌≡◌, ℕ, zero, suc, ◌+◌, ◌-◌, ◌*◌, ◌/◌, ◌%◌, ◌^◌, ◌≤◌, ◌<◌, List, [], ◌∷◌, ◌++◌, length, set, drop, sym, ap, ◌∙◌, append_assoc, add-one, arith, lt-ltb, le-ltb, drop_of_length-le}
use mathlib.Core.List.{append-nil}
use Rattle.std.proofs.lemmas.List.{drop-set}
use Rattle.std.proofs.Math.Nat.{pow-suc}
use Rattle.std.proofs.Math.ListN.{length-set}
use mir.Syntax.{w64}
use mir.Val.{Fits}
use Rattle.bench_lines.specs.Answer.{digits_up_to, decimal_of}

one_digit : (f n : ℕ) → n < 10 → (0x30 + n) ∷ [] ≡ digits_up_to f n
unfolding digits_up_to
one_digit zero n h = let same : n % 10 ≡ n = omega arith in rw same
one_digit (suc f) n h = let same : n % 10 ≡ n = omega arith in simp (lt-ltb n 10 h, same)

more_digits : (f n : ℕ) → 10 ≤ n → digits_up_to f (n / 10) ++ ((0x30 + n % 10) ∷ []) ≡ digits_up_to (suc f) n
unfolding digits_up_to
more_digits f n h = simp (le-ltb n 10 h)

-- what is put from place `at` on, and the digits of `rest` in front of it, are those of the number
pub record Spelling (number rest at : ℕ) (digits : List ℕ) : Type 0 where
  pub some : 1 ≤ at
  pub room : at ≤ 20
  pub long : length digits ≡ 20
  pub below : rest < 10 ^ at
  pub left : digits_up_to (at - 1) rest ++ drop at digits ≡ decimal_of number

pub spelling_starts : (number : ℕ) (digits : List ℕ) → Fits w64 number → length digits ≡ 20 → Spelling number number 20 digits
unfolding decimal_of
spelling_starts number digits f l =
    let past : length digits ≤ 20 = omega arith in
    let none : drop 20 digits ≡ [] = drop_of_length-le digits past in
    record {
      some = omega arith;
      room = omega arith;
      long = l;
      below = omega arith;
      left = rw none (append-nil (digits_up_to 19 number));
    }

pub spelling_next : (number rest at next : ℕ) (digits : List ℕ) → Spelling number rest at digits → 10 ≤ rest → next ≡ at - 1
    → Spelling number (rest / 10) next (set digits next (0x30 + rest % 10))
spelling_next number rest zero next digits s h e = absurd (omega (arith, s.some))
spelling_next number rest (suc zero) next digits s h e = absurd (omega (arith, s.below))
spelling_next number rest (suc (suc m)) next digits s h e =
    let place : next ≡ suc m = omega arith in
    let within : suc m < length digits = omega (arith, s.room, s.long) in
    let power : 10 ^ suc (suc m) ≡ 10 ^ suc m * 10 = pow-suc 10 (suc m) in
    let front : suc (suc m) - 1 ≡ suc m = omega arith in
    let behind : suc m - 1 ≡ m = omega arith in
    rw place record {
      some = omega arith;
      room = omega (arith, s.room);
      long = length-set digits (suc m) (0x30 + rest % 10) ∙ s.long;
      below = omega (arith, s.below);
      left =
          ap (λ (k : ℕ). digits_up_to k (rest / 10) ++ drop (suc m) (set digits (suc m) (0x30 + rest % 10))) behind
          ∙ ap (λ (l : List ℕ). digits_up_to m (rest / 10) ++ l) (drop-set digits (suc m) (0x30 + rest % 10) within)
          ∙ ap (λ (k : ℕ). digits_up_to m (rest / 10) ++ ((0x30 + rest % 10) ∷ drop k digits)) (add-one (suc m))
          ∙ sym (append_assoc (digits_up_to m (rest / 10)) ((0x30 + rest % 10) ∷ []) (drop (suc (suc m)) digits))
          ∙ ap (λ (l : List ℕ). l ++ drop (suc (suc m)) digits) (more_digits m rest h)
          ∙ (rw front at s.left);
    }

pub spelling_done : (number rest at next : ℕ) (digits : List ℕ) → Spelling number rest at digits → rest < 10 → next ≡ at - 1
    → drop next (set digits next (0x30 + rest)) ≡ decimal_of number
spelling_done number rest zero next digits s h e = absurd (omega (arith, s.some))
spelling_done number rest (suc m) next digits s h e =
    let place : next ≡ m = omega arith in
    let within : m < length digits = omega (arith, s.room, s.long) in
    let front : suc m - 1 ≡ m = omega arith in
    rw place (
    drop-set digits m (0x30 + rest) within
    ∙ ap (λ (k : ℕ). (0x30 + rest) ∷ drop k digits) (add-one m)
    ∙ ap (λ (l : List ℕ). l ++ drop (suc m) digits) (one_digit m rest h)
    ∙ (rw front at s.left)
    )
