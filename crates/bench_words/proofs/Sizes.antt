-- The size of digits, digit by digit; and a number, by its sign and its size. Assumes nothing.
use Rattle.std.proofs.Common.{Option, Some, None}
use mathlib.Core.Path.{◌≡◌, refl, sym, ap, ◌∙◌}
use mathlib.Core.Bool.{Bool, true, false}
use mathlib.Core.List.{List, [], ◌∷◌}
use Prim.Native.Nat.{ℕ, suc, ◌+◌, ◌-◌, ◌*◌, ◌%◌, ◌≤◌, ◌<◌, min}
use native.Mathlib.Numerals.{add-one}
use native.Mathlib.Omega.{arith}
use borrow.Author.Tests.{eq-eqb, ne_eqb, le-leb, lt-leb, leb-true, leb-false}
use lib.Dec.{leb}
use Rattle.std.specs.Option.{option_map}
use lib.ListN.{length, take, drop, get_or, drop_of_length-le}
use lib.Seq.{drop-cons, take_all}
use Rattle.base.specs.Choice.{pick}
use Rattle.base.proofs.Tests.{both_false}
use Rattle.hex_pairs.specs.Hex.{is_numeral}
use Rattle.bench_words.specs.Numbers.{all_numerals, size_from, capped_from, size_of, plain, negative, number_of}

abbrev cap : ℕ
cap = 0x100000000

-- digits only add
size_grows : (n : ℕ) (s : List ℕ) → n ≤ size_from n s
unfolding size_from
size_grows n [] = omega arith
size_grows n (c ∷ t) = omega (arith, size_grows (n * 10 + (c - 0x30)) t)

-- it does not matter whether a size was cut at 2^32 before the other digits
size_capped : (n : ℕ) (s : List ℕ) → min (size_from (min n cap) s) cap ≡ min (size_from n s) cap
size_capped n s = go (leb n cap) refl
  where
    go : (t : Bool) → leb n cap ≡ t → min (size_from (min n cap) s) cap ≡ min (size_from n s) cap
    go true e =
        let small : n ≤ cap = leb-true _ _ e in
        let kept : min n cap ≡ n = omega arith in
        rw kept
    go false e =
        let large : cap < n = leb-false _ _ e in
        omega (arith, size_grows n s, size_grows (min n cap) s)

-- ---- digit by digit: at place i, where the digits passed come to `size`
numeral_turn : (c n : ℕ) (t : List ℕ) → 0x30 ≤ c → c ≤ 0x39 → capped_from (min (n * 10 + (c - 0x30)) cap) t ≡ capped_from n (c ∷ t)
unfolding capped_from all_numerals size_from
numeral_turn c n t l h =
    simp (le-leb 0x30 c l, le-leb c 0x39 h) (ap (λ (x : ℕ). pick (all_numerals t) (Some x) None) (size_capped (n * 10 + (c - 0x30)) t))

no_numeral : (c n : ℕ) (t : List ℕ) → is_numeral c ≡ false → capped_from n (c ∷ t) ≡ None
unfolding capped_from all_numerals
no_numeral c n t e = simp e

module _ (digits : List ℕ) (size i : ℕ) (h : i < length digits) where
  next : drop i digits ≡ get_or digits i 0 ∷ drop (i + 1) digits
  next = rw (add-one i, drop-cons digits i 0 h)

  pub capped_digit : 0x30 ≤ get_or digits i 0 → get_or digits i 0 ≤ 0x39
      → capped_from size (drop i digits) ≡ capped_from (min (size * 10 + (get_or digits i 0 - 0x30)) cap) (drop (i + 1) digits)
  capped_digit l m = ap (capped_from size) next ∙ sym (numeral_turn (get_or digits i 0) size (drop (i + 1) digits) l m)

  pub capped_low : get_or digits i 0 < 0x30 → capped_from size (drop i digits) ≡ None
  capped_low e = ap (capped_from size) next ∙ no_numeral (get_or digits i 0) size (drop (i + 1) digits) (simp (lt-leb 0x30 (get_or digits i 0) e))

  pub capped_high : 0x39 < get_or digits i 0 → capped_from size (drop i digits) ≡ None
  capped_high e = ap (capped_from size) next ∙ no_numeral (get_or digits i 0) size (drop (i + 1) digits) (simp (lt-leb (get_or digits i 0) 0x39 e, both_false))

pub capped_end : (digits : List ℕ) (size i : ℕ) → size ≤ cap → length digits ≤ i → capped_from size (drop i digits) ≡ Some size
unfolding capped_from all_numerals size_from
capped_end digits size i s h =
    let kept : min size cap ≡ size = omega arith in
    ap (capped_from size) (drop_of_length-le digits h) ∙ ap Some kept

-- all digits, and none
pub size_whole : (digits : List ℕ) → 0 < length digits → size_of digits ≡ capped_from 0 digits
unfolding size_of
size_whole [] h = absurd (omega arith)
size_whole (c ∷ t) h = refl

pub size_none : (digits : List ℕ) → length digits ≡ 0 → size_of digits ≡ None
unfolding size_of
size_none [] h = refl
size_none (c ∷ t) h = absurd (omega arith)

-- ---- a number: behind `-`, of no characters, and without `-`
negative_plain : (below : ℕ) (s : Option ℕ) → negative below s ≡ option_map (λ n. (0x100000000 - n) % 0x100000000) (plain below s)
negative_plain below None = refl
negative_plain below (Some n) = go (leb n below)
  where
    go : (t : Bool) → pick t (Some ((0x100000000 - n) % 0x100000000)) None ≡ option_map (λ k. (0x100000000 - k) % 0x100000000) (pick t (Some n) None)
    go true = refl
    go false = refl

pub minus_number : (below most : ℕ) (word : List ℕ) → 0 < length word → get_or word 0 0 ≡ 0x2D
    → number_of below most word ≡ option_map (λ n. (0x100000000 - n) % 0x100000000) (plain below (size_of (take (length word - 1) (drop 1 word))))
unfolding number_of
minus_number below most [] h e = absurd (omega arith)
minus_number below most (c ∷ t) h e =
    let all : take (suc (length t) - 1) t ≡ t = take_all (suc (length t) - 1) t (omega arith) in
    simp (eq-eqb c 0x2D e, all) (negative_plain below (size_of t))

pub empty_number : (below most : ℕ) (word : List ℕ) → length word ≡ 0 → number_of below most word ≡ plain most (size_of word)
unfolding number_of size_of
empty_number below most [] h = refl
empty_number below most (c ∷ t) h = absurd (omega arith)

pub other_number : (below most : ℕ) (word : List ℕ) → 0 < length word → (get_or word 0 0 ≡ 0x2D → ⊥) → number_of below most word ≡ plain most (size_of word)
unfolding number_of
other_number below most [] h e = absurd (omega arith)
other_number below most (c ∷ t) h e = simp (ne_eqb c 0x2D e)

-- what the tests of `size_of` show
pub ruleset sizes = (size_none, size_whole, capped_low, capped_high, capped_digit, capped_end)

-- what those of `between` show
pub ruleset signs = (minus_number, empty_number, other_number)
