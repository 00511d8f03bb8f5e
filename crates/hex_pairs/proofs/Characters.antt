-- What a character is worth, and what it is in capitals, by where it stands among 0-9, A-F and a-f. Assumes nothing.
use Rattle.std.proofs.Common.{◌≡◌, ℕ, ◌+◌, ◌-◌, ◌%◌, ◌<◌, ◌≤◌, Bool, true, false, eqb, eqb-true, leb, List, [], ◌∷◌, get_or, refl, ap, ◌∙◌, arith, le-ltb, lt-ltb, le-leb, leb-true, Option, Some, None}
use borrow.Author.Tests.{lt-leb}
use Rattle.base.specs.Choice.{pick, either}
use Rattle.base.specs.Bytes.{every_below}
use Rattle.base.proofs.Tests.{both_out, below_at}
use Rattle.hex_pairs.specs.Hex.{is_numeral, is_capital, is_small, is_hex, digit_value, digit_of, capital_of}

-- ---- by where it stands
pub value_numeral : (c : ℕ) → 0x30 ≤ c → c ≤ 0x39 → Some (c - 0x30) ≡ digit_value c
unfolding digit_value
value_numeral c h k = simp (le-leb 0x30 c h, le-leb c 0x39 k)

pub value_capital : (c : ℕ) → 0x41 ≤ c → c ≤ 0x46 → Some (c - 0x41 + 10) ≡ digit_value c
unfolding digit_value
value_capital c h k = simp (le-leb 0x30 c (omega arith), lt-leb c 0x39 (omega arith), le-leb 0x41 c h, le-leb c 0x46 k)

pub value_small : (c : ℕ) → 0x61 ≤ c → c ≤ 0x66 → Some (c - 0x61 + 10) ≡ digit_value c
unfolding digit_value
value_small c h k =
    simp (le-leb 0x30 c (omega arith), lt-leb c 0x39 (omega arith), le-leb 0x41 c (omega arith), lt-leb c 0x46 (omega arith), le-leb 0x61 c h, le-leb c 0x66 k)

-- ---- what holds of a numeral's worth, of a capital's, of a small letter's and of no digit holds of every character
pub by_kind : (P : Bool → Option ℕ → Type 0) (c : ℕ) → (0x30 ≤ c → c ≤ 0x39 → P true (Some (c - 0x30)))
    → (0x41 ≤ c → c ≤ 0x46 → P true (Some (c - 0x41 + 10)))
    → (0x61 ≤ c → c ≤ 0x66 → P true (Some (c - 0x61 + 10))) → P false None → P (is_hex c) (digit_value c)
unfolding is_hex digit_value
by_kind P c numeral capital small other = go (is_numeral c) (is_capital c) (is_small c) refl refl refl
  where
    go : (a b s : Bool) → is_numeral c ≡ a → is_capital c ≡ b → is_small c ≡ s
        → P (either a (either b s)) (pick a (Some (c - 0x30)) (pick b (Some (c - 0x41 + 10)) (pick s (Some (c - 0x61 + 10)) None)))
    go true b s p q r = let h = both_out (leb 0x30 c) (leb c 0x39) p in numeral (leb-true 0x30 c h.0) (leb-true c 0x39 h.1)
    go false true s p q r = let h = both_out (leb 0x41 c) (leb c 0x46) q in capital (leb-true 0x41 c h.0) (leb-true c 0x46 h.1)
    go false false true p q r = let h = both_out (leb 0x61 c) (leb c 0x66) r in small (leb-true 0x61 c h.0) (leb-true c 0x66 h.1)
    go false false false p q r = other

-- ---- in capitals: a-f are A-F, and all else stays
pub capital_below : (c : ℕ) → c < 0x61 → c ≡ capital_of c
unfolding capital_of
capital_below c h = simp (lt-leb 0x61 c h)

pub capital_small : (c : ℕ) → 0x61 ≤ c → c ≤ 0x66 → c - 0x20 ≡ capital_of c
unfolding capital_of
capital_small c h k = simp (le-leb 0x61 c h, le-leb c 0x66 k)

-- what holds of a small letter's capital, and of every other character, holds of each character in capitals
pub by_case : (P : ℕ → Type 0) (c : ℕ) → (0x61 ≤ c → c ≤ 0x66 → P (c - 0x20)) → (c ≡ capital_of c → P c) → P (capital_of c)
unfolding capital_of
by_case P c small other = go (is_small c) refl
  where
    go : (t : Bool) → is_small c ≡ t → P (pick t (c - 0x20) c)
    go true e = let h = both_out (leb 0x61 c) (leb c 0x66) e in small (leb-true 0x61 c h.0) (leb-true c 0x66 h.1)
    go false e = other (simp e)

-- ---- the digit of a number
pub digit_numeral : (n : ℕ) → n < 10 → digit_of n ≡ 0x30 + n
unfolding digit_of
digit_numeral n h = let m : n % 16 ≡ n = omega arith in simp (m, lt-ltb n 10 h)

pub digit_capital : (n : ℕ) → 10 ≤ n → n < 16 → digit_of n ≡ 0x41 + (n - 10)
unfolding digit_of
digit_capital n h k = let m : n % 16 ≡ n = omega arith in simp (m, le-ltb n 10 h)

-- only its lowest four bits count
pub digit_rest : (n : ℕ) → digit_of (n % 16) ≡ digit_of n
unfolding digit_of
digit_rest n = let m : n % 16 % 16 ≡ n % 16 = omega arith in simp m

-- ---- by the code's list of digits
abbrev digits : List ℕ
digits = 0x30 ∷ 0x31 ∷ 0x32 ∷ 0x33 ∷ 0x34 ∷ 0x35 ∷ 0x36 ∷ 0x37 ∷ 0x38 ∷ 0x39 ∷ 0x41 ∷ 0x42 ∷ 0x43 ∷ 0x44 ∷ 0x45 ∷ 0x46 ∷ []

pub digit_listed : (n k : ℕ) → k ≡ n % 16 → get_or digits k 0 ≡ digit_of n
unfolding digit_of
digit_listed n k e =
    let all : every_below 16 (λ i. eqb (get_or digits i 0) (digit_of i)) ≡ true = refl in
    eqb-true (get_or digits k 0) (digit_of k) (below_at 16 (λ i. eqb (get_or digits i 0) (digit_of i)) k all (omega arith)) ∙ ap digit_of e ∙ digit_rest n
