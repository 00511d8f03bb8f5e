-- What was encoded is decoded, and what was decoded is encoded in capitals: digits, pairs and whole texts. Assumes nothing.
use Rattle.std.proofs.Common.{◌≡◌, ℕ, suc, ◌+◌, ◌-◌, ◌*◌, ◌/◌, ◌%◌, ◌<◌, ◌≤◌, Bool, true, false, ltb, List, [], ◌∷◌, ◌++◌, length, sym, refl, ap, ◌∙◌, ap₂, arith, ltb-false, ltb-true, Option, Some, None}
use Rattle.base.specs.Choice.{both}
use Rattle.base.specs.Bytes.{AllBelow, Bytes}
use Rattle.base.proofs.Tests.{both_out, both_in, not_both}
use Rattle.hex_pairs.specs.Hex.{is_hex, all_hex, digit_value, digit_of, capital_of, capitals, joined, pair_value, hex_of, spelt, bytes_of}
use Rattle.hex_pairs.proofs.Characters.{value_numeral, value_capital, by_kind, capital_below, capital_small, digit_numeral, digit_capital, digit_rest}

-- ---- digits

-- the digit of a number below 16 is worth the number
pub value_digit : (n : ℕ) → n < 16 → digit_value (digit_of n) ≡ Some n
value_digit n h = go (ltb n 10) refl
  where
    go : (t : Bool) → ltb n 10 ≡ t → digit_value (digit_of n) ≡ Some n
    go true e =
        let k : n < 10 = ltb-true n 10 e in
        ap digit_value (digit_numeral n k) ∙ sym (value_numeral (0x30 + n) (omega arith) (omega arith)) ∙ ap Some (omega arith)
    go false e =
        let k : 10 ≤ n = ltb-false n 10 e in
        ap digit_value (digit_capital n k h) ∙ sym (value_capital (0x41 + (n - 10)) (omega arith) (omega arith)) ∙ ap Some (omega arith)

-- the digit of a character's worth is the character in capitals
pub digit_value_lem : (c n : ℕ) → digit_value c ≡ Some n → digit_of n ≡ capital_of c
digit_value_lem c n =
    by_kind (λ (t : Bool) (d : Option ℕ). d ≡ Some n → digit_of n ≡ capital_of c) c
    (λ h k e. let w : c - 0x30 ≡ n = cc in digit_numeral n (omega arith) ∙ omega (arith, capital_below c (omega arith)))
    (λ h k e. let w : c - 0x41 + 10 ≡ n = cc in digit_capital n (omega arith) (omega arith) ∙ omega (arith, capital_below c (omega arith)))
    (λ h k e. let w : c - 0x61 + 10 ≡ n = cc in digit_capital n (omega arith) (omega arith) ∙ omega (arith, capital_small c h k))
    (λ e. let z : ◌≡◌ {A = ℕ} 0 1 = cc in absurd (omega arith))

-- a digit is worth less than 16
pub value_below : (c n : ℕ) → digit_value c ≡ Some n → n < 16
value_below c n =
    by_kind (λ (t : Bool) (d : Option ℕ). d ≡ Some n → n < 16) c
    (λ h k e. let w : c - 0x30 ≡ n = cc in omega arith)
    (λ h k e. let w : c - 0x41 + 10 ≡ n = cc in omega arith)
    (λ h k e. let w : c - 0x61 + 10 ≡ n = cc in omega arith)
    (λ e. let z : ◌≡◌ {A = ℕ} 0 1 = cc in absurd (omega arith))

-- a character is a hex digit exactly when it is worth a number
abbrev pub is_value : Option ℕ → Bool
is_value (Some n) = true
is_value None = false

pub hex_is_value : (c : ℕ) → is_hex c ≡ is_value (digit_value c)
hex_is_value c = by_kind (λ (t : Bool) (d : Option ℕ). t ≡ is_value d) c (λ h k. refl) (λ h k. refl) (λ h k. refl) refl

pub hex_value : (c : ℕ) → is_hex c ≡ true → (n : ℕ) × (digit_value c ≡ Some n)
hex_value c h = go (digit_value c) (sym (hex_is_value c) ∙ h)
  where
    go : (d : Option ℕ) → is_value d ≡ true → (n : ℕ) × (d ≡ Some n)
    go (Some n) e = (n, refl)
    go None e = absurd (not_both e refl)

pub value_hex : (c n : ℕ) → digit_value c ≡ Some n → is_hex c ≡ true
value_hex c n e = hex_is_value c ∙ ap is_value e

-- every number's digit is one
pub digit_hex : (n : ℕ) → is_hex (digit_of n) ≡ true
digit_hex n = ap is_hex (sym (digit_rest n)) ∙ value_hex (digit_of (n % 16)) (n % 16) (value_digit (n % 16) (omega arith))

-- hex digits lie in 30h to 66h, and none is what marks a message: `:`, CR, LF, EOT and `=`
pub hex_range : (c : ℕ) → is_hex c ≡ true → (0x30 ≤ c) × (c ≤ 0x66)
hex_range c =
    by_kind (λ (t : Bool) (d : Option ℕ). t ≡ true → (0x30 ≤ c) × (c ≤ 0x66)) c
    (λ h k e. (h, omega arith)) (λ h k e. (omega arith, omega arith)) (λ h k e. (omega arith, k)) (λ e. absurd (not_both e refl))

pub hex_other : (c k : ℕ) → is_hex c ≡ true → is_hex k ≡ false → c ≡ k → ⊥
hex_other c k h n e = not_both h (ap is_hex e ∙ n)

pub colon_not_hex : is_hex 0x3A ≡ false
unfolding is_hex
colon_not_hex = refl

pub cr_not_hex : is_hex 0x0D ≡ false
unfolding is_hex
cr_not_hex = refl

pub lf_not_hex : is_hex 0x0A ≡ false
unfolding is_hex
lf_not_hex = refl

pub eot_not_hex : is_hex 0x04 ≡ false
unfolding is_hex
eot_not_hex = refl

pub equals_not_hex : is_hex 0x3D ≡ false
unfolding is_hex
equals_not_hex = refl

-- ---- pairs

-- the two digits of a byte spell the byte
pub pair_digits : (b : ℕ) → b < 256 → pair_value (digit_of (b / 16)) (digit_of (b % 16)) ≡ Some b
unfolding pair_value
pair_digits b h = ap₂ joined (value_digit (b / 16) (omega arith)) (value_digit (b % 16) (omega arith)) ∙ ap Some (omega arith)

-- what a pair that spells a byte is made of
pair_parts : (high low b : ℕ) → pair_value high low ≡ Some b → (n : ℕ) × (m : ℕ) × (digit_value high ≡ Some n) × (digit_value low ≡ Some m) × (b ≡ n * 16 + m)
unfolding pair_value
pair_parts high low b = go (digit_value high) (digit_value low) refl refl
  where
    go : (d e : Option ℕ) → digit_value high ≡ d → digit_value low ≡ e → joined d e ≡ Some b
        → (n : ℕ) × (m : ℕ) × (digit_value high ≡ Some n) × (digit_value low ≡ Some m) × (b ≡ n * 16 + m)
    go (Some n) (Some m) p q e = (n, m, p, q, cc)
    go (Some n) None p q e = let z : ◌≡◌ {A = ℕ} 0 1 = cc in absurd (omega arith)
    go None d p q e = let z : ◌≡◌ {A = ℕ} 0 1 = cc in absurd (omega arith)

-- it is a byte, both characters are hex digits, and in capitals they are the byte's digits
pub pair_below : (high low b : ℕ) → pair_value high low ≡ Some b → b < 256
pair_below high low b e =
    let r = pair_parts high low b e in
    omega (arith, value_below high r.0 r.2, value_below low r.1 r.3, r.4)

pub pair_hex : (high low b : ℕ) → pair_value high low ≡ Some b → (is_hex high ≡ true) × (is_hex low ≡ true)
pair_hex high low b e =
    let r = pair_parts high low b e in
    (value_hex high r.0 r.2, value_hex low r.1 r.3)

pub digits_pair : (high low b : ℕ) → pair_value high low ≡ Some b → (digit_of (b / 16) ≡ capital_of high) × (digit_of (b % 16) ≡ capital_of low)
digits_pair high low b e =
    let r = pair_parts high low b e in
    let h : b / 16 ≡ r.0 = omega (arith, value_below high r.0 r.2, value_below low r.1 r.3, r.4) in
    let l : b % 16 ≡ r.1 = omega (arith, value_below high r.0 r.2, value_below low r.1 r.3, r.4) in
    (ap digit_of h ∙ digit_value_lem high r.0 r.2, ap digit_of l ∙ digit_value_lem low r.1 r.3)

-- two hex digits spell a byte
pub hex_pair : (high low : ℕ) → is_hex high ≡ true → is_hex low ≡ true → (b : ℕ) × (pair_value high low ≡ Some b)
unfolding pair_value
hex_pair high low h l =
    let n = hex_value high h in
    let m = hex_value low l in
    (n.0 * 16 + m.0, ap₂ joined n.1 m.1)

-- ---- texts

pub length_hex : (s : List ℕ) → length (hex_of s) ≡ 2 * length s
unfolding hex_of
length_hex [] = refl
length_hex (b ∷ s) = omega (arith, length_hex s)

pub hex_append : (a b : List ℕ) → hex_of (a ++ b) ≡ hex_of a ++ hex_of b
unfolding hex_of
hex_append [] b = refl
hex_append (x ∷ a) b = ap (λ (t : List ℕ). digit_of (x / 16) ∷ digit_of (x % 16) ∷ t) (hex_append a b)

pub hex_all : (s : List ℕ) → all_hex (hex_of s) ≡ true
unfolding hex_of all_hex
hex_all [] = refl
hex_all (b ∷ s) = both_in (digit_hex (b / 16)) (both_in (digit_hex (b % 16)) (hex_all s))

pub all_append : (t u : List ℕ) → all_hex (t ++ u) ≡ both (all_hex t) (all_hex u)
unfolding all_hex
all_append [] u = refl
all_append (c ∷ t) u = go (is_hex c) (all_append t u)
  where
    go : (a : Bool) → all_hex (t ++ u) ≡ both (all_hex t) (all_hex u) → both a (all_hex (t ++ u)) ≡ both (both a (all_hex t)) (all_hex u)
    go true e = e
    go false e = refl

-- the bytes of an encoded list are the list
pub bytes_of_hex : (s : List ℕ) → Bytes s → bytes_of (hex_of s) ≡ s
unfolding hex_of bytes_of AllBelow
bytes_of_hex [] h = refl
bytes_of_hex (b ∷ s) h = ap₂ spelt (pair_digits b h.0) (bytes_of_hex s h.1)

-- whatever a text spells is bytes, and no more than a byte for two characters
pub bytes_below : (t : List ℕ) → Bytes (bytes_of t)
unfolding bytes_of AllBelow
bytes_below [] = tt
bytes_below (c ∷ []) = tt
bytes_below (high ∷ low ∷ t) = go (pair_value high low) refl (bytes_below t)
  where
    go : (p : Option ℕ) → pair_value high low ≡ p → Bytes (bytes_of t) → Bytes (spelt p (bytes_of t))
    go (Some b) e r = (pair_below high low b e, r)
    go None e r = tt

pub length_bytes : (t : List ℕ) → 2 * length (bytes_of t) ≤ length t
unfolding bytes_of
length_bytes [] = omega arith
length_bytes (c ∷ []) = omega arith
length_bytes (high ∷ low ∷ t) = go (pair_value high low) (length_bytes t)
  where
    go : (p : Option ℕ) → 2 * length (bytes_of t) ≤ length t → 2 * length (spelt p (bytes_of t)) ≤ suc (suc (length t))
    go (Some b) h = omega arith
    go None h = omega arith

-- a text is whole where it is pairs of hex digits to its end: "k byte pairs". `decode` tells this by its count
abbrev pub Whole : List ℕ → Type 0
Whole t = 2 * length (bytes_of t) ≡ length t

-- an even number of hex digits is whole, and a whole text is an even number of hex digits
pub hex_whole : (t : List ℕ) (k : ℕ) → all_hex t ≡ true → length t ≡ 2 * k → Whole t
unfolding bytes_of all_hex
hex_whole [] k h e = refl
hex_whole (c ∷ []) k h e = absurd (omega arith)
hex_whole (high ∷ low ∷ t) k h e =
    let a = both_out (is_hex high) (both (is_hex low) (all_hex t)) h in
    let b = both_out (is_hex low) (all_hex t) a.1 in
    let p = hex_pair high low a.0 b.0 in
    let r : Whole t = hex_whole t (k - 1) b.1 (omega arith) in
    rw p.1 (omega arith)

pub whole_hex : (t : List ℕ) → Whole t → all_hex t ≡ true
unfolding bytes_of all_hex
whole_hex [] e = refl
whole_hex (c ∷ []) e = absurd (omega arith)
whole_hex (high ∷ low ∷ t) e = go (pair_value high low) refl e (whole_hex t)
  where
    go : (p : Option ℕ) → pair_value high low ≡ p → 2 * length (spelt p (bytes_of t)) ≡ suc (suc (length t)) → (Whole t → all_hex t ≡ true)
        → both (is_hex high) (both (is_hex low) (all_hex t)) ≡ true
    go (Some b) q e ih = let r = pair_hex high low b q in both_in r.0 (both_in r.1 (ih (omega arith)))
    go None q e ih = absurd (omega arith)

-- the digits of the bytes of a whole text are the text in capitals
pub hex_of_bytes : (t : List ℕ) → Whole t → hex_of (bytes_of t) ≡ capitals t
unfolding bytes_of hex_of capitals
hex_of_bytes [] e = refl
hex_of_bytes (c ∷ []) e = absurd (omega arith)
hex_of_bytes (high ∷ low ∷ t) e = go (pair_value high low) refl e (hex_of_bytes t)
  where
    go : (p : Option ℕ) → pair_value high low ≡ p → 2 * length (spelt p (bytes_of t)) ≡ suc (suc (length t)) → (Whole t → hex_of (bytes_of t) ≡ capitals t)
        → hex_of (spelt p (bytes_of t)) ≡ capital_of high ∷ capital_of low ∷ capitals t
    go (Some b) q e ih = let r = digits_pair high low b q in (λ i. r.0 i ∷ r.1 i ∷ ih (omega arith) i)
    go None q e ih = absurd (omega arith)

-- after a whole text, the bytes go on
pub bytes_append : (t u : List ℕ) → Whole t → bytes_of (t ++ u) ≡ bytes_of t ++ bytes_of u
unfolding bytes_of
bytes_append [] u e = refl
bytes_append (c ∷ []) u e = absurd (omega arith)
bytes_append (high ∷ low ∷ t) u e = go (pair_value high low) e (bytes_append t u)
  where
    go : (p : Option ℕ) → 2 * length (spelt p (bytes_of t)) ≡ suc (suc (length t)) → (Whole t → bytes_of (t ++ u) ≡ bytes_of t ++ bytes_of u)
        → spelt p (bytes_of (t ++ u)) ≡ spelt p (bytes_of t) ++ bytes_of u
    go (Some b) e ih = ap (λ (s : List ℕ). b ∷ s) (ih (omega arith))
    go None e ih = absurd (omega arith)
