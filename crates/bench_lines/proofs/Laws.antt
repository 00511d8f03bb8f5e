-- Texts put one after the other into a buffer. Assumes nothing.
use mathlib.Core.Path.{◌≡◌, refl, sym, ap, subst, ◌∙◌}
use mathlib.Core.Bool.{Bool, true, false}
use mathlib.Core.List.{List, [], ◌∷◌, ◌++◌, append_assoc}
use Prim.Native.Nat.{ℕ, suc, ◌+◌, ◌-◌, ◌/◌, ◌%◌, ◌≤◌, ◌<◌}
use native.Mathlib.Nat.{add-zero}
use native.Mathlib.Numerals.{add-one}
use native.Mathlib.Omega.{arith}
use borrow.Author.Tests.{leb-true, leb-false, lt-ltb, le-ltb}
use lib.Dec.{leb}
use lib.ListN.{length, drop, get_or, length-append, drop_of_length-le}
use lib.Seq.{sets, length-sets, drop-cons}
use Rattle.base.proofs.Sets.{sets_append, sets_out}
use Rattle.hex_pairs.specs.Hex.{digit_of, hex_of}
use Rattle.bench_lines.specs.Answer.{end_of, decimal_of, signed_of, pair_of, shown}
use Rattle.bench_lines.specs.State.{column_of, columns_of}

-- a text was put at a place of a buffer: where it ends, and the buffer then
abbrev pub Put : List ℕ → ℕ → List ℕ → ℕ → List ℕ → Type 0
Put buffer at text end after = record { end : end ≡ end_of buffer at text; lent : after ≡ sets buffer at text }

-- the same text
pub put_same : (o o₁ a b : List ℕ) (at r : ℕ) → a ≡ b → Put o at a r o₁ → Put o at b r o₁
put_same o o₁ a b at r e p = subst (λ (text : List ℕ). Put o at text r o₁) e p

-- one text, then the next
pub then : (o o₁ o₂ a b : List ℕ) (at r s : ℕ) → Put o at a r o₁ → Put o₁ r b s o₂ → Put o at (a ++ b) s o₂
unfolding end_of
then o o₁ o₂ a b at r s p u =
    let kept : length o₁ ≡ length o = ap length p.lent ∙ length-sets o at a in
    record { end = omega (arith, length-append a b, p.end, u.end); lent = u.lent ∙ go kept (leb (at + length a) (length o)) refl }
  where
    go : length o₁ ≡ length o → (t : Bool) → leb (at + length a) (length o) ≡ t → sets o₁ r b ≡ sets o at (a ++ b)
    go kept true e =
        let fits : at + length a ≤ length o = leb-true _ _ e in
        let place : r ≡ at + length a = omega (arith, p.end) in
        rw (place, p.lent) (sym (sets_append a b o at))
    go kept false e =
        let past : length o < at + length a = leb-false _ _ e in
        let kept₂ : length (sets o at a) ≡ length o = length-sets o at a in
        sets_out b o₁ r (omega (arith, p.end)) ∙ p.lent ∙ sym (sets_out b (sets o at a) (at + length a) (omega arith)) ∙ sym (sets_append a b o at)

-- ---- a loop that puts a text: putting what is left gives the whole
pub record Putting (o₀ : List ℕ) (at : ℕ) (whole o : List ℕ) (n : ℕ) (left : List ℕ) : Type 0 where
  pub end : end_of o₀ at whole ≡ end_of o n left
  pub stores : sets o₀ at whole ≡ sets o n left

pub putting_starts : (o : List ℕ) (at : ℕ) (whole : List ℕ) → Putting o at whole o at whole
putting_starts o at whole = record { end = refl; stores = refl }

pub putting_next : {o₀ : List ℕ} {at : ℕ} {whole o o₁ left : List ℕ} {n r : ℕ} (a b : List ℕ) → left ≡ a ++ b → Putting o₀ at whole o n left → Put o n a r o₁
    → Putting o₀ at whole o₁ r b
putting_next {o₀} {at} {whole} {o} {o₁} {left} {n} {r} a b e p q =
    let u : Put o n (a ++ b) (end_of o₁ r b) (sets o₁ r b) = then o o₁ (sets o₁ r b) a b n r (end_of o₁ r b) q (record { end = refl; lent = refl }) in
    record {
      end = p.end ∙ ap (end_of o n) e ∙ sym u.end;
      stores = p.stores ∙ ap (sets o n) e ∙ sym u.lent;
    }

pub putting_done : {o₀ : List ℕ} {at : ℕ} {whole o left : List ℕ} {n : ℕ} → left ≡ [] → Putting o₀ at whole o n left → Put o₀ at whole n o
unfolding end_of
putting_done {o₀} {at} {whole} {o} {left} {n} e p =
    let none : length left ≡ 0 = ap length e in
    record { end = omega (arith, p.end); lent = sym (p.stores ∙ ap (sets o n) e) }

pub putting_kept : {o₀ : List ℕ} {at : ℕ} {whole o left : List ℕ} {n : ℕ} → Putting o₀ at whole o n left → length o ≡ length o₀
putting_kept {o₀} {at} {whole} {o} {left} {n} p = sym (length-sets o n left) ∙ ap length (sym p.stores) ∙ length-sets o₀ at whole

-- ---- the character, the byte and the number at i, and what is left behind it
pub next_character : (s : List ℕ) (i : ℕ) → i < length s → drop i s ≡ (get_or s i 0 ∷ []) ++ drop (i + 1) s
next_character s i h = rw (add-one, drop-cons s i 0)

pub next_byte : (s : List ℕ) (i : ℕ) → i < length s → hex_of (drop i s) ≡ pair_of (get_or s i 0) ++ hex_of (drop (i + 1) s)
unfolding hex_of pair_of
next_byte s i h = rw (add-one, drop-cons s i 0)

pub columns_start : (o : List ℕ) (at from : ℕ) (words : List ℕ) → Putting o at (columns_of from words) o at (columns_of (from + 0) words)
columns_start o at from words = rw add-zero (putting_starts o at (columns_of from words))

pub next_column : (from : ℕ) (s : List ℕ) (i : ℕ) → i < length s
    → columns_of (from + i) (drop i s) ≡ (column_of (from + i) (get_or s i 0) ++ (0x20 ∷ [])) ++ columns_of (from + (i + 1)) (drop (i + 1) s)
unfolding columns_of
next_column from s i h =
    let place : suc (from + i) ≡ from + (i + 1) = omega arith in
    rw (drop-cons s i 0) (
    ap (λ (k : ℕ). column_of (from + i) (get_or s i 0) ++ (0x20 ∷ columns_of k (drop (suc i) s))) place
    ∙ ap (λ (k : ℕ). column_of (from + i) (get_or s i 0) ++ (0x20 ∷ columns_of (from + (i + 1)) (drop k s))) (sym (add-one i))
    ∙ sym (append_assoc (column_of (from + i) (get_or s i 0)) (0x20 ∷ []) (columns_of (from + (i + 1)) (drop (i + 1) s)))
    )

-- nothing is left
pub left_none : (s : List ℕ) (i : ℕ) → length s ≤ i → drop i s ≡ []
left_none s i h = drop_of_length-le s h

pub hex_none : (s : List ℕ) (i : ℕ) → length s ≤ i → hex_of (drop i s) ≡ []
unfolding hex_of
hex_none s i h = rw (drop_of_length-le s h)

pub columns_none : (from : ℕ) (s : List ℕ) (i : ℕ) → length s ≤ i → columns_of (from + i) (drop i s) ≡ []
unfolding columns_of
columns_none from s i h = rw (drop_of_length-le s h)

-- `-`, or the digits
pub shown_none : (s : List ℕ) → length s ≡ 0 → shown s ≡ 0x2D ∷ []
unfolding shown
shown_none [] h = refl
shown_none (b ∷ s) h = absurd (omega arith)

pub shown_some : (s : List ℕ) → (length s ≡ 0 → ⊥) → shown s ≡ hex_of s
unfolding shown
shown_some [] h = absurd (h refl)
shown_some (b ∷ s) h = refl

-- ---- the texts that are put in parts, or one of two
pub pair_put : (o o₁ o₂ : List ℕ) (at r s b h l : ℕ) → h ≡ digit_of (b / 16) → l ≡ digit_of (b % 16) → Put o at (h ∷ []) r o₁ → Put o₁ r (l ∷ []) s o₂
    → Put o at (pair_of b) s o₂
unfolding pair_of
pair_put o o₁ o₂ at r s b h l e f p q =
    subst (λ (x : ℕ). Put o at (x ∷ digit_of (b % 16) ∷ []) s o₂) e
    (subst (λ (x : ℕ). Put o at (h ∷ x ∷ []) s o₂) f (then o o₁ o₂ (h ∷ []) (l ∷ []) at r s p q))

pub signed_plain : (o o₁ : List ℕ) (at r all word : ℕ) → word < all / 2 → Put o at (decimal_of word) r o₁ → Put o at (signed_of all word) r o₁
unfolding signed_of
signed_plain o o₁ at r all word h p = simp (lt-ltb word (all / 2) h) p

pub signed_minus : (o o₁ o₂ : List ℕ) (at r s all word : ℕ) → all / 2 ≤ word → Put o at (0x2D ∷ []) r o₁ → Put o₁ r (decimal_of (all - word)) s o₂
    → Put o at (signed_of all word) s o₂
unfolding signed_of
signed_minus o o₁ o₂ at r s all word h p q =
    simp (le-ltb word (all / 2) h) (then o o₁ o₂ (0x2D ∷ []) (decimal_of (all - word)) at r s p q)
