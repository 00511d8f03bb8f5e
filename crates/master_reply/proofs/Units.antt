-- What the code's tests and calls show of a reply's unit, and the loop that takes its words, turn by turn. Assumes nothing.
use Rattle.std.proofs.Common.{Option}
use mathlib.Core.Path.{◌≡◌, refl, sym, ap, ◌∙◌}
use mathlib.Core.Bool.{true}
use mathlib.Core.List.{List, ◌∷◌}
use Prim.Native.Nat.{ℕ, zero, suc, ◌+◌, ◌-◌, ◌*◌, ◌%◌, ◌≤◌, ◌<◌}
use native.Mathlib.Nat.{sub-zero}
use native.Mathlib.Numerals.{add-one}
use native.Mathlib.Omega.{arith}
use borrow.Author.Tests.{le-leb, eqb-true, leb-true}
use lib.Dec.{leb, eqb}
use lib.ListN.{length, get_or, set, length-set, replicate}
use lib.Seq.{sets}
use Rattle.base.specs.Choice.{both}
use Rattle.base.specs.Buffers.{front}
use Rattle.base.proofs.Tests.{both_out, pick_both}
use Rattle.base.proofs.Sets.{sets_front}
use Rattle.modbus_words.specs.Words.{word_at}
use Rattle.modbus.specs.Request.{between}
use Rattle.master_reply.specs.declared.Heard.{Heard}
use Rattle.master_reply.specs.declared.Reply.{Reply}
use Rattle.master_reply.specs.Reply.{read_count, tells_data, tells_one, tells_many, tells_exception, unit_tells, reply_of, registers_of, words_from, heard_of}

-- ---- what was read of the unit is what the definition reads
pub reply_read : (a : ℕ) (u : List ℕ) (f b r n : ℕ) (x : Option Reply) → 1 ≤ a → a ≤ 247 → f ≡ get_or u 0 0 → b ≡ get_or u 1 0 → r ≡ word_at u 1 → n ≡ word_at u 3
    → x ≡ unit_tells a (length u) f b r n → x ≡ reply_of a u
unfolding reply_of
reply_read a u f b r n x l h p q s o e = simp (le-leb 1 a l, le-leb a 247 h) (rw (← p, ← q, ← s, ← o) e)

-- ---- the words: stores of all that are left would give the whole
pub words_length : (u : List ℕ) (at n : ℕ) → length (words_from u at n) ≡ n
unfolding words_from
words_length u at zero = refl
words_length u at (suc n) = ap suc (words_length u (at + 2) n)

pub record Taking (u : List ℕ) (count : ℕ) (words : List ℕ) (i : ℕ) : Type 0 where
  pub passed : i ≤ count
  pub kept : length words ≡ 125
  pub left : sets words i (words_from u (2 * i + 2) (count - i)) ≡ sets (replicate 125 0) 0 (words_from u 2 count)

pub take_starts : (u : List ℕ) (count : ℕ) → Taking u count (replicate 125 0) 0
take_starts u count = record { passed = omega arith; kept = refl; left = ap (λ (n : ℕ). sets (replicate 125 0) 0 (words_from u 2 n)) (sub-zero count) }

next_word : (u : List ℕ) (i n : ℕ) → i < n → words_from u (2 * i + 2) (n - i) ≡ word_at u (2 * i + 2) ∷ words_from u (2 * (i + 1) + 2) (n - (i + 1))
unfolding words_from
next_word u i n h =
    let k : n - i ≡ suc (n - (i + 1)) = omega arith in
    let p : 2 * i + 2 + 2 ≡ 2 * (i + 1) + 2 = omega arith in
    ap (words_from u (2 * i + 2)) k ∙ ap (λ (at : ℕ). word_at u (2 * i + 2) ∷ words_from u at (n - (i + 1))) p

pub take_again : (u words : List ℕ) (count i w : ℕ) → Taking u count words i → i < count → w ≡ word_at u (2 * i + 2) → Taking u count (set words i w) (i + 1)
take_again u words count i w t h e =
    record {
      passed = omega arith;
      kept = simp length-set t.kept;
      left =
          rw e
          (ap (λ (at : ℕ). sets (set words i (word_at u (2 * i + 2))) at (words_from u (2 * (i + 1) + 2) (count - (i + 1)))) (add-one i)
          ∙ sym (ap (sets words i) (next_word u i count h))
          ∙ t.left);
    }

pub take_done : (u words : List ℕ) (count i : ℕ) → count ≤ 125 → Taking u count words i → count ≤ i → words ≡ front (words_from u 2 count) (replicate 125 0)
unfolding words_from
take_done u words count i h t k =
    let none : count - i ≡ 0 = omega arith in
    sym (ap (λ (n : ℕ). sets words i (words_from u (2 * i + 2) n)) none)
    ∙ t.left
    ∙ sets_front (words_from u 2 count) (replicate 125 0) (omega (arith, words_length u 2 count))

-- ---- a reply brings 125 registers at most
pub count_out : (b : ℕ) → read_count b ≡ true → (b % 2 ≡ 0) × (2 ≤ b) × (b ≤ 250)
unfolding read_count
count_out b e =
    let h = both_out (eqb (b % 2) 0) (between 2 250 b) e in
    let k = both_out (leb 2 b) (leb b 250) h.1 in
    (eqb-true (b % 2) 0 h.0, leb-true 2 b k.0, leb-true b 250 k.1)

abbrev Few : Option Reply → Type 0
Few r = registers_of r ≤ 125

pub reply_few : (a : ℕ) (u : List ℕ) → registers_of (reply_of a u) ≤ 125
unfolding reply_of unit_tells tells_data
reply_few a u =
    let n : ℕ = length u in
    let f : ℕ = get_or u 0 0 in
    let b : ℕ = get_or u 1 0 in
    pick_both Few (between 1 247 a)
    (λ _. pick_both Few (tells_data n f b)
    (λ e. omega (arith, (count_out b (both_out (read_count b) (eqb n (b + 2)) (both_out (between 3 4 f) (both (read_count b) (eqb n (b + 2))) e).1).0).2))
    (λ _. pick_both Few (tells_one n f) (λ _. omega arith)
    (λ _. pick_both Few (tells_many n f (word_at u 3)) (λ _. omega arith)
    (λ _. pick_both Few (tells_exception n f b) (λ _. omega arith) (λ _. omega arith)))))
    (λ _. omega arith)

pub count_few : (a : ℕ) (u : List ℕ) (r : Option Reply) (n : ℕ) → r ≡ reply_of a u → n ≡ registers_of r → n ≤ 125
count_few a u r n e h = rw (h, e) (reply_few a u)

pub heard_read : (a : ℕ) (u : List ℕ) (r : Option Reply) (n : ℕ) (w : List ℕ) → r ≡ reply_of a u → n ≡ registers_of r → w ≡ front (words_from u 2 n) (replicate 125 0)
    → ◌≡◌ {A = Heard} (record { words = w; reply = r }) (heard_of a u)
unfolding heard_of
heard_read a u r n w e h k = rw (k, h, e)
