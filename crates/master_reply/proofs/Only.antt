-- What is read as a reply is one, and its unit is that reply's: "Else 14, and only then". Assumes nothing.
use Rattle.std.proofs.Common.{Option, Some}
use mathlib.Core.Path.{◌≡◌, refl, sym, ap, ap₂, ◌∙◌}
use mathlib.Core.Bool.{true}
use mathlib.Core.List.{List, [], ◌∷◌, ◌++◌}
use Prim.Native.Nat.{ℕ, ◌+◌, ◌*◌, ◌/◌}
use native.Mathlib.Omega.{arith}
use borrow.Author.Tests.{leb-true, eqb-true}
use lib.Dec.{leb, eqb}
use lib.ListN.{length, take, get_or, replicate}
use Rattle.base.specs.Choice.{both}
use Rattle.base.specs.Bytes.{AllBelow, Bytes}
use Rattle.base.specs.Buffers.{front}
use Rattle.base.proofs.Tests.{both_out, pick_both}
use Rattle.base.proofs.Sets.{take_front}
use Rattle.modbus_words.specs.Words.{word_bytes, word_at}
use Rattle.modbus.specs.Request.{label, between}
use Rattle.master_reply.specs.declared.Reply.{Reply}
use Rattle.master_reply.specs.declared.Reply.TheVariants.{Data, One, Many, Exception}
use Rattle.master_reply.specs.Reply.{reply_number, read_count, tells_data, tells_one, tells_many, tells_exception, unit_tells, reply_of, registers_of, words_from, heard_of}
use Rattle.master_reply.specs.Told.{words_bytes, address_of, reply_unit, words_heard, Within, IsReply, IsMessage}
use Rattle.master_reply.proofs.Units.{count_out, words_length}
use Rattle.master_reply.proofs.Words.{bytes_own, shift_words, bytes_again}

-- ---- the three shapes of a unit, by its length
data_unit : (u : List ℕ) (n : ℕ) → Bytes u → length u ≡ 2 * n + 2 → get_or u 1 0 ≡ 2 * n → u ≡ get_or u 0 0 ∷ 2 * n ∷ words_bytes (words_from u 2 n)
unfolding AllBelow
data_unit [] n b h e = absurd (omega arith)
data_unit (x ∷ []) n b h e = absurd (omega arith)
data_unit (x ∷ y ∷ s) n b h e =
    (λ i. x ∷ e i ∷ sym (ap words_bytes (shift_words x y s 0 n) ∙ bytes_again s n b.1.1 (omega arith)) i)

echo_unit : (u : List ℕ) → Bytes u → length u ≡ 5 → u ≡ get_or u 0 0 ∷ word_bytes (word_at u 1) ++ word_bytes (word_at u 3)
unfolding AllBelow word_at
echo_unit [] b h = absurd (omega arith)
echo_unit (v ∷ []) b h = absurd (omega arith)
echo_unit (v ∷ w ∷ []) b h = absurd (omega arith)
echo_unit (v ∷ w ∷ x ∷ []) b h = absurd (omega arith)
echo_unit (v ∷ w ∷ x ∷ y ∷ []) b h = absurd (omega arith)
echo_unit (v ∷ w ∷ x ∷ y ∷ z ∷ []) b h = ap₂ (λ (p q : List ℕ). v ∷ p ++ q) (sym (bytes_own w x b.1.1.0)) (sym (bytes_own y z b.1.1.1.1.0))
echo_unit (v ∷ w ∷ x ∷ y ∷ z ∷ t ∷ u) b h = absurd (omega arith)

two_unit : (u : List ℕ) → length u ≡ 2 → u ≡ get_or u 0 0 ∷ get_or u 1 0 ∷ []
two_unit [] h = absurd (omega arith)
two_unit (x ∷ []) h = absurd (omega arith)
two_unit (x ∷ y ∷ []) h = refl
two_unit (x ∷ y ∷ z ∷ u) h = absurd (omega arith)

-- ---- a unit that tells something is that reply's
within_out : (low high n : ℕ) → between low high n ≡ true → Within low high n
within_out low high n e =
    let h = both_out (leb low n) (leb n high) e in
    (leb-true low n h.0, leb-true n high h.1)

record Told (a : ℕ) (u : List ℕ) (r : Option Reply) : Type 0 where
  address : address_of r ≡ a
  is : IsReply r
  unit : u ≡ reply_unit r (words_from u 2 (registers_of r))

module _ (a : ℕ) (u : List ℕ) (below : Bytes u) (w : Within 1 247 a) where
  data_only : tells_data (length u) (get_or u 0 0) (get_or u 1 0) ≡ true → Told a u (Some (Data a (get_or u 0 0) (get_or u 1 0 / 2)))
  unfolding tells_data reply_unit
  data_only e =
      let f : ℕ = get_or u 0 0 in
      let b : ℕ = get_or u 1 0 in
      let h = both_out (between 3 4 f) (both (read_count b) (eqb (length u) (b + 2))) e in
      let k = both_out (read_count b) (eqb (length u) (b + 2)) h.1 in
      let c = count_out b k.0 in
      let size : length u ≡ b + 2 = eqb-true (length u) (b + 2) k.1 in
      let even : get_or u 1 0 ≡ 2 * (get_or u 1 0 / 2) = omega (arith, c.0) in
      record {
        address = refl;
        is = (w, within_out 3 4 f h.0, (omega (arith, c.1), omega (arith, c.2)));
        unit = data_unit u (b / 2) below (omega (arith, even)) even;
      }

  one_only : tells_one (length u) (get_or u 0 0) ≡ true → Told a u (Some (One a (label (word_at u 1)) (word_at u 3)))
  unfolding tells_one reply_unit
  one_only e =
      let h = both_out (eqb (get_or u 0 0) 6) (eqb (length u) 5) e in
      record {
        address = refl;
        is = w;
        unit = echo_unit u below (eqb-true (length u) 5 h.1) ∙ ap (λ (f : ℕ). f ∷ word_bytes (word_at u 1) ++ word_bytes (word_at u 3)) (eqb-true (get_or u 0 0) 6 h.0);
      }

  many_only : tells_many (length u) (get_or u 0 0) (word_at u 3) ≡ true → Told a u (Some (Many a (label (word_at u 1)) (word_at u 3)))
  unfolding tells_many reply_unit
  many_only e =
      let h = both_out (eqb (get_or u 0 0) 16) (both (eqb (length u) 5) (between 1 123 (word_at u 3))) e in
      let k = both_out (eqb (length u) 5) (between 1 123 (word_at u 3)) h.1 in
      record {
        address = refl;
        is = (w, within_out 1 123 (word_at u 3) k.1);
        unit = echo_unit u below (eqb-true (length u) 5 k.0) ∙ ap (λ (f : ℕ). f ∷ word_bytes (word_at u 1) ++ word_bytes (word_at u 3)) (eqb-true (get_or u 0 0) 16 h.0);
      }

  exception_only : tells_exception (length u) (get_or u 0 0) (get_or u 1 0) ≡ true → Told a u (Some (Exception a (get_or u 0 0) (get_or u 1 0)))
  unfolding tells_exception reply_unit
  exception_only e =
      let h = both_out (leb 0x80 (get_or u 0 0)) (both (eqb (length u) 2) (between 1 4 (get_or u 1 0))) e in
      let k = both_out (eqb (length u) 2) (between 1 4 (get_or u 1 0)) h.1 in
      record {
        address = refl;
        is = (w, leb-true 0x80 (get_or u 0 0) h.0, within_out 1 4 (get_or u 1 0) k.1);
        unit = two_unit u (eqb-true (length u) 2 k.0);
      }

-- 14 is told of all else
abbrev ToldOr14 : ℕ → List ℕ → Option Reply → Type 0
ToldOr14 a u r = reply_number r ≡ 0 → Told a u r

reply_only : (a : ℕ) (u : List ℕ) → Bytes u → reply_number (reply_of a u) ≡ 0 → Told a u (reply_of a u)
unfolding reply_of unit_tells
reply_only a u below =
    let n : ℕ = length u in
    let f : ℕ = get_or u 0 0 in
    let b : ℕ = get_or u 1 0 in
    pick_both (ToldOr14 a u) (between 1 247 a)
    (λ e. let w = within_out 1 247 a e in
    pick_both (ToldOr14 a u) (tells_data n f b) (λ t _. data_only a u below w t)
    (λ _. pick_both (ToldOr14 a u) (tells_one n f) (λ t _. one_only a u below w t)
    (λ _. pick_both (ToldOr14 a u) (tells_many n f (word_at u 3)) (λ t _. many_only a u below w t)
    (λ _. pick_both (ToldOr14 a u) (tells_exception n f b) (λ t _. exception_only a u below w t) (λ _ z. absurd (omega arith))))))
    (λ _ z. absurd (omega arith))

-- the words heard are those of the unit
heard_words : (a : ℕ) (u : List ℕ) → words_heard (heard_of a u) ≡ words_from u 2 (registers_of (reply_of a u))
unfolding heard_of
heard_words a u =
    let ws : List ℕ = words_from u 2 (registers_of (reply_of a u)) in
    ap (λ (n : ℕ). take n (front ws (replicate 125 0))) (sym (words_length u 2 (registers_of (reply_of a u)))) ∙ take_front ws (replicate 125 0)

pub heard_only : (made : ℕ → List ℕ → List ℕ) (a : ℕ) (u bytes : List ℕ) → Bytes u → bytes ≡ made a u → reply_number (heard_of a u).reply ≡ 0
    → IsMessage made bytes (heard_of a u)
unfolding heard_of
heard_only made a u bytes below is e =
    let t = reply_only a u below e in
    (t.is, is ∙ ap₂ made (sym t.address) (t.unit ∙ ap (reply_unit (reply_of a u)) (sym (heard_words a u))))
