-- Each reply is read as what it is, and what was answered as that answer. Assumes nothing.
use Rattle.std.proofs.Common.{Option, Some, None}
use mathlib.Core.Logic.{inl, inr}
use mathlib.Core.Path.{◌≡◌, refl, sym, ap, ap₂, ◌∙◌}
use mathlib.Core.List.{List, [], ◌∷◌, ◌++◌}
use Prim.Native.Nat.{ℕ, ◌+◌, ◌*◌, ◌/◌, ◌%◌, ◌≤◌}
use native.Mathlib.Omega.{arith}
use borrow.Author.Tests.{le-leb, lt-leb, eq-eqb, ne_eqb}
use lib.Bits.{bit_or, or_add_and, and_le_l}
use lib.ListN.{length, get_or}
use Rattle.identity.specs.Identity.{Identity, objects_unit, part_unit}
use Rattle.identity.specs.declared.Part.{Part}
use Rattle.identity.specs.declared.Part.TheVariants.{Objects, Serial}
use Rattle.modbus_words.specs.Words.{word_bytes, long_bytes, word_at}
use Rattle.modbus.specs.Request.{label}
use Rattle.modbus.specs.Answer.{short_of, unit_of}
use Rattle.modbus.specs.declared.replies.Answer.{Answer}
use Rattle.modbus.specs.declared.replies.Answer.TheVariants as answer
use Rattle.master_reply.specs.declared.Reply.{Reply}
use Rattle.master_reply.specs.declared.Reply.TheVariants.{Data, One, Many, Exception}
use Rattle.master_reply.specs.Reply.{read_count, tells_data, tells_one, tells_many, tells_exception, unit_tells, reply_of, registers_of, words_from, heard, heard_of}
use Rattle.master_reply.specs.Told.{words_bytes, address_of, reply_unit, Within, IsReply, reply_to, words_told, IsAnswer}
use Rattle.master_reply.proofs.Units.{reply_read}
use Rattle.modbus_words.proofs.Laws.{word_own}
use Rattle.master_reply.proofs.Words.{shift_words, bytes_length, words_again}

-- ---- what each kind of unit tells
module _ (a : ℕ) where
  told_data : (f n r m : ℕ) → Within 3 4 f → Within 1 125 n → unit_tells a (2 * n + 2) f (2 * n) r m ≡ (Some (Data a f n))
  unfolding unit_tells tells_data read_count
  told_data f n r m h k =
      let even : 2 * n % 2 ≡ 0 = omega arith in
      let half : 2 * n / 2 ≡ n = omega arith in
      simp (le-leb 3 f h.0, le-leb f 4 h.1, eq-eqb (2 * n % 2) 0 even, le-leb 2 (2 * n) (omega (arith, k.0)), le-leb (2 * n) 250 (omega (arith, k.1)), eq-eqb (2 * n + 2) (2 * n + 2) refl, half)

  told_one : (b r m : ℕ) → unit_tells a 5 6 b r m ≡ (Some (One a (label r) m))
  unfolding unit_tells tells_data tells_one
  told_one b r m = refl

  told_many : (b r m : ℕ) → Within 1 123 m → unit_tells a 5 16 b r m ≡ (Some (Many a (label r) m))
  unfolding unit_tells tells_data tells_one tells_many
  told_many b r m h = simp (le-leb 1 m h.0, le-leb m 123 h.1)

  told_exception : (f c r m : ℕ) → 0x80 ≤ f → Within 1 4 c → unit_tells a 2 f c r m ≡ (Some (Exception a f c))
  unfolding unit_tells tells_data tells_one tells_many tells_exception
  told_exception f c r m h k =
      simp (le-leb 3 f (omega arith), lt-leb f 4 (omega arith), ne_eqb f 6 (λ e. omega arith), ne_eqb f 16 (λ e. omega arith), le-leb 0x80 f h, le-leb 1 c k.0, le-leb c 4 k.1)

-- ---- a reply is read as what it is
none_left : (ws : List ℕ) → length ws ≡ 0 → [] ≡ ws
none_left [] h = refl
none_left (w ∷ ws) h = absurd (omega arith)

heard_as : (a : ℕ) (u : List ℕ) (r : Option Reply) (ws : List ℕ) → r ≡ reply_of a u → words_from u 2 (registers_of r) ≡ ws → heard_of a u ≡ heard r ws
unfolding heard_of
heard_as a u r ws e h = rw (← e, h)

as_told : (a : ℕ) (u : List ℕ) (x : Option Reply) → Within 1 247 a → unit_tells a (length u) (get_or u 0 0) (get_or u 1 0) (word_at u 1) (word_at u 3) ≡ x → x ≡ reply_of a u
as_told a u x h e = reply_read a u (get_or u 0 0) (get_or u 1 0) (word_at u 1) (word_at u 3) x h.0 h.1 refl refl refl refl (sym e)

-- 06 and 16
echo_told : (a f : ℕ) (r w : ℕ) (x : Option Reply) → unit_tells a 5 f (r / 256) r w ≡ x
    → unit_tells a 5 f (r / 256) (word_at (f ∷ word_bytes r ++ word_bytes w) 1) (word_at (f ∷ word_bytes r ++ word_bytes w) 3) ≡ x
unfolding word_bytes word_at
echo_told a f r w x e = ap₂ (λ (y z : ℕ). unit_tells a 5 f (r / 256) y z) (word_own r) (word_own w) ∙ e

pub reply_heard : (r : Option Reply) (ws : List ℕ) → IsReply r → length ws ≡ registers_of r → heard_of (address_of r) (reply_unit r ws) ≡ heard r ws
unfolding reply_unit words_from word_bytes
reply_heard (Some (Data a f n)) ws h e =
    let u : List ℕ = f ∷ 2 * n ∷ words_bytes ws in
    let size : length (f ∷ 2 * n ∷ words_bytes ws) ≡ 2 * n + 2 = omega (arith, bytes_length ws) in
    heard_as a u (Some (Data a f n)) ws
    (as_told a u (Some (Data a f n)) h.0 (ap (λ (k : ℕ). unit_tells a k f (2 * n) (word_at u 1) (word_at u 3)) size ∙ told_data a f n (word_at u 1) (word_at u 3) h.1 h.2))
    (shift_words f (2 * n) (words_bytes ws) 0 n ∙ ap (words_from (words_bytes ws) 0) (sym e) ∙ words_again ws)
reply_heard (Some (One a r w)) ws h e =
    heard_as a (6 ∷ word_bytes r.0 ++ word_bytes w) (Some (One a r w)) ws
    (as_told a (6 ∷ word_bytes r.0 ++ word_bytes w) (Some (One a r w)) h (echo_told a 6 r.0 w (Some (One a r w)) (told_one a (r.0 / 256) r.0 w)))
    (none_left ws e)
reply_heard (Some (Many a r n)) ws h e =
    heard_as a (16 ∷ word_bytes r.0 ++ word_bytes n) (Some (Many a r n)) ws
    (as_told a (16 ∷ word_bytes r.0 ++ word_bytes n) (Some (Many a r n)) h.0 (echo_told a 16 r.0 n (Some (Many a r n)) (told_many a (r.0 / 256) r.0 n h.1)))
    (none_left ws e)
reply_heard (Some (Exception a f c)) ws h e =
    let u : List ℕ = f ∷ c ∷ [] in
    heard_as a u (Some (Exception a f c)) ws (as_told a u (Some (Exception a f c)) h.0 (told_exception a f c (word_at u 1) (word_at u 3) h.1 h.2)) (none_left ws e)
reply_heard None ws h e = absurd h

-- ---- what was answered is read as that
top_set : (f : ℕ) → 0x80 ≤ bit_or f 0x80
top_set f = omega (arith, or_add_and f 0x80, and_le_l f 0x80)

-- 43 and 17 are none of the four functions
part_heard : (i : Identity) (a : ℕ) (part : Part) → Within 1 247 a → heard_of a (part_unit i part) ≡ heard None []
unfolding part_unit objects_unit heard_of reply_of unit_tells tells_data tells_one tells_many tells_exception words_from
part_heard i a (Objects code first last) h = simp (le-leb 1 a h.0, le-leb a 247 h.1)
part_heard i a Serial h = simp (le-leb 1 a h.0, le-leb a 247 h.1)

pub answer_heard : (i : Identity) (a : ℕ) (x : Answer) → Within 1 247 a → IsAnswer x → heard_of a (unit_of i x) ≡ heard (reply_to a x) (words_told x)
unfolding unit_of short_of reply_unit words_bytes long_bytes word_bytes
answer_heard i a (answer.Word f w) h k = reply_heard (Some (Data a f 1)) (w ∷ []) (h, k, (omega arith, omega arith)) refl
answer_heard i a (answer.Long f v) h k = reply_heard (Some (Data a f 2)) (v % 65536 ∷ v / 65536 ∷ []) (h, k, (omega arith, omega arith)) refl
answer_heard i a (answer.Echo f r n) h (inl e) = rw e (reply_heard (Some (One a r n)) [] h refl)
answer_heard i a (answer.Echo f r n) h (inr k) = rw k.0 (reply_heard (Some (Many a r n)) [] (h, k.1) refl)
answer_heard i a (answer.Identity part) h k = part_heard i a part h
answer_heard i a (answer.Exception f c) h k = reply_heard (Some (Exception a (bit_or f 0x80) c)) [] (h, top_set f, k) refl
