-- What a master says is read as that same request, and its unit is bytes, few enough for a message. Assumes nothing.
use mathlib.Core.Path.{◌≡◌, refl, sym, ap, ap₂, ◌∙◌}
use mathlib.Core.Bool.{true}
use mathlib.Core.List.{List, [], ◌∷◌, ◌++◌}
use Prim.Native.Nat.{ℕ, suc, ◌+◌, ◌-◌, ◌*◌, ◌/◌, ◌≤◌, ◌<◌}
use native.Mathlib.Omega.{arith}
use borrow.Author.Tests.{le-leb, eq-eqb, ne_eqb}
use lib.ListN.{length, take, drop}
use lib.Seq.{take_all}
use Rattle.base.specs.Bytes.{AllBelow, Bytes}
use Rattle.base.proofs.Tests.{both_in}
use Rattle.table.specs.declared.labels.Register.{Register}
use Rattle.modbus_words.specs.Words.{word_bytes, word_at}
use Rattle.modbus.specs.Request.{span, reads, writes, asked, asked_of, request_of}
use Rattle.modbus.specs.declared.requests.Request.TheVariants as request
use Rattle.modbus_words.proofs.Laws.{word_own}
use Rattle.modbus.proofs.Laws.{asked_read, asked_one, asked_many}
use Rattle.master_request.specs.declared.Ask.{Ask}
use Rattle.master_request.specs.declared.Ask.TheVariants.{Holding, Input, One, Many}
use Rattle.master_request.specs.Ask.{read_sayable, many_sayable, head_of, many_unit, sayable, request_unit}
use Rattle.master_request.specs.Said.{request_said, InWidth}
use Rattle.master_request.proofs.Limits.{read_out, many_out, said_address}

-- ---- what is read of a unit's first five bytes, and of a 16
head_read : (f : ℕ) (r : Register) (n : ℕ) → f < 17 → request_of (head_of f r n) ≡ asked 5 f r.0 n 0
unfolding request_of asked_of head_of word_bytes word_at
head_read f r n h = rw (ne_eqb f 43 (λ e. omega arith), ne_eqb f 17 (λ e. omega arith)) (ap₂ (λ (x y : ℕ). asked 5 f x y 0) (word_own r.0) (word_own n))

many_read : (r : Register) (s : List ℕ) → request_of (many_unit r s) ≡ asked (6 + length s) 16 r.0 (length s / 2) (length s)
unfolding request_of asked_of many_unit head_of word_bytes word_at
many_read r s =
    let size : suc (suc (suc (suc (suc (suc (length s)))))) ≡ 6 + length s = omega arith in
    (λ i. asked (size i) 16 (word_own r.0 i) (word_own (length s / 2) i) (length s))

-- ---- "What the master side writes is read by the card as that same request"
reads_said : (a n : ℕ) → read_sayable a n ≡ true → reads 5 n ≡ true
unfolding reads
reads_said a n e = let h = read_out a n e in both_in refl (both_in (le-leb 1 n h.some) (le-leb n 125 h.most))

writes_said : (a n : ℕ) → many_sayable a n ≡ true → writes (6 + n) (n / 2) n ≡ true
unfolding writes
writes_said a n e =
    let h = many_out a n e in
    let twice : n ≡ 2 * (n / 2) = omega (arith, h.whole) in
    both_in (both_in (le-leb 1 (n / 2) h.some) (le-leb (n / 2) 123 h.most)) (both_in (eq-eqb n (2 * (n / 2)) twice) (eq-eqb (6 + n) (6 + 2 * (n / 2)) (ap (λ (x : ℕ). 6 + x) twice)))

pub said_read : (a : ℕ) (ask : Ask) (s : List ℕ) → sayable a ask (length s) ≡ true → request_of (request_unit ask s) ≡ request_said ask s
unfolding sayable request_unit
said_read a (Holding r n) s e = head_read 3 r n (omega arith) ∙ sym (asked_read 5 3 r.0 n 0 (omega arith) (omega arith) true (sym (reads_said a n e)) refl)
said_read a (Input r n) s e = head_read 4 r n (omega arith) ∙ sym (asked_read 5 4 r.0 n 0 (omega arith) (omega arith) true (sym (reads_said a n e)) refl)
said_read a (One r w) s e = head_read 6 r w (omega arith) ∙ sym (asked_one 5 6 r.0 w 0 refl refl)
said_read a (Many r) s e =
    let twice : 6 + 2 * (length s / 2) ≡ 6 + length s = omega (arith, (many_out a (length s) e).whole) in
    many_read r s
    ∙ sym (asked_many (6 + length s) 16 r.0 (length s / 2) (length s) refl true (sym (writes_said a (length s) e)) refl)
    ∙ ap (λ (to : ℕ). request.Many r (length s / 2) (span 6 to)) twice

-- the register bytes of a 16 stand there
pub said_registers : (r : Register) (s : List ℕ) → take (6 + length s - 6) (drop 6 (request_unit (Many r) s)) ≡ s
unfolding request_unit many_unit head_of word_bytes
said_registers r s = take_all (6 + length s - 6) s (omega arith)

-- ---- the unit fits a message, and is bytes
pub said_some : (ask : Ask) (s : List ℕ) → 1 ≤ length (request_unit ask s)
unfolding request_unit many_unit head_of word_bytes
said_some (Holding r n) s = omega arith
said_some (Input r n) s = omega arith
said_some (One r w) s = omega arith
said_some (Many r) s = omega arith

pub said_most : (a : ℕ) (ask : Ask) (s : List ℕ) → sayable a ask (length s) ≡ true → length (request_unit ask s) ≤ 252
unfolding sayable request_unit many_unit head_of word_bytes
said_most a (Holding r n) s e = omega arith
said_most a (Input r n) s e = omega arith
said_most a (One r w) s e = omega arith
said_most a (Many r) s e = omega (arith, (many_out a (length s) e).most, (many_out a (length s) e).whole)

head_below : (f : ℕ) (r : Register) (n : ℕ) (s : List ℕ) → f < 256 → r.0 < 65536 → n < 65536 → Bytes s → Bytes (head_of f r n ++ s)
unfolding head_of word_bytes AllBelow
head_below f r n s h i j k = (h, (omega arith, (omega arith, (omega arith, (omega arith, k)))))

pub said_below : (a : ℕ) (ask : Ask) (s : List ℕ) → sayable a ask (length s) ≡ true → InWidth ask s → Bytes (a ∷ request_unit ask s)
unfolding sayable request_unit many_unit head_of word_bytes AllBelow
said_below a (Holding r n) s e h = (omega (arith, said_address a (Holding r n) (length s) e), head_below 3 r n [] (omega arith) h.0 h.1 tt)
said_below a (Input r n) s e h = (omega (arith, said_address a (Input r n) (length s) e), head_below 4 r n [] (omega arith) h.0 h.1 tt)
said_below a (One r w) s e h = (omega (arith, said_address a (One r w) (length s) e), head_below 6 r w [] (omega arith) h.0 h.1 tt)
said_below a (Many r) s e h =
    let k = many_out a (length s) e in
    (omega (arith, k.last), head_below 16 r (length s / 2) (length s ∷ s) (omega arith) h.0 (omega (arith, k.most)) (omega (arith, k.most), h.1))
