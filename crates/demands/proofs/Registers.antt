-- "The register data of a well-made 06 or 16 (CRC, length and count right, any address) is handed back as a part of the caller's frame; for other bytes, an
-- empty part." Assumes nothing.
use mathlib.Core.Path.{◌≡◌, refl, sym, ap, ap₂, ◌∙◌}
use mathlib.Core.Bool.{Bool, true, false}
use mathlib.Core.List.{List, []}
use Prim.Native.Nat.{ℕ, ◌+◌, ◌-◌, ◌*◌, ◌≤◌, ◌<◌}
use native.Mathlib.Omega.{arith}
use borrow.Author.Tests.{eq-eqb, eqb-true, leb-true, le-leb}
use lib.Dec.{leb, eqb}
use lib.ListN.{length, take, drop, get_or}
use lib.Seq.{get_or-take, get_or-drop}
use Rattle.base.specs.Choice.{either}
use Rattle.base.proofs.Tests.{both_out, both_in, pick_both}
use Rattle.checks.specs.Crc.{body_of, crc_holds}
use Rattle.modbus_words.specs.Words.{word_at}
use Rattle.modbus.specs.Request.{label, span, between, reads, writes, asked, asked_of}
use Rattle.modbus.specs.declared.requests.Request.{Request}
use Rattle.modbus.specs.declared.requests.Request.TheVariants.{One, Many}
use Rattle.modbus.proofs.Laws.{asked_one, asked_many, request_read}
use Rattle.rtu.specs.Rtu.{frame_holds, unit_in, part_of, data_of, register_data}
use Rattle.rtu.proofs.Frames.{unit_length, span_broken, span_held, data_told}
use Rattle.master_reply.specs.Told.{Within}
use Rattle.demands.specs.Demand2.{WellMade06, WellMade16, RegisterData}

-- ---- the unit's bytes are those of the frame, one place on
unit_at : (f : List ℕ) (i : ℕ) → i + 3 < length f → get_or (unit_in f) i 0 ≡ get_or f (1 + i) 0
unfolding unit_in body_of
unit_at f i h = get_or-drop 1 (body_of f) i 0 ∙ get_or-take (length f - 2) f (1 + i) 0 (omega arith)

unit_word : (f : List ℕ) → 7 < length f → word_at (unit_in f) 3 ≡ word_at f 4
unfolding word_at
unit_word f h = ap₂ (λ (a b : ℕ). 256 * a + b) (unit_at f 3 (omega arith)) (unit_at f 4 (omega arith))

-- what a frame that holds asks tells where its register data lies
of_request : (f : List ℕ) (q : Request) → frame_holds f ≡ true → q ≡ asked_of (unit_in f) → part_of (data_of q) f ≡ register_data f
of_request f q h e = data_told f (data_of q) (span_held f (unit_in f) q (data_of q) h refl e refl)

writes_in : (size n : ℕ) → Within 1 123 n → size ≡ 6 + 2 * n → writes size n (2 * n) ≡ true
unfolding writes
writes_in size n (low, high) e = both_in (both_in (le-leb 1 n low) (le-leb n 123 high)) (both_in (eq-eqb (2 * n) (2 * n) refl) (eq-eqb size (6 + 2 * n) e))

writes_out : (size n bytes : ℕ) → writes size n bytes ≡ true → Within 1 123 n × (bytes ≡ 2 * n) × (size ≡ 6 + 2 * n)
unfolding writes
writes_out size n bytes e =
    let a = both_out (between 1 123 n) _ e in
    let b = both_out (leb 1 n) (leb n 123) a.0 in
    let c = both_out (eqb bytes (2 * n)) (eqb size (6 + 2 * n)) a.1 in
    ((leb-true 1 n b.0, leb-true n 123 b.1), eqb-true bytes (2 * n) c.0, eqb-true size (6 + 2 * n) c.1)

-- any other request has none
others_none : (size function register n bytes : ℕ) → (function ≡ 6 → size ≡ 5 → ⊥) → (function ≡ 16 → writes size n bytes ≡ true → ⊥)
    → data_of (asked size function register n bytes) ≡ span 0 0
unfolding asked
others_none size function register n bytes no-06 no-16 =
    pick_both None (either (eqb function 3) (eqb function 4)) (λ _. pick_both None (reads size n) (λ _. refl) (λ _. refl))
    (λ _. pick_both None (eqb function 6)
    (λ e. pick_both None (eqb size 5) (λ g. absurd (no-06 (eqb-true function 6 e) (eqb-true size 5 g))) (λ _. refl))
    (λ _. pick_both None (eqb function 16) (λ e. pick_both None (writes size n bytes) (λ g. absurd (no-16 (eqb-true function 16 e) g)) (λ _. refl)) (λ _. refl)))
  where
    None : Request → Type 0
    None q = data_of q ≡ span 0 0

-- ---- 06, 16 and others
of_06 : (f : List ℕ) → WellMade06 f → register_data f ≡ take 2 (drop 4 f)
of_06 f (h, function, size) =
    let u = unit_in f in
    let asks : One (label (word_at u 1)) (word_at u 3) ≡ asked_of u =
    request_read u 6 (word_at u 1) (word_at u 3) (get_or u 5 0) _ (sym (unit_at f 0 (omega arith) ∙ function)) refl refl refl
    (asked_one (length u) 6 (word_at u 1) (word_at u 3) (get_or u 5 0) refl (omega (arith, unit_length f))) in
    sym (of_request f _ h asks)

of_16 : (f : List ℕ) (n : ℕ) → WellMade16 f n → register_data f ≡ take (2 * n) (drop 7 f)
of_16 f n (h, function, count, within, bytes, size) =
    let u = unit_in f in
    let asks : Many (label (word_at u 1)) n (span 6 (6 + 2 * n)) ≡ asked_of u =
    request_read u 16 (word_at u 1) n (2 * n) _ (sym (unit_at f 0 (omega arith) ∙ function)) refl (sym (unit_word f (omega arith) ∙ count))
    (sym (unit_at f 5 (omega arith) ∙ bytes))
    (asked_many (length u) 16 (word_at u 1) n (2 * n) refl true (sym (writes_in (length u) n within (omega (arith, unit_length f)))) refl) in
    let part : 7 + 2 * n - 7 ≡ 2 * n = omega arith in
    sym (of_request f _ h asks) ∙ ap (λ (k : ℕ). take k (drop 7 f)) part

of_others : (f : List ℕ) → (WellMade06 f → ⊥) → ((n : ℕ) → WellMade16 f n → ⊥) → register_data f ≡ []
unfolding frame_holds asked_of
of_others f no-06 no-16 = go (frame_holds f) refl
  where
    u : List ℕ
    u = unit_in f

    go : (t : Bool) → frame_holds f ≡ t → register_data f ≡ []
    go false e = sym (data_told f (span 0 0) (span_broken f e))
    go true e =
        let long : 4 ≤ length f = leb-true 4 (length f) (both_out (leb 4 (length f)) (leb (length f) 256) (both_out (between 4 256 (length f)) (crc_holds f) e).0).0 in
        let function : get_or u 0 0 ≡ get_or f 1 0 = unit_at f 0 (omega arith) in
        let n : ℕ = word_at u 3 in
        sym (of_request f (asked_of u) e refl)
        ∙ ap (λ s. part_of s f)
        (others_none (length u) (get_or u 0 0) (word_at u 1) n (get_or u 5 0) (λ p q. no-06 (e, sym function ∙ p, omega (arith, unit_length f, q)))
        (λ p q.
        let (within, bytes, size) = writes_out (length u) n (get_or u 5 0) q in
        let all : length f ≡ 9 + 2 * n = omega (arith, size, unit_length f) in
        no-16 n (e, sym function ∙ p, sym (unit_word f (omega (arith, all))), within, sym (unit_at f 5 (omega (arith, all, within))) ∙ bytes, all)))

pub register_data_lem : RegisterData
register_data_lem = record { of_06 = of_06; of_16 = of_16; of_others = of_others }
