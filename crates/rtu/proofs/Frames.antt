-- What the code's tests and calls show of RTU frames, and that a frame's parts lie within it. Assumes nothing.
use mathlib.Core.Path.{◌≡◌, refl, sym, ap, ◌∙◌}
use mathlib.Core.Bool.{true, false, not}
use mathlib.Core.List.{List, [], ◌∷◌}
use Prim.Native.Nat.{ℕ, suc, ◌+◌, ◌-◌, ◌*◌, ◌≤◌, ◌<◌}
use native.Mathlib.Omega.{arith}
use borrow.Author.Tests.{eqb-true, leb-true}
use lib.Dec.{leb, eqb}
use lib.ListN.{length, take, drop, get_or, length-drop, drop_of_length-le}
use Rattle.base.specs.Choice.{both, either}
use Rattle.base.proofs.Tests.{both_out, pick_both}
use Rattle.checks.specs.Crc.{body_of, crc_holds}
use Rattle.checks.proofs.Laws.{body_length}
use Rattle.rtu.specs.Rtu.{frame_holds, unit_in, part_of, data_of, register_span, register_data}
use Rattle.modbus_words.specs.Words.{word_at}
use Rattle.modbus.specs.Request.{between, span, reads, writes, asked, asked_of, identifying, numbering, request_of}
use Rattle.modbus.specs.declared.requests.Span.{Span}
use Rattle.modbus.specs.declared.requests.Request.{Request}
use Rattle.modbus.proofs.Laws.{request_all}

-- ---- the data unit
pub unit_none : (f : List ℕ) → length f < 3 → [] ≡ unit_in f
unfolding unit_in
unit_none f h = let l : length (body_of f) ≤ 1 = omega (arith, body_length f) in sym (drop_of_length-le (body_of f) l)

pub unit_part : (f : List ℕ) → 3 ≤ length f → take (length f - 2 - 1) (drop 1 f) ≡ unit_in f
unfolding unit_in body_of
unit_part [] h = absurd (omega arith)
unit_part (x ∷ t) h = let n : suc (length (x ∷ t) - 2 - 1) ≡ length (x ∷ t) - 2 = omega arith in ap (λ (n : ℕ). drop 1 (take n (x ∷ t))) n

-- ---- the register data
pub span_broken : (f : List ℕ) → frame_holds f ≡ false → span 0 0 ≡ register_span f
unfolding register_span
span_broken f h = rw h

-- 43 and 17 have none, so that the four functions need not be told from them
abbrev NoData : Request → Type 0
NoData q = data_of q ≡ span 0 0

same_data : (u : List ℕ) → data_of (asked_of u) ≡ data_of (request_of u)
unfolding asked_of asked request_of identifying numbering
same_data u =
    pick_both (λ (q : Request). data_of (asked_of u) ≡ data_of q) (eqb f 43)
    (λ e. other 43 (eqb-true f 43 e) refl
    ∙ sym (pick_both NoData (both (leb 2 (length u)) (not (eqb (get_or u 1 0) 14))) (λ _. refl)
    (λ _. pick_both NoData (both (eqb (length u) 4) (either (eqb (get_or u 2 0) 1) (either (eqb (get_or u 2 0) 2) (eqb (get_or u 2 0) 4)))) (λ _. refl) (λ _. refl))))
    (λ _. pick_both (λ (q : Request). data_of (asked_of u) ≡ data_of q) (eqb f 17)
    (λ e. other 17 (eqb-true f 17 e) refl ∙ sym (pick_both NoData (eqb (length u) 1) (λ _. refl) (λ _. refl)))
    (λ _. refl))
  where
    f : ℕ
    f = get_or u 0 0

    other : (k : ℕ) → f ≡ k → NoData (asked (length u) k (word_at u 1) (word_at u 3) (get_or u 5 0)) → NoData (asked_of u)
    other k e none = ap (λ (g : ℕ). data_of (asked (length u) g (word_at u 1) (word_at u 3) (get_or u 5 0))) e ∙ none

pub span_held : (f u : List ℕ) (q : Request) (s : Span) → frame_holds f ≡ true → u ≡ unit_in f → q ≡ asked_of u → s ≡ data_of q → s ≡ register_span f
unfolding register_span
span_held f u q s h i j k = rw h (k ∙ ap data_of (j ∙ ap asked_of i) ∙ same_data (unit_in f))

-- ---- it lies within the frame
abbrev pub Within : ℕ → Span → Type 0
Within size s = (s.from ≤ s.to) × (s.to ≤ size)

-- of a request in a unit of n bytes, in a frame of n + 3
module _ (n : ℕ) where
  abbrev DataWithin : Request → Type 0
  DataWithin q = Within (n + 3) (data_of q)

  none_within : Within (n + 3) (span 0 0)
  none_within = (omega arith, omega arith)

  asked_within : (f a k m : ℕ) → DataWithin (asked n f a k m)
  unfolding asked writes
  asked_within f a k m =
      pick_both DataWithin (either (eqb f 3) (eqb f 4)) (λ _. pick_both DataWithin (reads n k) (λ _. none_within) (λ _. none_within))
      (λ _. pick_both DataWithin (eqb f 6)
      (λ _. pick_both DataWithin (eqb n 5) (λ e. (omega arith, omega (arith, eqb-true n 5 e))) (λ _. none_within))
      (λ _. pick_both DataWithin (eqb f 16)
      (λ _. pick_both DataWithin (writes n k m)
      (λ e. (omega arith, omega (arith, eqb-true n (6 + 2 * k) (both_out (eqb m (2 * k)) (eqb n (6 + 2 * k)) (both_out (between 1 123 k) _ e).1).1)))
      (λ _. none_within))
      (λ _. none_within)))

request_within : (u : List ℕ) → DataWithin (length u) (request_of u)
unfolding asked_of
request_within u =
    let none : Within (length u + 3) (span 0 0) = none_within (length u) in
    request_all (DataWithin (length u)) u none none none none none (asked_within (length u) (get_or u 0 0) (word_at u 1) (word_at u 3) (get_or u 5 0))

pub unit_length : (f : List ℕ) → length (unit_in f) ≡ length f - 3
unfolding unit_in
unit_length f = omega (arith, length-drop 1 (body_of f), body_length f)

pub span_within : (f : List ℕ) → Within (length f) (register_span f)
unfolding register_span frame_holds
span_within f =
    pick_both (Within (length f)) (frame_holds f)
    (λ e.
    let long : 4 ≤ length f = leb-true 4 (length f) (both_out (leb 4 (length f)) (leb (length f) 256) (both_out (between 4 256 (length f)) (crc_holds f) e).0).0 in
    let r : DataWithin (length (unit_in f)) (request_of (unit_in f)) = request_within (unit_in f) in
    (r.0, omega (arith, unit_length f, r.1)))
    (λ _. (omega arith, omega arith))

-- what the code learns of the span that it was told
pub told_within : (f : List ℕ) (s : Span) → s ≡ register_span f → Within (length f) s
told_within f s e = rw e (span_within f)

pub data_told : (f : List ℕ) (s : Span) → s ≡ register_span f → part_of s f ≡ register_data f
unfolding register_data
data_told f s e = rw e
