-- A well-formed message is bytes below 128: each place but the last of a SELECT takes only such bytes, and so its BCC is one. Assumes nothing.
use mathlib.Core.Path.{◌≡◌, refl, sym, ap, ◌∙◌}
use mathlib.Core.Logic.{⊎_elim}
use mathlib.Core.Bool.{Bool, true, false, false≢true}
use mathlib.Core.List.{List, [], ◌∷◌, ◌++◌}
use Prim.Native.Nat.{ℕ, ◌<◌}
use native.Mathlib.Omega.{arith}
use borrow.Author.Tests.{eqb-true, leb-true, ltb-true}
use lib.Dec.{eqb, ltb, leb}
use lib.ListN.{length, get_or, take, drop}
use lib.Seq.{get_or_at}
use Rattle.base.specs.Choice.{both}
use Rattle.base.specs.Bytes.{AllBelow}
use Rattle.base.proofs.Tests.{both_out, either_out}
use Rattle.base.proofs.Lists.{below_append, below_take, below_drop, part_append}
use Rattle.checks.specs.Bcc.{bcc_of}
use Rattle.checks.proofs.Laws.{bcc_below}
use Rattle.nfo.specs.Shape.{Kind, byte, text, any, fits, whole}
use Rattle.nfo.specs.Message.{ADR, p, v, enquiry, select, bcc_in, formed}
use Rattle.nfo.proofs.Shape.{whole_length, whole_split}

-- ---- shapes that take bytes below 128 only
abbrev narrow : List Kind → Bool
narrow [] = true
narrow (byte c ∷ ks) = both (ltb c 128) (narrow ks)
narrow (text ∷ ks) = narrow ks
narrow (any ∷ ks) = false

whole_below : (ks : List Kind) (m : List ℕ) → narrow ks ≡ true → whole ks m ≡ true → AllBelow 128 m
unfolding whole AllBelow
whole_below [] [] n e = tt
whole_below [] (x ∷ m) n e = absurd (false≢true e)
whole_below (k ∷ ks) [] n e = absurd (false≢true e)
whole_below (byte c ∷ ks) (x ∷ m) n e =
    let h = both_out (eqb x c) (whole ks m) e in
    let g = both_out (ltb c 128) (narrow ks) n in
    (omega (arith, eqb-true x c h.0, ltb-true c 128 g.0), whole_below ks m g.1 h.1)
whole_below (text ∷ ks) (x ∷ m) n e =
    let h = both_out (fits text x) (whole ks m) e in
    (omega (arith, leb-true x 0x7F (both_out (leb 0x20 x) (leb x 0x7F) h.0).1), whole_below ks m n h.1)
whole_below (any ∷ ks) (x ∷ m) n e = absurd (false≢true n)

-- ---- the BCC
bcc_in_below : (m : List ℕ) → AllBelow 128 m → bcc_in m < 128
unfolding bcc_in
bcc_in_below m h = bcc_below 7 (take 11 (drop 3 m)) (below_take 128 11 (drop 3 m) (below_drop 128 3 m h))

-- the BCC in a body and what follows it is that in the body
pub bcc_body : (m z : List ℕ) → length m ≡ 14 → bcc_in (m ++ z) ≡ bcc_in m
unfolding bcc_in
bcc_body m z l = ap bcc_of (part_append 3 11 m z (omega arith))

-- a SELECT without its BCC
abbrev pub select_body : List Kind
select_body = byte 0x04 ∷ ADR ∷ byte 0x02 ∷ p ∷ p ∷ p ∷ p ∷ p ∷ byte 0x3D ∷ v ∷ v ∷ v ∷ v ∷ byte 0x03 ∷ []

-- what a SELECT is: its body, and its BCC
pub select_split : (m : List ℕ) → both (whole select m) (eqb (get_or m 14 0) (bcc_in m)) ≡ true
    → (a : List ℕ) × (whole select_body a ≡ true) × (length a ≡ 14) × (m ≡ a ++ bcc_in a ∷ [])
unfolding select
select_split m e =
    let h = both_out (whole select m) (eqb (get_or m 14 0) (bcc_in m)) e in
    let r = whole_split select_body any m h.0 in
    let l : length r.0 ≡ 14 = whole_length select_body r.0 r.3 in
    let last : get_or m 14 0 ≡ r.1 = ap (λ (q : List ℕ). get_or q 14 0) r.2 ∙ get_or_at r.0 r.1 [] 0 14 l in
    let right : r.1 ≡ bcc_in r.0 = sym last ∙ eqb-true (get_or m 14 0) (bcc_in m) h.1 ∙ ap bcc_in r.2 ∙ bcc_body r.0 (r.1 ∷ []) l in
    (r.0, r.3, l, r.2 ∙ ap (λ (b : ℕ). r.0 ++ b ∷ []) right)

-- ---- MESSAGES ARE BYTES below 128
pub nfo_below : (m : List ℕ) → formed m ≡ true → AllBelow 128 m
unfolding formed enquiry AllBelow
nfo_below m e = ⊎_elim
    (λ h. whole_below enquiry m refl h)
    (λ h. let r = select_split m h in
    let a : AllBelow 128 r.0 = whole_below select_body r.0 refl r.1 in
    rw r.3 (below_append 128 r.0 (bcc_in r.0 ∷ []) a (bcc_in_below r.0 a, tt)))
    (either_out (whole enquiry m) (both (whole select m) (eqb (get_or m 14 0) (bcc_in m))) e)
