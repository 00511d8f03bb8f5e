-- Laws of shapes: one byte more, what can be filled up, lengths, and single places. Assumes nothing.
use mathlib.Core.Path.{◌≡◌, refl, sym, ap, ◌∙◌}
use mathlib.Core.Bool.{Bool, true, false, false≢true, not}
use mathlib.Core.List.{List, [], ◌∷◌, ◌++◌}
use Prim.Native.Nat.{ℕ, zero, suc, ◌<◌}
use native.Mathlib.Omega.{arith}
use borrow.Author.Tests.{eq-eqb, eqb-true, not-true}
use lib.ListN.{length, length-append, get_or}
use lib.Dec.{eqb, ltb, leb-zero, leb-suc-suc, eqb-suc-suc, eqb-zero-suc}
use Rattle.base.specs.Choice.{both}
use Rattle.base.proofs.Tests.{both_out, both_in, not_both}
use Rattle.stream.specs.Format.{Without}
use Rattle.nfo.specs.Shape.{Kind, byte, text, any, fits, whole, part}

-- ---- one byte more: only that byte and the length are to be looked at
part_none : (ks : List Kind) → part ks [] ≡ ltb 1 (suc (length ks))
unfolding part
part_none [] = refl
part_none (k ∷ ks) = sym (leb-suc-suc 1 (suc (length ks)) ∙ leb-suc-suc 0 (length ks) ∙ leb-zero (length ks))

pub part_step : (ks : List Kind) (p : List ℕ) (b : ℕ)
    → part ks (p ++ b ∷ []) ≡ both (part ks p) (both (fits (get_or ks (length p) any) b) (ltb (suc (length p)) (length ks)))
unfolding part
part_step [] p b = refl
part_step (k ∷ ks) [] b = ap (both (fits k b)) (part_none ks)
part_step (k ∷ ks) (x ∷ p) b = by (fits k x) (part_step ks p b)
  where
    by : (t : Bool) → part ks (p ++ b ∷ []) ≡ both (part ks p) (both (fits (get_or ks (length p) any) b) (ltb (suc (length p)) (length ks)))
        → both t (part ks (p ++ b ∷ [])) ≡ both (both t (part ks p)) (both (fits (get_or ks (length p) any) b) (ltb (suc (suc (length p))) (suc (length ks))))
    by true e = e ∙ rw (leb-suc-suc (suc (suc (length p))) (length ks))
    by false e = refl

whole_none : (ks : List Kind) → whole ks [] ≡ eqb 1 (suc (length ks))
unfolding whole
whole_none [] = refl
whole_none (k ∷ ks) = sym (eqb-suc-suc 0 (suc (length ks)) ∙ eqb-zero-suc (length ks))

pub whole_step : (ks : List Kind) (p : List ℕ) (b : ℕ)
    → whole ks (p ++ b ∷ []) ≡ both (part ks p) (both (fits (get_or ks (length p) any) b) (eqb (suc (length p)) (length ks)))
unfolding whole part
whole_step [] [] b = refl
whole_step [] (x ∷ p) b = refl
whole_step (k ∷ ks) [] b = ap (both (fits k b)) (whole_none ks)
whole_step (k ∷ ks) (x ∷ p) b = by (fits k x) (whole_step ks p b)
  where
    by : (t : Bool) → whole ks (p ++ b ∷ []) ≡ both (part ks p) (both (fits (get_or ks (length p) any) b) (eqb (suc (length p)) (length ks)))
        → both t (whole ks (p ++ b ∷ [])) ≡ both (both t (part ks p)) (both (fits (get_or ks (length p) any) b) (eqb (suc (suc (length p))) (suc (length ks))))
    by true e = e ∙ rw (eqb-suc-suc (suc (length p)) (length ks))
    by false e = refl

-- ---- lengths and places
pub whole_length : (ks : List Kind) (m : List ℕ) → whole ks m ≡ true → length m ≡ length ks
unfolding whole
whole_length [] [] e = refl
whole_length [] (x ∷ m) e = absurd (false≢true e)
whole_length (k ∷ ks) [] e = absurd (false≢true e)
whole_length (k ∷ ks) (x ∷ m) e = ap suc (whole_length ks m (both_out (fits k x) (whole ks m) e).1)

-- the byte at a place is of the place's kind
pub whole_at : (ks : List Kind) (m : List ℕ) (i : ℕ) → whole ks m ≡ true → fits (get_or ks i any) (get_or m i 0) ≡ true
unfolding whole
whole_at [] [] i e = refl
whole_at [] (x ∷ m) i e = absurd (false≢true e)
whole_at (k ∷ ks) [] i e = absurd (false≢true e)
whole_at (k ∷ ks) (x ∷ m) zero e = (both_out (fits k x) (whole ks m) e).0
whole_at (k ∷ ks) (x ∷ m) (suc i) e = whole_at ks m i (both_out (fits k x) (whole ks m) e).1

-- the same of what has the shape so far
pub part_length : (ks : List Kind) (m : List ℕ) → part ks m ≡ true → length m < length ks
unfolding part
part_length [] m e = absurd (false≢true e)
part_length (k ∷ ks) [] e = omega arith
part_length (k ∷ ks) (x ∷ m) e = omega (arith, part_length ks m (both_out (fits k x) (part ks m) e).1)

pub part_at : (ks : List Kind) (m : List ℕ) (i : ℕ) → part ks m ≡ true → i < length m → fits (get_or ks i any) (get_or m i 0) ≡ true
unfolding part
part_at [] m i e l = absurd (false≢true e)
part_at (k ∷ ks) [] i e l = absurd (omega arith)
part_at (k ∷ ks) (x ∷ m) zero e l = (both_out (fits k x) (part ks m) e).0
part_at (k ∷ ks) (x ∷ m) (suc i) e l = part_at ks m i (both_out (fits k x) (part ks m) e).1 (omega arith)

-- nothing goes on from a whole shape
pub whole_ends : (ks : List Kind) (m z : List ℕ) → whole ks m ≡ true → whole ks (m ++ z) ≡ true → z ≡ []
whole_ends ks m [] e s = refl
whole_ends ks m (y ∷ z) e s = absurd (omega (arith, whole_length ks m e, whole_length ks (m ++ y ∷ z) s, length-append m (y ∷ z)))

pub whole_begins : (c : ℕ) (k : Kind) (ks : List Kind) (m : List ℕ) → whole (byte c ∷ k ∷ ks) m ≡ true → (b : ℕ) × (z : List ℕ) × (m ≡ c ∷ b ∷ z)
unfolding whole
whole_begins c k ks [] e = absurd (false≢true e)
whole_begins c k ks (x ∷ []) e = absurd (false≢true (both_out (eqb x c) false e).1)
whole_begins c k ks (x ∷ b ∷ z) e =
    let h : x ≡ c = eqb-true x c (both_out (eqb x c) (whole (k ∷ ks) (b ∷ z)) e).0 in
    (b, z, rw h)

-- ---- the last place: a body ks, and one byte of the kind l
pub whole_snoc : (ks : List Kind) (l : Kind) (m : List ℕ) (b : ℕ) → whole ks m ≡ true → fits l b ≡ true → whole (ks ++ l ∷ []) (m ++ b ∷ []) ≡ true
unfolding whole
whole_snoc [] l [] b e h = both_in h refl
whole_snoc [] l (x ∷ m) b e h = absurd (false≢true e)
whole_snoc (k ∷ ks) l [] b e h = absurd (false≢true e)
whole_snoc (k ∷ ks) l (x ∷ m) b e h =
    let r = both_out (fits k x) (whole ks m) e in
    both_in r.0 (whole_snoc ks l m b r.1 h)

pub whole_split : (ks : List Kind) (l : Kind) (m : List ℕ) → whole (ks ++ l ∷ []) m ≡ true → (a : List ℕ) × (b : ℕ) × (m ≡ a ++ b ∷ []) × (whole ks a ≡ true)
unfolding whole
whole_split [] l [] e = absurd (false≢true e)
whole_split [] l (x ∷ []) e = ([], x, refl, refl)
whole_split [] l (x ∷ y ∷ m) e = absurd (false≢true (both_out (fits l x) false e).1)
whole_split (k ∷ ks) l [] e = absurd (false≢true e)
whole_split (k ∷ ks) l (x ∷ m) e =
    let h = both_out (fits k x) (whole (ks ++ l ∷ []) m) e in
    let r = whole_split ks l m h.1 in
    (x ∷ r.0, r.1, ap (λ (q : List ℕ). x ∷ q) r.2, both_in h.0 r.3)

-- ---- what could become a whole shape
-- what goes on to the whole shape has it so far
pub whole_part : (ks : List Kind) (m : List ℕ) (b : ℕ) (z : List ℕ) → whole ks (m ++ b ∷ z) ≡ true → part ks m ≡ true
unfolding whole part
whole_part [] [] b z e = e
whole_part [] (x ∷ m) b z e = e
whole_part (k ∷ ks) [] b z e = refl
whole_part (k ∷ ks) (x ∷ m) b z e =
    let h = both_out (fits k x) (whole ks (m ++ b ∷ z)) e in
    both_in h.0 (whole_part ks m b z h.1)

-- a byte of the kind
abbrev one_of : Kind → ℕ
one_of (byte c) = c
one_of text = 0x20
one_of any = 0

one_fits : (k : Kind) → fits k (one_of k) ≡ true
one_fits (byte c) = eq-eqb c c refl
one_fits text = refl
one_fits any = refl

part_empty : (ks : List Kind) (l : Kind) → part (ks ++ l ∷ []) [] ≡ true
unfolding part
part_empty [] l = refl
part_empty (k ∷ ks) l = refl

-- what has the shape of body and last byte so far can be filled up to a whole body
pub fill : (ks : List Kind) (l : Kind) (m : List ℕ) → part (ks ++ l ∷ []) m ≡ true → (z : List ℕ) × (whole ks (m ++ z) ≡ true)
unfolding whole part
fill [] l [] e = ([], refl)
fill [] l (x ∷ m) e = absurd (false≢true (both_out (fits l x) false e).1)
fill (k ∷ ks) l [] e =
    let r = fill ks l [] (part_empty ks l) in
    (one_of k ∷ r.0, both_in (one_fits k) r.1)
fill (k ∷ ks) l (x ∷ m) e =
    let h = both_out (fits k x) (part (ks ++ l ∷ []) m) e in
    let r = fill ks l m h.1 in
    (r.0, both_in h.0 r.1)

-- ---- a byte that only the last place takes
abbrev pub only_last : ℕ → List Kind → Bool
only_last c [] = true
only_last c (k ∷ []) = true
only_last c (k ∷ l ∷ ks) = both (not (fits k c)) (only_last c (l ∷ ks))

pub part_without : (c : ℕ) (ks : List Kind) (m : List ℕ) → only_last c ks ≡ true → part ks m ≡ true → Without c m
unfolding part
part_without c [] m n e = absurd (false≢true e)
part_without c (k ∷ ks) [] n e = tt
part_without c (k ∷ []) (x ∷ m) n e = absurd (false≢true (both_out (fits k x) false e).1)
part_without c (k ∷ l ∷ ks) (x ∷ m) n e =
    let h = both_out (fits k x) (part (l ∷ ks) m) e in
    let g = both_out (not (fits k c)) (only_last c (l ∷ ks)) n in
    (λ q. not_both (rw q at h.0) (not-true (fits k c) g.0), part_without c (l ∷ ks) m g.1 h.1)
