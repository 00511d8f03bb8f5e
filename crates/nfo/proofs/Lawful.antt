-- NFO serial is a lawful format, so the theorem of left-to-right reading holds of it. Assumes nothing.
use mathlib.Core.Path.{◌≡◌, refl}
use mathlib.Core.Logic.{◌⊎◌, inl, inr, ⊎_elim}
use mathlib.Core.Bool.{true, false≢true}
use mathlib.Core.List.{List, [], ◌∷◌, ◌++◌, tail}
use Prim.Native.Nat.{ℕ}
use native.Mathlib.Omega.{arith}
use borrow.Author.Tests.{eq-eqb, eqb-true}
use lib.ListN.{length, length-append, get_or, get_or-append}
use lib.Seq.{get_or_at}
use Rattle.base.proofs.Lists.{below_wider}
use Rattle.base.proofs.Tests.{both_out, both_in, either_out, either_left, either_right}
use Rattle.stream.specs.Format.{Lawful, CouldBecome, Without}
use Rattle.stream.specs.Theorem.{StreamTheorem}
use Rattle.stream.proofs.Reading.{could_by}
use Rattle.stream.proofs.Theorem.{stream}
use Rattle.nfo.specs.Shape.{Kind, byte, text, any, fits, whole, part}
use Rattle.nfo.specs.Message.{ADR, p, enquiry, select, bcc_in, formed, viable, nfo}
use Rattle.nfo.proofs.Shape.{whole_length, whole_at, whole_ends, whole_begins, whole_snoc, whole_part, fill, part_without}
use Rattle.nfo.proofs.Narrow.{bcc_body, select_body, nfo_below}

-- an ENQUIRY without its 05
abbrev enquiry_body : List Kind
enquiry_body = byte 0x04 ∷ ADR ∷ p ∷ p ∷ p ∷ p ∷ p ∷ []

-- ---- a body and its last byte are a message
enquiry_formed : (m : List ℕ) → whole enquiry_body m ≡ true → formed (m ++ 0x05 ∷ []) ≡ true
unfolding formed whole enquiry
enquiry_formed m w = either_left _ _ (whole_snoc enquiry_body (byte 0x05) m 0x05 w refl)

pub select_formed : (m : List ℕ) → whole select_body m ≡ true → formed (m ++ bcc_in m ∷ []) ≡ true
unfolding formed select
select_formed m w =
    let l : length m ≡ 14 = whole_length select_body m w in
    either_right (whole enquiry (m ++ bcc_in m ∷ [])) _
    (both_in (whole_snoc select_body any m (bcc_in m) w refl)
    (rw (get_or_at m (bcc_in m) [] 0 14 l, bcc_body m (bcc_in m ∷ []) l) (eq-eqb (bcc_in m) (bcc_in m) refl)))

-- ---- a beginning, and what could become a message
-- a message has one of the two shapes
pub formed_shape : (m : List ℕ) → formed m ≡ true → (whole enquiry m ≡ true) ⊎ (whole select m ≡ true)
unfolding formed
formed_shape m e = ⊎_elim (λ h. inl h) (λ h. inr (both_out (whole select m) _ h).0) (either_out (whole enquiry m) _ e)

could_viable : (s : List ℕ) → CouldBecome nfo s → viable s ≡ true
unfolding viable
could_viable s c = ⊎_elim
    (λ h. either_left _ _ (whole_part enquiry s c.0 c.1 h))
    (λ h. either_right (part enquiry s) _ (whole_part select s c.0 c.1 h))
    (formed_shape (s ++ c.0 ∷ c.1) c.2)

viable_could : (s : List ℕ) → viable s ≡ true → CouldBecome nfo s
unfolding viable enquiry select
viable_could s e = ⊎_elim
    (λ h. let r = fill enquiry_body (byte 0x05) s h in could_by nfo s r.0 0x05 (enquiry_formed (s ++ r.0) r.1))
    (λ h. let r = fill select_body any s h in could_by nfo s r.0 (bcc_in (s ++ r.0)) (select_formed (s ++ r.0) r.1))
    (either_out (part enquiry s) (part select s) e)

empty_viable : viable [] ≡ true
unfolding viable part enquiry
empty_viable = refl

-- ---- no message is the beginning of another: the byte at place 2 tells the two shapes apart
third_byte : (m z : List ℕ) → whole enquiry m ≡ true → whole select (m ++ z) ≡ true → ⊥
unfolding enquiry select
third_byte m z e s =
    let l : length m ≡ 8 = whole_length enquiry m e in
    let t : fits text (get_or m 2 0) ≡ true = whole_at enquiry m 2 e in
    let q : fits (byte 0x02) (get_or m 2 0) ≡ true = rw (get_or-append m z 0 2 (omega arith)) at (whole_at select (m ++ z) 2 s) in
    false≢true (rw (eqb-true (get_or m 2 0) 0x02 q) at t)

prefix_free : (m z : List ℕ) → formed m ≡ true → formed (m ++ z) ≡ true → z ≡ []
unfolding enquiry select
prefix_free m z e s = ⊎_elim
    (λ a. ⊎_elim (λ b. whole_ends enquiry m z a b) (λ b. absurd (third_byte m z a b)) (formed_shape (m ++ z) s))
    (λ a. ⊎_elim
    (λ b. absurd (omega (arith, whole_length select m a, whole_length enquiry (m ++ z) b, length-append m z)))
    (λ b. whole_ends select m z a b)
    (formed_shape (m ++ z) s))
    (formed_shape m e)

-- ---- 04 stands first, and else only as a BCC
inner : (x : ℕ) (s : List ℕ) → viable (x ∷ s) ≡ true → Without 0x04 s
unfolding viable part enquiry select
inner x s e = ⊎_elim
    (λ h. part_without 0x04 (tail enquiry) s refl (both_out (fits (byte 0x04) x) (part (tail enquiry) s) h).1)
    (λ h. part_without 0x04 (tail select) s refl (both_out (fits (byte 0x04) x) (part (tail select) s) h).1)
    (either_out (part enquiry (x ∷ s)) (part select (x ∷ s)) e)

pub nfo_lawful : Lawful nfo
unfolding enquiry select
nfo_lawful = record {
  bytes = λ m e. below_wider 128 256 m (omega arith) (nfo_below m e);
  some_message = viable_could [] empty_viable;
  viable_iff = λ s. (viable_could s, could_viable s);
  prefix_free = prefix_free;
  begins = λ m e. ⊎_elim (λ h. whole_begins 0x04 ADR (tail (tail enquiry)) m h) (λ h. whole_begins 0x04 ADR (tail (tail select)) m h) (formed_shape m e);
  inner = inner;
}

pub nfo_stream_lem : StreamTheorem nfo
nfo_stream_lem = stream nfo nfo_lawful
