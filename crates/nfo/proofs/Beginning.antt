-- What one byte more does to a beginning: the scan's step, which looks at few bytes, is what the format says of all. Assumes nothing.
use mathlib.Core.Path.{◌≡◌, refl, sym, ◌∙◌}
use mathlib.Core.Logic.{◌⊎◌, inl, inr, ⊎_elim}
use mathlib.Core.Bool.{Bool, true, false, false≢true}
use mathlib.Core.List.{List, [], ◌∷◌, ◌++◌}
use Prim.Native.Nat.{ℕ, zero, suc, ◌<◌, ◌≤◌}
use native.Mathlib.Omega.{arith}
use borrow.Author.Tests.{eqb-true, eqb-false, ltb-true, ltb-false, eq-eqb, ne_eqb, lt-ltb, le-ltb}
use lib.Dec.{eqb, ltb}
use lib.ListN.{length, get_or}
use Rattle.base.specs.Choice.{pick, both, either}
use Rattle.base.proofs.Tests.{either_out, either_right, both_true, both_false, either_false, either_same, is_false}
use Rattle.nfo.specs.Shape.{Kind, any, text, fits, part}
use Rattle.nfo.specs.Message.{enquiry, select, bcc_in, formed, viable}
use Rattle.nfo.specs.Scan.{fits_at, step_in, step_of}
use Rattle.nfo.specs.declared.scanning.Step.{Step}
use Rattle.nfo.specs.declared.scanning.Step.TheVariants.{Keeps, Ends, Checks, Spoils}
use Rattle.nfo.proofs.Shape.{part_length, part_at}
use Rattle.nfo.proofs.Step.{viable_step, formed_step}

-- ---- the three kinds of beginning
-- up to place 2 the shapes go together
pub record Open (s : List ℕ) : Type 0 where
  pub few : length s ≤ 2
  pub enq : part enquiry s ≡ true
  pub sel : part select s ≡ true

-- from there on a beginning has one of them
pub record Selects (s : List ℕ) : Type 0 where
  pub more : 2 < length s
  pub third : get_or s 2 0 ≡ 0x02
  pub enq : part enquiry s ≡ false
  pub sel : part select s ≡ true

pub record Enquires (s : List ℕ) : Type 0 where
  pub more : 2 < length s
  pub third : get_or s 2 0 ≡ 0x02 → ⊥
  pub enq : part enquiry s ≡ true
  pub sel : part select s ≡ false

same_start : (s : List ℕ) → length s ≤ 2 → part enquiry s ≡ part select s
unfolding part enquiry select
same_start [] l = refl
same_start (x ∷ []) l = refl
same_start (x ∷ y ∷ []) l = refl
same_start (x ∷ y ∷ z ∷ s) l = absurd (omega arith)

-- 02 is no text
no_text : (s : List ℕ) → 2 < length s → part enquiry s ≡ true → get_or s 2 0 ≡ 0x02 → ⊥
unfolding enquiry
no_text s l e q = false≢true (rw q at (part_at enquiry s 2 e l))

third_02 : (s : List ℕ) → 2 < length s → part select s ≡ true → get_or s 2 0 ≡ 0x02
unfolding select
third_02 s l e = eqb-true (get_or s 2 0) 0x02 (part_at select s 2 e l)

pub beginning : (s : List ℕ) → viable s ≡ true → Open s ⊎ (Selects s ⊎ Enquires s)
unfolding viable
beginning s v = go (ltb 2 (length s)) refl (either_out (part enquiry s) (part select s) v)
  where
    go : (t : Bool) → ltb 2 (length s) ≡ t → (part enquiry s ≡ true) ⊎ (part select s ≡ true) → Open s ⊎ (Selects s ⊎ Enquires s)
    go true e (inl h) =
        let l : 2 < length s = ltb-true 2 (length s) e in
        inr (inr (record { more = l; third = no_text s l h; enq = h; sel = is_false _ (λ k. no_text s l h (third_02 s l k)) }))
    go true e (inr h) =
        let l : 2 < length s = ltb-true 2 (length s) e in
        inr (inl (record { more = l; third = third_02 s l h; enq = is_false _ (λ k. no_text s l k (third_02 s l h)); sel = h }))
    go false e (inl h) =
        let l : length s ≤ 2 = ltb-false 2 (length s) e in
        inl (record { few = l; enq = h; sel = sym (same_start s l) ∙ h })
    go false e (inr h) =
        let l : length s ≤ 2 = ltb-false 2 (length s) e in
        inl (record { few = l; enq = same_start s l ∙ h; sel = h })

-- ---- what a byte does, as the format has it
pub data Does (s : List ℕ) (b : ℕ) : Step → Type 0 where
  does_keep : formed (s ++ b ∷ []) ≡ false → viable (s ++ b ∷ []) ≡ true → Does s b Keeps
  does_end : formed (s ++ b ∷ []) ≡ true → Does s b Ends
  does_check : length s ≡ 14 → formed (s ++ b ∷ []) ≡ eqb b (bcc_in s) → viable (s ++ b ∷ []) ≡ false → Does s b Checks
  does_spoil : formed (s ++ b ∷ []) ≡ false → viable (s ++ b ∷ []) ≡ false → Does s b Spoils

-- at places 0 and 1 the shapes take the same bytes, and at place 2 the byte 02 tells them apart
same_kind : (u f : Bool) → either (both f true) (both f true) ≡ pick u f f
same_kind true f = rw both_true (either_same f)
same_kind false f = rw both_true (either_same f)

told_apart : (u f : Bool) → either (both f true) (both u true) ≡ pick u u f
told_apart true f = either_right (both f true) true refl
told_apart false f = rw both_true (either_false f)

both_open : (b n : ℕ) → n ≤ 2
    → either (both (fits (get_or enquiry n any) b) (ltb (suc n) 8)) (both (fits (get_or select n any) b) (ltb (suc n) 15))
    ≡ pick (eqb b 0x02) (fits (get_or select n any) b) (fits (get_or enquiry n any) b)
unfolding enquiry select
both_open b zero l = same_kind (eqb b 0x02) (eqb b 0x04)
both_open b (suc zero) l = same_kind (eqb b 0x02) (fits text b)
both_open b (suc (suc zero)) l = told_apart (eqb b 0x02) (fits text b)
both_open b (suc (suc (suc n))) l = absurd (omega arith)

-- a place before the last
inside : (ks : List Kind) (last : Step) (n b : ℕ) → suc n < length ks → step_in ks last n b ≡ pick (fits (get_or ks n any) b) Keeps Spoils
unfolding step_in fits_at
inside ks last n b h = simp (lt-ltb n (length ks) (omega arith), ne_eqb (suc n) (length ks) (omega arith))

module _ (s : List ℕ) (b : ℕ) where
  -- only the shape ks is left, and its last byte needs the test c besides
  one_shape : (ks : List Kind) (last : Step) (c : Bool) → length s < length ks
      → viable (s ++ b ∷ []) ≡ both (fits (get_or ks (length s) any) b) (ltb (suc (length s)) (length ks))
      → formed (s ++ b ∷ []) ≡ both (both (fits (get_or ks (length s) any) b) (eqb (suc (length s)) (length ks))) c
      → (suc (length s) ≡ length ks → formed (s ++ b ∷ []) ≡ c → viable (s ++ b ∷ []) ≡ false → Does s b last)
      → Does s b (step_in ks last (length s) b)
  unfolding step_in fits_at
  one_shape ks last c l v w end = rw (lt-ltb (length s) (length ks) l) (go (fits (get_or ks (length s) any) b) (eqb (suc (length s)) (length ks)) refl v w)
    where
      go : (f x : Bool) → eqb (suc (length s)) (length ks) ≡ x → viable (s ++ b ∷ []) ≡ both f (ltb (suc (length s)) (length ks))
          → formed (s ++ b ∷ []) ≡ both (both f x) c → Does s b (pick f (pick x last Keeps) Spoils)
      go true true e p q =
          let n : suc (length s) ≡ length ks = eqb-true (suc (length s)) (length ks) e in
          end n q (p ∙ le-ltb (suc (length s)) (length ks) (omega arith))
      go true false e p q =
          let n : suc (length s) ≡ length ks → ⊥ = eqb-false (suc (length s)) (length ks) e in
          does_keep q (p ∙ lt-ltb (suc (length s)) (length ks) (omega arith))
      go false x e p q = does_spoil q p

  select_does : Selects s → Does s b (step_of (length s) (get_or s 2 0) b)
  unfolding step_of select
  select_does h =
      rw (lt-ltb 2 (length s) h.more, eq-eqb (get_or s 2 0) 0x02 h.third)
      (one_shape select Checks (eqb b (bcc_in s)) (part_length select s h.sel) (rw (viable_step s b, h.enq, h.sel)) (rw (formed_step s b, h.enq, h.sel))
      (λ n w v. does_check (omega arith) w v))

  enquiry_does : Enquires s → Does s b (step_of (length s) (get_or s 2 0) b)
  unfolding step_of enquiry
  enquiry_does h =
      rw (lt-ltb 2 (length s) h.more, ne_eqb (get_or s 2 0) 0x02 h.third)
      (one_shape enquiry Ends true (part_length enquiry s h.enq)
      (rw (viable_step s b, h.enq, h.sel, either_false)) (rw (formed_step s b, h.enq, h.sel, either_false, both_true))
      (λ n w v. does_end w))

  open_does : Open s → Does s b (step_of (length s) (get_or s 2 0) b)
  unfolding step_of enquiry select
  open_does h =
      let l : length s ≤ 2 = h.few in
      rw (le-ltb 2 (length s) l, inside select Checks (length s) b (omega arith), inside enquiry Ends (length s) b (omega arith))
      (go (eqb b 0x02) (fits (get_or select (length s) any) b) (fits (get_or enquiry (length s) any) b)
      (rw (viable_step s b, h.enq, h.sel) (both_open b (length s) l))
      (rw (formed_step s b, h.enq, h.sel, ne_eqb (suc (length s)) 8 (omega arith), ne_eqb (suc (length s)) 15 (omega arith)) (simp both_false)))
    where
      go : (u f g : Bool) → viable (s ++ b ∷ []) ≡ pick u f g → formed (s ++ b ∷ []) ≡ false → Does s b (pick u (pick f Keeps Spoils) (pick g Keeps Spoils))
      go true true g v w = does_keep w v
      go true false g v w = does_spoil w v
      go false f true v w = does_keep w v
      go false f false v w = does_spoil w v

  -- WHAT A BYTE DOES to a beginning
  pub step_does : viable s ≡ true → Does s b (step_of (length s) (get_or s 2 0) b)
  step_does v = ⊎_elim open_does (⊎_elim select_does enquiry_does) (beginning s v)
