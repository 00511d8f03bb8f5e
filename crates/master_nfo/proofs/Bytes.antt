-- The bytes of a REPLY: what has these characters for number and value has its shape, check and hex, and what has them is such a text. Assumes nothing.
use Rattle.std.proofs.Common.{Option, Some, None}
use mathlib.Core.Path.{◌≡◌, refl, sym, ap, ◌∙◌}
use mathlib.Core.Bool.{Bool, true, false}
use mathlib.Core.List.{List, ◌∷◌}
use Prim.Native.Nat.{ℕ, ◌+◌, ◌<◌}
use native.Mathlib.Omega.{arith}
use borrow.Author.Tests.{eqb-true}
use lib.Dec.{eqb}
use lib.ListN.{length, get_or, take, drop}
use Rattle.base.specs.Choice.{pick}
use Rattle.base.proofs.Tests.{both_out, is_false}
use Rattle.checks.specs.Bcc.{bcc_of}
use Rattle.table.specs.declared.labels.ENumber.{ENumber}
use Rattle.nfo.specs.Shape.{any, fits, whole}
use Rattle.nfo.specs.Message.{ADR, enquiry, select, bcc_in, formed}
use Rattle.nfo_parts.specs.Parts.{number_in, parameter_at, value_at}
use Rattle.nfo_parts.specs.Replies.{Spells, reply_with}
use Rattle.nfo.proofs.Shape.{whole_length, whole_at}
use Rattle.nfo_parts.proofs.Spelt.{four}
use Rattle.nfo.proofs.Formed.{reply_formed}
use Rattle.master_nfo.specs.Replies.{reply, checked, replied}
use Rattle.master_nfo.proofs.Words.{never, places, placed, characters_at, value_spelt}

-- ---- characters that spell a number and a value
module _ (adr e w : ℕ) (number value : List ℕ) (p : Spells number e) (v : Spells value w) where
  pub reply_length : length (reply_with adr number value) ≡ 14
  reply_length = let f = four number e p in let g = four value w v in rw (f.are, g.are)

  pub reply_parameter : e < 65536 → parameter_at 2 (reply_with adr number value) ≡ Some (record { 0 = e })
  unfolding parameter_at value_at
  reply_parameter h = let f = four number e p in rw f.are (ap number_in (f.value h))

  pub reply_value : w < 65536 → value_at 8 (reply_with adr number value) ≡ Some w
  unfolding value_at
  reply_value h = let f = four number e p in let g = four value w v in rw (f.are, g.are) (g.value h)

-- the places of one that are no digits
pub record Frame (s : List ℕ) : Type 0 where
  pub adr : fits ADR (get_or s 0 0) ≡ true
  pub two : get_or s 1 0 ≡ 0x02
  pub letter : get_or s 2 0 ≡ 0x45
  pub equals : get_or s 7 0 ≡ 0x3D
  pub three : get_or s 12 0 ≡ 0x03
  pub right : get_or s 13 0 ≡ bcc_of (take 11 (drop 2 s))

pub reply_placed : (s : List ℕ) → length s ≡ 14 → Frame s → s ≡ reply_with (get_or s 0 0) (characters_at 3 s) (characters_at 8 s)
reply_placed s l f =
    let list : s ≡ places 14 (λ (i : ℕ). get_or s i 0) = placed s 14 l in
    let check : get_or s 13 0 ≡ bcc_of (take 11 (drop 2 (places 14 (λ (i : ℕ). get_or s i 0)))) = f.right ∙ ap (λ (t : List ℕ). bcc_of (take 11 (drop 2 t))) list in
    list ∙ cc

-- ---- a REPLY is a SELECT without its 04
enquiry_apart : (s : List ℕ) → length s ≡ 14 → whole enquiry (0x04 ∷ s) ≡ true → ⊥
unfolding enquiry
enquiry_apart s l h = omega (arith, whole_length enquiry (0x04 ∷ s) h)

pub replied_select : (s : List ℕ) → length s ≡ 14 → formed (0x04 ∷ s) ≡ replied s
unfolding formed replied checked select reply whole bcc_in
replied_select s l =
    let other : whole enquiry (0x04 ∷ s) ≡ false = is_false (whole enquiry (0x04 ∷ s)) (λ h. enquiry_apart s l h) in
    simp other

pub reply_replied : (adr e w : ℕ) (number value : List ℕ) → Spells number e → Spells value w → fits ADR adr ≡ true → replied (reply_with adr number value) ≡ true
reply_replied adr e w number value p v a =
    sym (replied_select (reply_with adr number value) (reply_length adr e w number value p v)) ∙ reply_formed adr e w number value p v a

-- ---- what has shape, check and hex is such a text
-- a parameter that is a number is `E` and its digits
pub parameter_out : (s : List ℕ) (i : ℕ) (e : ENumber) → parameter_at i s ≡ Some e → (get_or s i 0 ≡ 0x45) × (value_at (i + 1) s ≡ Some e.0)
unfolding parameter_at
parameter_out s i e = go (eqb (get_or s i 0) 0x45) (value_at (i + 1) s) refl refl
  where
    go : (t : Bool) (v : Option ℕ) → eqb (get_or s i 0) 0x45 ≡ t → value_at (i + 1) s ≡ v → pick t (number_in v) None ≡ Some e → (get_or s i 0 ≡ 0x45) × (value_at (i + 1) s ≡ Some e.0)
    go true (Some n) p q h = (eqb-true (get_or s i 0) 0x45 p, cc)
    go true None p q h = never (cc)
    go false v p q h = never (cc)

pub record Written (s : List ℕ) (e w : ℕ) : Type 0 where
  pub adr : fits ADR (get_or s 0 0) ≡ true
  pub number : (e < 65536) × Spells (characters_at 3 s) e
  pub value : (w < 65536) × Spells (characters_at 8 s) w
  pub same : s ≡ reply_with (get_or s 0 0) (characters_at 3 s) (characters_at 8 s)

-- what has the shape, the check and a number has the frame
pub replied_frame : (s : List ℕ) (e : ENumber) → replied s ≡ true → parameter_at 2 s ≡ Some e → Frame s
unfolding replied checked reply
replied_frame s e h p =
    let r = both_out (whole reply s) (checked s) h in
    let at : (i : ℕ) → fits (get_or reply i any) (get_or s i 0) ≡ true = λ i. whole_at reply s i r.0 in
    record {
      adr = at 0;
      two = eqb-true (get_or s 1 0) 0x02 (at 1);
      letter = (parameter_out s 2 e p).0;
      equals = eqb-true (get_or s 7 0) 0x3D (at 7);
      three = eqb-true (get_or s 12 0) 0x03 (at 12);
      right = eqb-true (get_or s 13 0) (bcc_of (take 11 (drop 2 s))) r.1;
    }

pub replied_written : (s : List ℕ) (e : ENumber) (w : ℕ) → replied s ≡ true → parameter_at 2 s ≡ Some e → value_at 8 s ≡ Some w → Written s e.0 w
unfolding replied reply
replied_written s e w h p v =
    let f = replied_frame s e h p in
    record {
      adr = f.adr;
      number = value_spelt s 3 e.0 (parameter_out s 2 e p).1;
      value = value_spelt s 8 w v;
      same = reply_placed s (whole_length reply s (both_out (whole reply s) (checked s) h).0) f;
    }
