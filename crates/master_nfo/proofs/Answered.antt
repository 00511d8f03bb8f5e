-- What is read: a written reply is read back, and nothing else is read. Assumes nothing.
use Rattle.std.proofs.Common.{Option, Some, None}
use mathlib.Core.Path.{◌≡◌, refl, sym, ap, subst, ◌∙◌}
use mathlib.Core.Bool.{Bool, true, false}
use mathlib.Core.List.{List, [], ◌∷◌}
use Prim.Native.Nat.{ℕ, ◌+◌, ◌-◌, ◌<◌}
use native.Mathlib.Omega.{arith}
use borrow.Author.Tests.{eqb-true}
use lib.ListN.{length, get_or}
use Rattle.base.specs.Choice.{pick}
use Rattle.base.proofs.Tests.{is_false}
use Rattle.table.specs.declared.labels.ENumber.{ENumber}
use Rattle.nfo.specs.Shape.{Kind, byte, fits, whole}
use Rattle.nfo.specs.Message.{ADR}
use Rattle.nfo_parts.specs.Parts.{parameter_at, value_at}
use Rattle.nfo_parts.specs.Replies.{digits_of, Spells, reply_with, reply_of, ack_of, nak_of}
use Rattle.nfo.proofs.Shape.{whole_length, whole_at}
use Rattle.nfo.proofs.Address.{adr_only}
use Rattle.nfo_parts.proofs.Spelt.{digits_spell}
use Rattle.master_nfo.specs.declared.replies.Reply.{Reply}
use Rattle.master_nfo.specs.declared.replies.Reply.TheVariants.{Told, Acknowledged, Refused}
use Rattle.master_nfo.specs.Replies.{ack, nak, replied, told_by, address_heard, read_of}
use Rattle.master_nfo.proofs.Words.{never, places, placed, characters_at}
use Rattle.master_nfo.proofs.Bytes.{reply_length, reply_parameter, reply_value, reply_replied, replied_written}

-- ---- what is read is told, acknowledged, refused, or no reply
told_cases : (P : Option Reply → Type 0) (a : ℕ) (q : Option ENumber) (v : Option ℕ) → P None → ((e : ENumber) (w : ℕ) → q ≡ Some e → v ≡ Some w → P (Some (Told a e w))) → P (told_by a q v)
told_cases P a (Some e) (Some w) none told = told e w refl refl
told_cases P a (Some e) None none told = none
told_cases P a None v none told = none

module _ (s : List ℕ) (P : Option Reply → Type 0) (none : P None) where
  pub read_cases : (whole ack s ≡ true → P (Some (Acknowledged (address_heard s)))) → (whole nak s ≡ true → P (Some (Refused (address_heard s))))
      → ((e : ENumber) (w : ℕ) → replied s ≡ true → parameter_at 2 s ≡ Some e → value_at 8 s ≡ Some w → P (Some (Told (address_heard s) e w))) → P (read_of s)
  unfolding read_of
  read_cases acknowledged refused told = go (whole ack s) (whole nak s) (replied s) refl refl refl
    where
      go : (a n r : Bool) → whole ack s ≡ a → whole nak s ≡ n → replied s ≡ r
          → P (pick a (Some (Acknowledged (address_heard s))) (pick n (Some (Refused (address_heard s))) (pick r (told_by (address_heard s) (parameter_at 2 s) (value_at 8 s)) None)))
      go true n r p q h = acknowledged p
      go false true r p q h = refused q
      go false false true p q h = told_cases P (address_heard s) (parameter_at 2 s) (value_at 8 s) none (λ e w f g. told e w h f g)
      go false false false p q h = none

-- ---- reading back what was written, in either letters
module _ (adr e w : ℕ) (number value : List ℕ) (p : Spells number e) (v : Spells value w) (a : fits ADR adr ≡ true) where
  long_alone : (ks : List Kind) → (length ks ≡ 14 → ⊥) → whole ks (reply_with adr number value) ≡ false
  long_alone ks n = is_false (whole ks (reply_with adr number value)) (λ h. n (sym (whole_length ks (reply_with adr number value) h) ∙ reply_length adr e w number value p v))

  pub spelt_read : e < 65536 → w < 65536 → read_of (reply_with adr number value) ≡ (Some (Told (adr - 32) (record { 0 = e }) w))
  unfolding read_of ack nak
  spelt_read h k =
      simp (long_alone ack (λ q. omega arith), long_alone nak (λ q. omega arith), reply_replied adr e w number value p v a, reply_parameter adr e w number value p v h, reply_value adr e w number value p v k)

pub reply_read : (adr e w : ℕ) → fits ADR adr ≡ true → e < 65536 → w < 65536 → read_of (reply_of adr e w) ≡ (Some (Told (adr - 32) (record { 0 = e }) w))
unfolding reply_of
reply_read adr e w a h k = spelt_read adr e w (digits_of e) (digits_of w) (digits_spell e) (digits_spell w) a h k

-- "ACK: ADR 06. NAK: ADR 15": they are read so, by their second byte
module _ (adr : ℕ) (a : fits ADR adr ≡ true) where
  pub ack_read : read_of (ack_of adr) ≡ (Some (Acknowledged (adr - 32)))
  unfolding read_of whole ack ack_of
  ack_read = simp a

  pub nak_read : read_of (nak_of adr) ≡ (Some (Refused (adr - 32)))
  unfolding read_of whole ack nak nak_of
  nak_read = simp a

-- ---- and only then
-- where an address is read, ADR is it + 32
adr_read : (s : List ℕ) (a : ℕ) → fits ADR (get_or s 0 0) ≡ true → address_heard s ≡ a → (a < 96) × (get_or s 0 0 ≡ a + 32)
adr_read s a h e = let r = adr_only (get_or s 0 0) h in (omega (arith, r.1, r.2), omega (arith, r.2))

-- two bytes of a shape
two_placed : (s : List ℕ) (c a : ℕ) → whole (ADR ∷ byte c ∷ []) s ≡ true → address_heard s ≡ a → (a < 96) × (s ≡ (a + 32) ∷ c ∷ [])
two_placed s c a h e =
    let r = adr_read s a (whole_at (ADR ∷ byte c ∷ []) s 0 h) e in
    let second : get_or s 1 0 ≡ c = eqb-true (get_or s 1 0) c (whole_at (ADR ∷ byte c ∷ []) s 1 h) in
    let list : s ≡ places 2 (λ (i : ℕ). get_or s i 0) = placed s 2 (whole_length (ADR ∷ byte c ∷ []) s h) in
    (r.0, list ∙ cc)

-- a REPLY from an address, in either letters
abbrev pub TellsBy : List ℕ → ℕ → ℕ → ℕ → Type 0
TellsBy s a e w =
    (a < 96) × (e < 65536) × (w < 65536) × (number : List ℕ) × (value : List ℕ) × Spells number e × Spells value w × (s ≡ reply_with (a + 32) number value)

module _ (s : List ℕ) (a : ℕ) where
  pub told_only : (e : ENumber) (w : ℕ) → read_of s ≡ (Some (Told a e w)) → TellsBy s a e.0 w
  told_only e w = read_cases s (λ (r : Option Reply). r ≡ (Some (Told a e w)) → TellsBy s a e.0 w)
      (λ k. never (cc))
      (λ h k. never (cc))
      (λ h k. never (cc))
      (λ e₂ w₂ h p v k.
      let r = replied_written s e₂ w₂ h p v in
      let same_e : e₂ ≡ e = cc in
      let same_w : w₂ ≡ w = cc in
      let t = adr_read s a r.adr (cc) in
      let number : (e.0 < 65536) × Spells (characters_at 3 s) e.0 = subst (λ (x : ENumber). (x.0 < 65536) × Spells (characters_at 3 s) x.0) same_e r.number in
      let value : (w < 65536) × Spells (characters_at 8 s) w = subst (λ (x : ℕ). (x < 65536) × Spells (characters_at 8 s) x) same_w r.value in
      (t.0, number.0, value.0, characters_at 3 s, characters_at 8 s, number.1, value.1, r.same ∙ ap (λ (x : ℕ). reply_with x (characters_at 3 s) (characters_at 8 s)) t.1))

  pub acknowledged_only : read_of s ≡ (Some (Acknowledged a)) → (a < 96) × (s ≡ ack_of (a + 32))
  unfolding ack ack_of
  acknowledged_only = read_cases s (λ (r : Option Reply). r ≡ (Some (Acknowledged a)) → (a < 96) × (s ≡ ack_of (a + 32)))
      (λ k. never (cc))
      (λ h k. two_placed s 0x06 a h (cc))
      (λ h k. never (cc))
      (λ e w h p v k. never (cc))

  pub refused_only : read_of s ≡ (Some (Refused a)) → (a < 96) × (s ≡ nak_of (a + 32))
  unfolding nak nak_of
  refused_only = read_cases s (λ (r : Option Reply). r ≡ (Some (Refused a)) → (a < 96) × (s ≡ nak_of (a + 32)))
      (λ k. never (cc))
      (λ h k. never (cc))
      (λ h k. two_placed s 0x15 a h (cc))
      (λ e w h p v k. never (cc))
