-- What is read, by the tests that the code makes. Assumes nothing.
use Rattle.std.proofs.Common.{Option, Some, None}
use mathlib.Core.Path.{◌≡◌, refl, sym, ap, ◌∙◌}
use mathlib.Core.Bool.{true}
use mathlib.Core.List.{List}
use Prim.Native.Nat.{ℕ, ◌-◌}
use native.Mathlib.Omega.{arith}
use lib.ListN.{length, get_or}
use Rattle.base.proofs.Tests.{both_out}
use Rattle.table.specs.declared.labels.ENumber.{ENumber}
use Rattle.nfo.specs.Shape.{Kind, whole}
use Rattle.nfo_parts.specs.Parts.{parameter_at, value_at}
use Rattle.nfo.proofs.Shape.{whole_length}
use Rattle.master_nfo.specs.declared.replies.Reply.{Reply}
use Rattle.master_nfo.specs.declared.replies.Reply.TheVariants.{Told}
use Rattle.master_nfo.specs.Replies.{reply, ack, nak, replied, read_of}
use Rattle.master_nfo.proofs.Words.{never, characters_at, value_spelt}
use Rattle.master_nfo.proofs.Bytes.{Frame, reply_placed, parameter_out, replied_frame}
use Rattle.master_nfo.proofs.Answered.{read_cases, spelt_read}

-- ---- by the count of the bytes
-- what does not have a reply's count
module _ (s : List ℕ) where
  count_apart : (ks : List Kind) → (length s ≡ length ks → ⊥) → whole ks s ≡ true → ⊥
  count_apart ks n h = n (whole_length ks s h)

  pub other_count : (length s ≡ 2 → ⊥) → (length s ≡ 14 → ⊥) → None ≡ read_of s
  unfolding ack nak replied reply
  other_count n m = read_cases s (λ (r : Option Reply). None ≡ r) refl
      (λ h. absurd (count_apart ack n h))
      (λ h. absurd (count_apart nak n h))
      (λ e w h p v. absurd (count_apart reply m (both_out (whole reply s) _ h).0))

-- ---- fourteen bytes
module _ (s : List ℕ) (l : length s ≡ 14) where
  long_none : ((e : ENumber) (w : ℕ) → replied s ≡ true → parameter_at 2 s ≡ Some e → value_at 8 s ≡ Some w → ⊥) → None ≡ read_of s
  unfolding ack nak
  long_none never-so = read_cases s (λ (r : Option Reply). None ≡ r) refl
      (λ h. absurd (count_apart s ack (λ k. omega arith) h))
      (λ h. absurd (count_apart s nak (λ k. omega arith) h))
      (λ e w h p v. absurd (never-so e w h p v))

  pub other_frame : (Frame s → ⊥) → None ≡ read_of s
  other_frame n = long_none (λ e w h p v. n (replied_frame s e h p))

  pub other_number : (x : Option ℕ) → x ≡ value_at 3 s → x ≡ None → None ≡ read_of s
  other_number x q f = long_none (λ e w h p v. let d = (parameter_out s 2 e p).1 in never (cc))

  pub other_value : (x : Option ℕ) → x ≡ value_at 8 s → x ≡ None → None ≡ read_of s
  other_value x q f = long_none (λ e w h p v. never (cc))

  -- every test is passed
  pub all_told : Frame s → (e w : ℕ) (x y : Option ℕ) → x ≡ value_at 3 s → x ≡ Some e
      → y ≡ value_at 8 s → y ≡ Some w → (Some (Told (get_or s 0 0 - 32) (record { 0 = e }) w)) ≡ read_of s
  all_told f e w x y number word value told =
      let n = value_spelt s 3 e (sym number ∙ word) in
      let m = value_spelt s 8 w (sym value ∙ told) in
      sym (ap read_of (reply_placed s l f) ∙ spelt_read (get_or s 0 0) e w (characters_at 3 s) (characters_at 8 s) n.1 m.1 f.adr n.0 m.0)
