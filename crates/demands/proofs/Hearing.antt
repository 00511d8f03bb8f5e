-- What a master reads as a reply is one, and every reply is read. Assumes nothing.
use Rattle.std.proofs.Common.{Option, Some, None}
use mathlib.Core.Path.{◌≡◌, refl, ap, ◌∙◌}
use mathlib.Core.Logic.{◌⊎◌, inl, inr}
use mathlib.Core.List.{List}
use Prim.Native.Nat.{ℕ, ◌+◌, ◌-◌}
use native.Mathlib.Omega.{arith}
use Rattle.hex_pairs.specs.Hex.{capitals}
use Rattle.nfo.proofs.Address.{adr_fits}
use Rattle.rtu.specs.Rtu.{rtu_of}
use Rattle.ascii.specs.Ascii.{ascii_of}
use Rattle.master_reply.specs.Reply.{reply_number}
use Rattle.master_reply.specs.Told.{IsReply, IsMessage}
use Rattle.master_reply.specs.declared.Reply.{Reply}
use Rattle.master_reply.specs.declared.Reply.TheVariants as Replies
use Rattle.master_reply.specs.declared.Heard.{Heard}
use Rattle.master_rtu.specs.Heard.{rtu_heard}
use Rattle.master_rtu.proofs.RoundTrip as Frames
use Rattle.master_ascii.specs.Heard.{ascii_heard}
use Rattle.master_ascii.proofs.RoundTrip as Texts
use Rattle.master_nfo.specs.Replies as serial
use Rattle.master_nfo.specs.Replies.{read_of}
use Rattle.master_nfo.specs.declared.replies.Reply as Serial
use Rattle.master_nfo.specs.declared.replies.Reply.TheVariants as Serials
use Rattle.master_nfo.proofs.Answered.{spelt_read, ack_read, nak_read, told_only, acknowledged_only, refused_only}
use Rattle.demands.specs.Demand1.{ZeroOr14, IsSerial, Hearing}

-- where it is one of the two
zero_or_14 : (n : ℕ) (Is : Type 0) → (n ≡ 0) ⊎ (n ≡ 14) → (n ≡ 0 → Is) → (Is → n ≡ 0) → ZeroOr14 n Is
zero_or_14 n Is two only back = ((only, back), (λ e is. absurd (omega (arith, e, back is)), λ not-it. go not-it two))
  where
    go : (Is → ⊥) → (n ≡ 0) ⊎ (n ≡ 14) → n ≡ 14
    go not-it (inl e) = absurd (not-it (only e))
    go not-it (inr e) = e

-- ---- NFO serial
serial_either : (r : Option Serial.Reply) → (serial.reply_number r ≡ 0) ⊎ (serial.reply_number r ≡ 14)
serial_either (Some (Serials.Told a e w)) = inl refl
serial_either (Some (Serials.Acknowledged a)) = inl refl
serial_either (Some (Serials.Refused a)) = inl refl
serial_either None = inr refl

serial_only : (s : List ℕ) (r : Option Serial.Reply) → read_of s ≡ r → serial.reply_number r ≡ 0 → IsSerial r s
serial_only s (Some (Serials.Told a e w)) k h = told_only s a e w k
serial_only s (Some (Serials.Acknowledged a)) k h = acknowledged_only s a k
serial_only s (Some (Serials.Refused a)) k h = refused_only s a k
serial_only s None k h = absurd (omega (arith, h))

serial_zero : (s : List ℕ) (r : Option Serial.Reply) → IsSerial r s → serial.reply_number r ≡ 0
serial_zero s (Some (Serials.Told a e w)) h = refl
serial_zero s (Some (Serials.Acknowledged a)) h = refl
serial_zero s (Some (Serials.Refused a)) h = refl
serial_zero s None h = absurd h

own : (a : ℕ) → a + 32 - 32 ≡ a
own a = omega arith

serial_every : (r : Option Serial.Reply) (s : List ℕ) → IsSerial r s → read_of s ≡ r
serial_every (Some (Serials.Told a e w)) s (l, k, m, number, value, p, v, h) =
    ap read_of h ∙ spelt_read (a + 32) e.0 w number value p v (adr_fits a l) k m ∙ ap (λ (x : ℕ). Some (Serials.Told x e w)) (own a)
serial_every (Some (Serials.Acknowledged a)) s (l, h) = ap read_of h ∙ ack_read (a + 32) (adr_fits a l) ∙ ap (λ (x : ℕ). Some (Serials.Acknowledged x)) (own a)
serial_every (Some (Serials.Refused a)) s (l, h) = ap read_of h ∙ nak_read (a + 32) (adr_fits a l) ∙ ap (λ (x : ℕ). Some (Serials.Refused x)) (own a)
serial_every None s h = absurd h

-- ---- Modbus
modbus_either : (r : Option Reply) → (reply_number r ≡ 0) ⊎ (reply_number r ≡ 14)
modbus_either (Some (Replies.Data a f n)) = inl refl
modbus_either (Some (Replies.One a r w)) = inl refl
modbus_either (Some (Replies.Many a r n)) = inl refl
modbus_either (Some (Replies.Exception a f c)) = inl refl
modbus_either None = inr refl

modbus_zero : (r : Option Reply) → IsReply r → reply_number r ≡ 0
modbus_zero (Some (Replies.Data a f n)) h = refl
modbus_zero (Some (Replies.One a r w)) h = refl
modbus_zero (Some (Replies.Many a r n)) h = refl
modbus_zero (Some (Replies.Exception a f c)) h = refl
modbus_zero None h = absurd h

modbus_only : (made : ℕ → List ℕ → List ℕ) (s : List ℕ) (h : Heard) → (reply_number h.reply ≡ 0 → IsMessage made s h) → ZeroOr14 (reply_number h.reply) (IsMessage made s h)
modbus_only made s h only = zero_or_14 (reply_number h.reply) (IsMessage made s h) (modbus_either h.reply) only (λ is. modbus_zero h.reply is.0)

pub hearing : Hearing
hearing =
    record {
      serial_only = λ s. zero_or_14 _ (IsSerial (read_of s) s) (serial_either (read_of s)) (serial_only s (read_of s) refl) (serial_zero s (read_of s));
      serial_every = serial_every;
      rtu = record { only = λ s below. modbus_only rtu_of s (rtu_heard s) (Frames.reply_only s below); every = λ r ws h e w s is. ap rtu_heard is ∙ Frames.reply_back r ws h e };
      ascii = record { only = λ s below. modbus_only ascii_of (capitals s) (ascii_heard s) (Texts.reply_only s); every = Texts.reply_back };
    }
