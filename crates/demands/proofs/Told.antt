-- What the card replies over NFO serial is read back as what was answered. Assumes nothing.
use Rattle.std.proofs.Common.{Option, Some, None}
use mathlib.Core.Path.{◌≡◌, refl, sym, ap, subst, ◌∙◌}
use mathlib.Core.Logic.{◌⊎◌, inl, inr}
use mathlib.Core.Bool.{true, false}
use mathlib.Core.List.{List, []}
use Prim.Native.Nat.{ℕ, ◌+◌, ◌%◌, ◌<◌}
use native.Mathlib.Omega.{arith}
use lib.Dec.{eqb}
use lib.ListN.{get_or}
use Rattle.base.proofs.Tests.{pick_both}
use Rattle.hex_pairs.specs.Hex.{pair_value}
use Rattle.hex_pairs.proofs.RoundTrip.{pair_below}
use Rattle.answers.specs.declared.Answer.{Answer}
use Rattle.answers.specs.declared.Answer.TheVariants as Answers
use Rattle.answers.specs.Answer.{answer_number}
use Rattle.nfo.specs.Shape.{fits, whole}
use Rattle.nfo.specs.Message.{ADR, enquiry, select, formed}
use Rattle.nfo_parts.specs.Parts.{word_in, value_at, number_in, parameter_at, message_of}
use Rattle.nfo_parts.specs.declared.message.Message.{Message}
use Rattle.nfo.proofs.Shape.{whole_at}
use Rattle.nfo.proofs.Lawful.{formed_shape, nfo_stream_lem}
use Rattle.nfo_service.specs.Reply.{adr_in, parameter_in, e_number_in, replied_by, replied}
use Rattle.nfo_service.proofs.Replies.{NoPart, no_part}
use Rattle.master_nfo.specs.Replies as Heard
use Rattle.master_nfo.specs.Replies.{reply_number, reply, ack, nak, checked, read_of}
use Rattle.master_nfo.proofs.Answered.{reply_read, ack_read, nak_read}
use Rattle.demands.specs.Calls.{nfo_serial}
use Rattle.demands.specs.Demand2.{serial, AnswerHeard, AnswersFirst}
use Rattle.demands.proofs.OneCall.{nfo_takes, first_formed}
use Rattle.demands.proofs.Ears.{one_answer, told_not_1, refused_not_1, unanswered, answered}
use Rattle.table.specs.declared.labels.ENumber.{ENumber}

-- ---- a message has an ADR, and the number of its parameter has four digits
abbrev Named : Message → Type 0
Named m = (fits ADR (adr_in m) ≡ true) × (e_number_in (parameter_in m) < 65536)

value_below : (m : List ℕ) (i : ℕ) → e_number_in (number_in (value_at i m)) < 65536
unfolding value_at
value_below m i = go (pair_value (get_or m i 0) (get_or m (i + 1) 0)) (pair_value (get_or m (i + 2) 0) (get_or m (i + 3) 0)) refl refl
  where
    go : (x y : Option ℕ) → pair_value (get_or m i 0) (get_or m (i + 1) 0) ≡ x → pair_value (get_or m (i + 2) 0) (get_or m (i + 3) 0) ≡ y → e_number_in (number_in (word_in x y)) < 65536
    go (Some h) (Some l) p q = omega (arith, pair_below _ _ h p, pair_below _ _ l q)
    go (Some h) None p q = omega arith
    go None y p q = omega arith

parameter_below : (m : List ℕ) (i : ℕ) → e_number_in (parameter_at i m) < 65536
unfolding parameter_at
parameter_below m i = pick_both (λ (x : Option ENumber). e_number_in x < 65536) (eqb (get_or m i 0) 0x45) (λ _. value_below m (i + 1)) (λ _. omega arith)

adr : (m : List ℕ) → formed m ≡ true → fits ADR (get_or m 1 0) ≡ true
unfolding enquiry select
adr m w = go (formed_shape m w)
  where
    go : (whole enquiry m ≡ true) ⊎ (whole select m ≡ true) → fits ADR (get_or m 1 0) ≡ true
    go (inl h) = whole_at _ m 1 h
    go (inr h) = whole_at _ m 1 h

named : (m : List ℕ) → formed m ≡ true → Named (message_of m)
unfolding message_of
named m w = pick_both Named (eqb (get_or m 2 0) 0x02) (λ _. (adr m w, parameter_below m 3)) (λ _. (adr m w, parameter_below m 2))

-- ---- each answer is heard
-- nothing is no reply
silence : reply_number (read_of []) ≡ 14
unfolding read_of Heard.replied reply ack nak whole checked
silence = refl

module _ (m : List ℕ) (one : serial.to_all m ≡ false) (n : Named (message_of m)) where
  by_answer : (a : Answer) → NoPart a → AnswerHeard serial m a (replied_by (adr_in (message_of m)) (e_number_in (parameter_in (message_of m))) a)
  unfolding replied_by
  by_answer (Answers.Told row word) k =
      answered serial m (Answers.Told row word) _ reply_number silence refl one (λ e. told_not_1 (ap answer_number e)) (reply_read (adr_in (message_of m)) (e_number_in (parameter_in (message_of m))) (word % 65536) n.0 n.1 (omega arith))
  by_answer (Answers.Written change) k =
      answered serial m (Answers.Written change) _ reply_number silence refl one (λ e. told_not_1 (ap answer_number e)) (ack_read (adr_in (message_of m)) n.0)
  by_answer (Answers.Identified part) k = absurd k
  by_answer Answers.NotOurs k = unanswered serial m Answers.NotOurs [] (inr refl) refl
  by_answer (Answers.Refused x) k =
      answered serial m (Answers.Refused x) _ reply_number silence refl one (λ e. refused_not_1 x (ap answer_number e)) (nak_read (adr_in (message_of m)) n.0)

pub told_back : (m : List ℕ) → formed m ≡ true → (a : Answer) → NoPart a → AnswerHeard serial m a (replied (message_of m) a)
unfolding replied
told_back m w a k = pick_both (AnswerHeard serial m a) (eqb (adr_in (message_of m)) 0x7F) (λ e. unanswered serial m a [] (inl e) refl) (λ e. by_answer m e (named m w) a k)

-- ---- a call's reply
pub serial_answers : AnswersFirst nfo_serial serial
serial_answers c sound p bytes room h t first a e =
    let k = nfo_takes c sound p bytes room h t first in
    let is : a ≡ (nfo_serial.served c t.bytes).answer = one_answer a _ _ e k.outcome in
    subst (AnswerHeard serial t.bytes a) (ap (replied (message_of t.bytes)) is ∙ sym k.reply) (told_back t.bytes (first_formed nfo_serial nfo_stream_lem c bytes t first) a (subst NoPart (sym is) (no_part c.plant c.port.numbers (message_of t.bytes))))
