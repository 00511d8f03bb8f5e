-- Demand 2: what the master side writes is read by the card as that same request, and each reply is read back as what was answered; and nothing else is
-- read as a reply. Assumes nothing.
use Rattle.std.proofs.Common.{Option}
use mathlib.Core.Path.{◌≡◌, ap, ◌∙◌}
use mathlib.Core.Bool.{true}
use mathlib.Core.List.{List, ◌∷◌}
use Prim.Native.Nat.{ℕ, ◌+◌, ◌-◌, ◌*◌, ◌/◌, ◌≤◌}
use native.Mathlib.Omega.{arith}
use lib.ListN.{length}
use lib.Seq.{take_at}
use Rattle.base.specs.Bytes.{Bytes}
use Rattle.base.proofs.Tests.{pick_both}
use Rattle.base.proofs.Lists.{below_drop}
use Rattle.checks.specs.Crc.{body_of, crc_bytes}
use Rattle.checks.proofs.Laws.{body_below}
use Rattle.identity.specs.Identity.{Identity}
use Rattle.modbus_words.specs.Words.{word_bytes}
use Rattle.modbus.specs.Request.{request_of}
use Rattle.modbus.specs.Answer.{unit_of}
use Rattle.modbus.specs.declared.replies.Answer.{Answer}
use Rattle.modbus.proofs.Units.{unit_short, unit_some}
use Rattle.rtu.specs.Rtu.{frame_holds, address_in, unit_in, rtu_of, part_of, data_of, register_span, register_data}
use Rattle.rtu.proofs.RoundTrip.{own_address, own_unit, own_frame, frame_only}
use Rattle.master_request.specs.declared.Ask.{Ask}
use Rattle.master_request.specs.declared.Ask.TheVariants.{Holding, Input, One, Many}
use Rattle.master_request.specs.Ask.{head_of, many_unit, sayable, request_unit}
use Rattle.master_request.specs.Said.{request_said, data_said}
use Rattle.master_request.proofs.Limits.{many_out}
use Rattle.master_request.proofs.AsSaid.{said_read, said_some, said_most}
use Rattle.master_reply.specs.declared.Heard.{Heard}
use Rattle.master_reply.specs.declared.Reply.{Reply}
use Rattle.master_reply.specs.Reply.{reply_number, registers_of, heard, heard_of}
use Rattle.master_reply.specs.Told.{address_of, reply_unit, Within, IsReply, IsMessage, reply_to, words_told, IsAnswer}
use Rattle.master_reply.proofs.Answered.{answer_heard, reply_heard}
use Rattle.master_reply.proofs.Only.{heard_only}
use Rattle.master_reply.proofs.Sizes.{reply_some, reply_most}
use Rattle.master_rtu.specs.Heard.{rtu_heard}

-- ---- the card reads what was asked
module _ (a : ℕ) (ask : Ask) (s : List ℕ) (said : sayable a ask (length s) ≡ true) where
  pub asked_holds : frame_holds (rtu_of a (request_unit ask s)) ≡ true
  asked_holds = own_frame a (request_unit ask s) (said_some ask s) (omega (arith, said_most a ask s said))

  pub asked_request : request_of (unit_in (rtu_of a (request_unit ask s))) ≡ request_said ask s
  asked_request = ap request_of (own_unit a (request_unit ask s)) ∙ said_read a ask s said

  asked_span : register_data (rtu_of a (request_unit ask s)) ≡ part_of (data_of (request_said ask s)) (rtu_of a (request_unit ask s))
  unfolding register_data register_span
  asked_span = rw (asked_holds, asked_request)

-- the register data is that of what was asked
pub asked_data : (a : ℕ) (ask : Ask) (s : List ℕ) → sayable a ask (length s) ≡ true → register_data (rtu_of a (request_unit ask s)) ≡ data_said ask s
unfolding rtu_of request_unit many_unit head_of word_bytes sayable
asked_data a (Holding r n) s e = asked_span a (Holding r n) s e
asked_data a (Input r n) s e = asked_span a (Input r n) s e
asked_data a (One r w) s e = asked_span a (One r w) s e
asked_data a (Many r) s e =
    asked_span a (Many r) s e
    ∙ take_at s (crc_bytes (a ∷ request_unit (Many r) s)) (7 + 2 * (length s / 2) - 7) (omega (arith, (many_out a (length s) e).whole))

-- ---- the master reads what was answered
made : (a : ℕ) (u : List ℕ) → 1 ≤ length u → length u ≤ 253 → rtu_heard (rtu_of a u) ≡ heard_of a u
unfolding rtu_heard
made a u l h = rw (own_frame a u l h, own_address a u, own_unit a u)

pub answer_back : (i : Identity) (a : ℕ) (x : Answer) → Within 1 247 a → IsAnswer x → rtu_heard (rtu_of a (unit_of i x)) ≡ heard (reply_to a x) (words_told x)
answer_back i a x h k = made a (unit_of i x) (unit_some i x) (omega (arith, unit_short i x)) ∙ answer_heard i a x h k

pub reply_back : (r : Option Reply) (ws : List ℕ) → IsReply r → length ws ≡ registers_of r → rtu_heard (rtu_of (address_of r) (reply_unit r ws)) ≡ heard r ws
reply_back r ws h e = made (address_of r) (reply_unit r ws) (reply_some r ws h) (omega (arith, reply_most r ws h e)) ∙ reply_heard r ws h e

-- ---- "Else 14, and only then"
abbrev MessageOr14 : List ℕ → Heard → Type 0
MessageOr14 f h = reply_number h.reply ≡ 0 → IsMessage rtu_of f h

unit_below : (f : List ℕ) → Bytes f → Bytes (unit_in f)
unfolding unit_in
unit_below f below = below_drop 256 1 (body_of f) (body_below f below)

pub reply_only : (f : List ℕ) → Bytes f → reply_number (rtu_heard f).reply ≡ 0 → IsMessage rtu_of f (rtu_heard f)
unfolding rtu_heard
reply_only f below =
    pick_both (MessageOr14 f) (frame_holds f) (λ e. heard_only rtu_of (address_in f) (unit_in f) f (unit_below f below) (frame_only f below e)) (λ _ z. absurd (omega arith))
