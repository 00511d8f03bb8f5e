-- Demand 2: what the master side writes is read by the card as that same request, and each reply is read back as what was answered; and nothing else is
-- read as a reply. Assumes nothing.
use Rattle.std.proofs.Common.{Option}
use mathlib.Core.Path.{◌≡◌, sym, ap, ◌∙◌}
use mathlib.Core.Bool.{true}
use mathlib.Core.List.{List, ◌∷◌}
use Prim.Native.Nat.{ℕ, ◌-◌, ◌≤◌}
use native.Mathlib.Omega.{arith}
use lib.ListN.{length, take, drop}
use Rattle.base.specs.Bytes.{AllBelow, Bytes}
use Rattle.base.proofs.Tests.{pick_both}
use Rattle.base.proofs.Lists.{below_take, below_drop}
use Rattle.identity.specs.Identity.{Identity}
use Rattle.hex_pairs.specs.Hex.{capitals}
use Rattle.hex_pairs.proofs.RoundTrip.{bytes_below}
use Rattle.modbus.specs.Request.{request_of}
use Rattle.modbus.specs.Answer.{unit_of}
use Rattle.modbus.specs.declared.replies.Answer.{Answer}
use Rattle.modbus.proofs.Units as units
use Rattle.ascii.specs.Ascii.{bytes_in, formed, ascii_of, address_among, unit_among}
use Rattle.ascii.proofs.Message.{formed_in_capitals, bytes_in_capitals}
use Rattle.ascii.proofs.RoundTrip as ascii
use Rattle.master_request.specs.declared.Ask.{Ask}
use Rattle.master_request.specs.Ask.{sayable, request_unit}
use Rattle.master_request.specs.Said as said
use Rattle.master_request.proofs.AsSaid.{said_read, said_some, said_most, said_below}
use Rattle.master_reply.specs.declared.Heard.{Heard}
use Rattle.master_reply.specs.declared.Reply.{Reply}
use Rattle.master_reply.specs.Reply.{reply_number, registers_of, heard, heard_of}
use Rattle.master_reply.specs.Told.{address_of, reply_unit, Within, IsReply, InWidth, IsMessage, reply_to, words_told, IsAnswer}
use Rattle.master_reply.proofs.Answered.{answer_heard, reply_heard}
use Rattle.master_reply.proofs.Only.{heard_only}
use Rattle.master_reply.proofs.Sizes.{reply_some, reply_most, reply_below}
use Rattle.master_ascii.specs.Heard.{ascii_heard}

-- ---- the card reads what was asked
module _ (a : ℕ) (ask : Ask) (s : List ℕ) (e : sayable a ask (length s) ≡ true) (widths : said.InWidth ask s) where
  below : Bytes (a ∷ request_unit ask s)
  below = said_below a ask s e widths

  pub asked_formed : formed (ascii_of a (request_unit ask s)) ≡ true
  asked_formed = ascii.own_formed a (request_unit ask s) below (said_some ask s) (omega (arith, said_most a ask s e))

  pub asked_address : address_among (bytes_in (ascii_of a (request_unit ask s))) ≡ a
  asked_address = ascii.own_address a (request_unit ask s) below

  pub asked_request : request_of (unit_among (bytes_in (ascii_of a (request_unit ask s)))) ≡ said.request_said ask s
  asked_request = ap request_of (ascii.own_unit a (request_unit ask s) below) ∙ said_read a ask s e

-- ---- the master reads what was answered
made : (a : ℕ) (u : List ℕ) → Bytes (a ∷ u) → 1 ≤ length u → length u ≤ 253 → ascii_heard (ascii_of a u) ≡ heard_of a u
unfolding ascii_heard
made a u below l h = rw (ascii.own_formed a u below l h, ascii.own_address a u below, ascii.own_unit a u below)

-- in either letters
pub heard_in_capitals : (m : List ℕ) → ascii_heard (capitals m) ≡ ascii_heard m
unfolding ascii_heard
heard_in_capitals m = rw (formed_in_capitals m, bytes_in_capitals m)

pub answer_back : (i : Identity) (a : ℕ) (x : Answer) → Bytes i → Within 1 247 a → IsAnswer x → units.InWidth x → ascii_heard (ascii_of a (unit_of i x)) ≡ heard (reply_to a x) (words_told x)
unfolding AllBelow
answer_back i a x b h k w =
    made a (unit_of i x) (omega (arith, h.1), units.unit_below i x b w) (units.unit_some i x) (omega (arith, units.unit_short i x)) ∙ answer_heard i a x h k

pub reply_back : (r : Option Reply) (ws : List ℕ) → IsReply r → length ws ≡ registers_of r → InWidth r ws → (m : List ℕ) → capitals m ≡ ascii_of (address_of r) (reply_unit r ws)
    → ascii_heard m ≡ heard r ws
reply_back r ws h e w m is =
    sym (heard_in_capitals m) ∙ ap ascii_heard is ∙ made (address_of r) (reply_unit r ws) (reply_below r ws h e w) (reply_some r ws h) (omega (arith, reply_most r ws h e)) ∙ reply_heard r ws h e

-- ---- "Else 14, and only then"
abbrev MessageOr14 : List ℕ → Heard → Type 0
MessageOr14 m h = reply_number h.reply ≡ 0 → IsMessage ascii_of (capitals m) h

unit_below : (m : List ℕ) → Bytes (unit_among (bytes_in m))
unfolding unit_among bytes_in
unit_below m = below_drop 256 1 (take (length (bytes_in m) - 1) (bytes_in m)) (below_take 256 (length (bytes_in m) - 1) (bytes_in m) (bytes_below (drop 1 m)))

pub reply_only : (m : List ℕ) → reply_number (ascii_heard m).reply ≡ 0 → IsMessage ascii_of (capitals m) (ascii_heard m)
unfolding ascii_heard
reply_only m =
    pick_both (MessageOr14 m) (formed m) (λ e. heard_only ascii_of (address_among (bytes_in m)) (unit_among (bytes_in m)) (capitals m) (unit_below m) (ascii.formed_only m e)) (λ _ z. absurd (omega arith))
