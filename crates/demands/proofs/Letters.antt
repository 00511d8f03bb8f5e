-- Small letters are taken, and capitals are written. Assumes nothing.
use Rattle.std.proofs.Common.{Option, Some, None}
use mathlib.Core.Path.{◌≡◌, refl, sym, ap, subst, ◌∙◌}
use mathlib.Core.List.{List, [], ◌∷◌}
use Prim.Native.Nat.{ℕ}
use native.Mathlib.Omega.{arith}
use lib.Dec.{eqb, ltb}
use lib.ListN.{take, drop}
use Rattle.base.proofs.Tests.{pick_both}
use Rattle.hex_pairs.specs.Hex.{capital_of, capitals, hex_of}
use Rattle.answers.specs.declared.Answer.{Answer}
use Rattle.answers.specs.declared.Answer.TheVariants as Answers
use Rattle.pending.specs.declared.Pending.{Pending}
use Rattle.pending.specs.Held.{held}
use Rattle.pending.specs.Scanning.{scan_from}
use Rattle.nfo_parts.specs.Replies.{digits_of, body_of, reply_of, ack_of, nak_of}
use Rattle.nfo_parts.specs.Parts.{message_of}
use Rattle.nfo_parts.specs.declared.message.Message.{Message}
use Rattle.nfo_parts.proofs.Parsed.{parameter_other}
use Rattle.nfo_parts.proofs.Spelt.{digits_spell, body_capitals}
use Rattle.nfo.proofs.Lawful.{nfo_lawful}
use Rattle.nfo_service.specs.Reply.{adr_in, replied_by, replied}
use Rattle.ascii.specs.Ascii.{bytes_in, ascii_of, address_among}
use Rattle.ascii.proofs.Message.{formed_in_capitals, bytes_in_capitals, text_capitals}
use Rattle.ascii.proofs.Lawful.{ascii_lawful}
use Rattle.identity.specs.Identity.{Identity}
use Rattle.modbus_service.specs.Reply.{sent_by}
use Rattle.card.specs.State.{protocol_of}
use Rattle.card.specs.declared.state.Card.{Card}
use Rattle.turn.specs.Turn.{Received, waiting}
use Rattle.turn.specs.Stream.{Stream, streamed}
use Rattle.nfo_port.specs.Receive.{nfo_stream, nfo_received}
use Rattle.ascii_port.specs.Receive.{exchange_on, ascii_stream, ascii_received}
use Rattle.receive.specs.Receive.{received}
use Rattle.receive.proofs.Laws.{by_nfo, by_ascii}
use Rattle.master_nfo.specs.Requests.{enquiry_of, select_of}
use Rattle.master_nfo.proofs.Heard.{enquiry_spelt, enquiry_asks, enquiry_heard, select_spelt, select_asks, select_heard}
use Rattle.demands.specs.Calls.{nfo_serial, modbus_ascii}
use Rattle.demands.specs.Letters.{TakesSmall, InCapitals, Letters}
use Rattle.demands.proofs.Demand3.{demand_3}
use Rattle.demands.proofs.Taking.{message_read}
use Rattle.modbus.specs.declared.replies.Answer as Units

takes : TakesSmall
takes =
    record {
      enquiry = λ address e number h k p. (
        message_read nfo_serial nfo_lawful demand_3.nfo _ (enquiry_spelt address e number p h),
        enquiry_asks address e number p k ∙ sym (enquiry_heard address e k),
      );
      select = λ address e word number value h k l p v. (
        message_read nfo_serial nfo_lawful demand_3.nfo _ (select_spelt address e word number value p v h),
        select_asks address e word number value p v k l ∙ sym (select_heard address e word k l),
      );
      prefix = λ i m other. sym (parameter_other m i other);
      ascii = λ m e. (message_read modbus_ascii ascii_lawful demand_3.modbus_ascii_lem m (sym (formed_in_capitals m) ∙ e), sym (bytes_in_capitals m));
    }

-- ---- the replies
-- a stream call replies nothing, or what its protocol replies to the message that is held
streamed_each : (S : Stream) (P : List ℕ → Type 0) → P [] → (c : Card) (bytes : List ℕ) (room : ℕ) → ((p : Pending) → P (S.reply c p)) → P (streamed S c bytes room).reply
unfolding waiting
streamed_each S P none c bytes room some =
    pick_both (λ (r : Received). P r.reply) (ltb room S.least) (λ _. none)
    (λ _. pick_both (λ (r : Received). P r.reply) (scan_from S.feeding c.port.pending 0 bytes).taken (λ _. some _) (λ _. none))

-- NFO serial: from after 02 up to and with 03
abbrev BodyInCapitals : List ℕ → Type 0
BodyInCapitals reply = InCapitals (take 11 (drop 2 reply))

no_body : BodyInCapitals []
unfolding capitals
no_body = refl

reply_body : (adr e w : ℕ) → body_of e w ≡ take 11 (drop 2 (reply_of adr e w))
unfolding reply_of body_of digits_of hex_of
reply_body adr e w = refl

by_answer : (adr e : ℕ) (a : Answer) → BodyInCapitals (replied_by adr e a)
unfolding replied_by ack_of nak_of
by_answer adr e (Answers.Told row word) = subst InCapitals (reply_body adr e _) (body_capitals e _)
by_answer adr e (Answers.Written change) = no_body
by_answer adr e (Answers.Identified part) = no_body
by_answer adr e Answers.NotOurs = no_body
by_answer adr e (Answers.Refused refusal) = no_body

by_message : (m : Message) (a : Answer) → BodyInCapitals (replied m a)
unfolding replied
by_message m a = pick_both BodyInCapitals (eqb (adr_in m) 127) (λ _. no_body) (λ _. by_answer (adr_in m) _ a)

serial_reply : (c : Card) → protocol_of c ≡ 0 → (bytes : List ℕ) (room : ℕ) → BodyInCapitals (received c bytes room).reply
unfolding nfo_received
serial_reply c p bytes room =
    subst (λ (r : Received). BodyInCapitals r.reply) (sym (by_nfo c bytes room (λ q. omega (arith, p, q)) (λ q. omega (arith, p, q))))
    (streamed_each nfo_stream BodyInCapitals no_body c bytes room (λ p. by_message (message_of p.bytes) _))

-- Modbus ASCII: all of it
nothing : InCapitals []
unfolding capitals
nothing = refl

made : (address : ℕ) (unit : List ℕ) → InCapitals (ascii_of address unit)
unfolding ascii_of
made address unit = text_capitals _

by_reply : (i : Identity) (address : ℕ) (reply : Option Units.Answer) → InCapitals (sent_by ascii_of i address reply)
by_reply i address None = nothing
by_reply i address (Some answer) = made address _

ascii_reply : (c : Card) → protocol_of c ≡ 2 → (bytes : List ℕ) (room : ℕ) → InCapitals (received c bytes room).reply
unfolding ascii_received
ascii_reply c p bytes room =
    subst (λ (r : Received). InCapitals r.reply) (sym (by_ascii c bytes room p)) (streamed_each ascii_stream InCapitals nothing c bytes room (λ p. by_reply c.identity (address_among (bytes_in (held p))) (exchange_on c (bytes_in (held p))).reply))

-- ---- the requests
enquiry : (address e : ℕ) → InCapitals (take 5 (drop 2 (enquiry_of address e)))
unfolding enquiry_of capitals capital_of digits_of hex_of
enquiry address e = ap (λ (t : List ℕ). 0x45 ∷ t) (digits_spell e)

select_body : (address e w : ℕ) → body_of e w ≡ take 11 (drop 3 (select_of address e w))
unfolding select_of body_of digits_of hex_of
select_body address e w = refl

pub letters : Letters
letters =
    record {
      taken = takes;
      written = record {
        reply = serial_reply;
        ascii_reply = ascii_reply;
        enquiry = enquiry;
        select = λ address e w. subst InCapitals (select_body address e w) (body_capitals e w);
        ascii = λ address ask registers. made address _;
      };
    }
