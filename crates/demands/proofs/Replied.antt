-- What the card replies over Modbus is one of the answers that a master reads, and is heard as what was answered. Assumes nothing.
use Rattle.std.proofs.Common.{Option, Some, None}
use mathlib.Core.Path.{◌≡◌, refl, sym, ap, subst, ◌∙◌}
use mathlib.Core.Logic.{inl, inr}
use mathlib.Core.Bool.{Bool, true, false}
use mathlib.Core.List.{List, [], ◌∷◌}
use Prim.Native.Nat.{ℕ, ◌-◌, ◌/◌, ◌%◌}
use native.Mathlib.Omega.{arith}
use borrow.Author.Tests.{le-ltb}
use lib.Dec.{eqb}
use lib.ListN.{length, get_or}
use Rattle.base.specs.Buffers.{rtu_least}
use Rattle.base.specs.Choice.{pick}
use Rattle.base.specs.Bytes.{Bytes, same}
use Rattle.base.proofs.Lists.{below_drop, below_take}
use Rattle.base.proofs.Tests.{pick_both}
use Rattle.hex_pairs.specs.Hex.{capitals}
use Rattle.table.specs.Table.{line_at}
use Rattle.table.specs.declared.labels.Row.{Row}
use Rattle.table.specs.declared.labels.Register.{Register}
use Rattle.identity.specs.Identity as Identities
use Rattle.identity.specs.declared.Part.{Part}
use Rattle.port.specs.Port.{Numbers}
use Rattle.drive.specs.Plant.{Plant, station}
use Rattle.answers.specs.declared.Answer.{Answer}
use Rattle.answers.specs.declared.Answer.TheVariants as Answers
use Rattle.answers.specs.declared.Refusal.{Refusal}
use Rattle.answers.specs.declared.Refusal.TheVariants as Refusals
use Rattle.answers.specs.Answer.{refusal_number, answer_number}
use Rattle.card.specs.State.{protocol_of}
use Rattle.card.specs.declared.state.Card.{Card}
use Rattle.card.specs.declared.outcome.Outcome.TheVariants as Outcomes
use Rattle.modbus.specs.Request.{request_of}
use Rattle.modbus.specs.Answer.{unit_of}
use Rattle.modbus.specs.declared.requests.Request.{Request}
use Rattle.modbus.specs.declared.requests.Request.TheVariants.{Read, One, Many, Identify, Serial, Malformed, Unknown}
use Rattle.modbus.specs.declared.replies.Answer as Units
use Rattle.modbus.specs.declared.replies.Answer.TheVariants.{Word, Long, Identity, Exception}
use Rattle.modbus_service.specs.Serve.{to_all, served}
use Rattle.modbus_service.specs.Reply.{exception_of, registers_told, head_of, replied_by, replied, exchanged, sent_by}
use Rattle.modbus_service.specs.Reply as Said
use Rattle.modbus.proofs.Units.{InWidth}
use Rattle.rtu.specs.Rtu.{frame_holds, address_in, unit_in, rtu_of}
use Rattle.rtu.proofs.Replies.{rtu_length}
use Rattle.ascii.specs.Ascii.{text_of, bytes_in, formed, ascii_of, unit_among}
use Rattle.ascii_scan.proofs.Parsed.{decoded_below}
use Rattle.modbus_service.proofs.Replies.{ReplyIn, reply_in, served_in}
use Rattle.modbus_service.proofs.Fitting.{Made, made, Fits, served_fits, from_us}
use Rattle.turn.specs.Turn.{Received}
use Rattle.rtu_port.specs.Receive as Rtu
use Rattle.ascii_port.specs.Receive as Ascii
use Rattle.receive.specs.Receive.{received}
use Rattle.receive.proofs.Laws.{by_rtu, enough_rtu}
use Rattle.master_reply.specs.Reply.{reply_number, heard}
use Rattle.master_reply.specs.Told.{Within, IsAnswer, reply_to, words_told}
use Rattle.master_reply.specs.declared.Heard.{Heard}
use Rattle.master_reply.specs.declared.Reply.TheVariants as Replies
use Rattle.master_rtu.specs.Heard.{rtu_heard}
use Rattle.master_rtu.proofs.RoundTrip as Frames
use Rattle.master_ascii.specs.Heard.{ascii_heard}
use Rattle.master_ascii.proofs.RoundTrip as Texts
use Rattle.demands.specs.Calls.{LongEnough, modbus_ascii}
use Rattle.demands.specs.Kept.{Sound}
use Rattle.demands.specs.Demand2.{exception_at, function_in, modbus_back, Ears, rtu, ascii, AnswerHeard, AnswersFirst}
use Rattle.demands.proofs.OneCall.{ascii_takes}
use Rattle.demands.proofs.Ears.{one_answer, bad_not, told_not_1, refused_not_1, unanswered, answered, answered_by}

-- ---- so what is replied is one of the answers
abbrev ReplyIs : Option Units.Answer → Type 0
ReplyIs None = Unit {0}
ReplyIs (Some x) = IsAnswer x

code : (x : Refusal) → Within 1 4 (exception_of x)
code Refusals.NoRow = (omega arith, omega arith)
code Refusals.ReadOnly = (omega arith, omega arith)
code Refusals.NotAllowed = (omega arith, omega arith)
code Refusals.FlagStands = (omega arith, omega arith)
code Refusals.Running = (omega arith, omega arith)
code Refusals.NotPermitted = (omega arith, omega arith)
code Refusals.Malformed = (omega arith, omega arith)
code Refusals.NoFunction = (omega arith, omega arith)

registers : (f : ℕ) (row : Row) (w : ℕ) → Within 3 4 f → IsAnswer (registers_told f row w)
unfolding registers_told
registers f row w h = pick_both IsAnswer (eqb (line_at row.0).registers 2) (λ _. h) (λ _. h)

answered_is : (q : Request) (x : Answer) → Made q → Fits q x → ReplyIs (Said.answered (head_of q) x)
answered_is q Answers.NotOurs m h = tt
answered_is q (Answers.Refused refusal) m h = code refusal
answered_is (Read f r n) (Answers.Told row w) m h = registers f row w m
answered_is (One r w) (Answers.Written change) m h = inl refl
answered_is (Many r n s) (Answers.Written change) m h = inr (refl, m)
answered_is (Identify code object) (Answers.Identified part) m h = tt
answered_is Serial (Answers.Identified part) m h = tt
answered_is (Read f r n) (Answers.Written change) m h = absurd h
answered_is (Read f r n) (Answers.Identified part) m h = absurd h
answered_is (One r w) (Answers.Identified part) m h = absurd h
answered_is (Many r n s) (Answers.Identified part) m h = absurd h
answered_is (Identify code object) (Answers.Told row v) m h = absurd h
answered_is (Identify code object) (Answers.Written change) m h = absurd h
answered_is Serial (Answers.Told row v) m h = absurd h
answered_is Serial (Answers.Written change) m h = absurd h
answered_is (Malformed f) (Answers.Identified part) m h = absurd h
answered_is (Unknown f) (Answers.Identified part) m h = absurd h
answered_is (One r w) (Answers.Told row v) m h = absurd h
answered_is (Many r n s) (Answers.Told row v) m h = absurd h
answered_is (Malformed f) (Answers.Told row v) m h = absurd h
answered_is (Malformed f) (Answers.Written change) m h = absurd h
answered_is (Unknown f) (Answers.Told row v) m h = absurd h
answered_is (Unknown f) (Answers.Written change) m h = absurd h

module _ (p : Plant) (q : Numbers) (a : ℕ) (u : List ℕ) where
  reply_is : ReplyIs (exchanged p q a u).reply
  unfolding exchanged replied replied_by
  reply_is = pick_both ReplyIs (to_all a) (λ _. tt) (λ _. answered_is (request_of u) (served p q a u).answer (made u) (served_fits p q a u))

  answers : (x : Units.Answer) → (exchanged p q a u).reply ≡ Some x → IsAnswer x
  answers x e = subst ReplyIs e reply_is

  -- from our own address, which is 1 to 247
  ours : (x : Units.Answer) → Within 1 247 (station p) → (exchanged p q a u).reply ≡ Some x → Within 1 247 a
  ours x h e = let s : a ≡ station p = from_us p q a u x e in (omega (arith, s, h.0), omega (arith, s, h.1))

-- with its numbers in their widths, where the unit came as a message's bytes
unit_bytes : (m : List ℕ) → Bytes (unit_among (bytes_in m))
unfolding unit_among
unit_bytes m = below_drop 256 1 _ (below_take 256 (length (bytes_in m) - 1) (bytes_in m) (decoded_below m))

widths : (p : Plant) (q : Numbers) (a : ℕ) (m : List ℕ) (x : Units.Answer) → (exchanged p q a (unit_among (bytes_in m))).reply ≡ Some x → InWidth x
unfolding exchanged
widths p q a m x e = subst ReplyIn e (reply_in a (unit_among (bytes_in m)) _ (unit_bytes m) (served_in p q a (unit_among (bytes_in m)) (unit_bytes m)))

-- ---- what is heard of the reply's unit is what is to be heard of the answer
abbrev Back : ℕ → Request → Answer → Units.Answer → Type 0
Back a r x y = heard (reply_to a y) (words_told y) ≡ modbus_back a r x

registers_back : (a f : ℕ) (first : Register) (n : ℕ) (row : Row) (w : ℕ) → Back a (Read f first n) (Answers.Told row w) (registers_told f row w)
unfolding registers_told
registers_back a f first n row w = go (eqb (line_at row.0).registers 2)
  where
    go : (t : Bool)
        → let y : Units.Answer = pick t (Long f (w % 0x100000000)) (Word f (w % 0x10000)) in
        let ws : List ℕ = pick t (w % 0x100000000 % 0x10000 ∷ w % 0x100000000 / 0x10000 ∷ []) (w % 0x10000 ∷ []) in
        heard (reply_to a y) (words_told y) ≡ heard (Some (Replies.Data a f (length ws))) ws
    go true = refl
    go false = refl

refused_back : (a : ℕ) (r : Request) (x : Refusal) → Back a r (Answers.Refused x) (Exception (head_of r).function (exception_of x))
refused_back a r x = rw (function_same r, exception_same x)
  where
    function_same : (r : Request) → (head_of r).function ≡ function_in r
    function_same (Read f first n) = refl
    function_same (One register w) = refl
    function_same (Many first n place) = refl
    function_same (Identify code object) = refl
    function_same Serial = refl
    function_same (Malformed f) = refl
    function_same (Unknown f) = refl

    exception_same : (x : Refusal) → exception_of x ≡ exception_at (refusal_number x)
    exception_same Refusals.NoRow = refl
    exception_same Refusals.ReadOnly = refl
    exception_same Refusals.NotAllowed = refl
    exception_same Refusals.FlagStands = refl
    exception_same Refusals.Running = refl
    exception_same Refusals.NotPermitted = refl
    exception_same Refusals.Malformed = refl
    exception_same Refusals.NoFunction = refl

-- the lines: a master's reader that reads what its line makes of an address and of each unit that the card answers
module _ (made_of : ℕ → List ℕ → List ℕ) (there : (b : ℕ) (v : List ℕ) → made_of b v ≡ [] → ⊥) (i : Identities.Identity) (E : Ears Heard) (m : List ℕ) (a : ℕ) (u : List ℕ)
    (silence : reply_number (E.hear []).reply ≡ 14) (all : E.to_all m ≡ eqb a 0) (back : (x : Answer) → E.back m x ≡ modbus_back a (request_of u) x) where
  abbrev number : Heard → ℕ
  number h = reply_number h.reply

  module _ (one : eqb a 0 ≡ false) where
    -- a unit that the card answers is heard as the answer
    by_unit : (x : Answer) (y : Units.Answer) → (x ≡ Answers.NotOurs → ⊥) → number (modbus_back a (request_of u) x) ≡ 0 → E.hear (made_of a (unit_of i y)) ≡ heard (reply_to a y) (words_told y)
        → Back a (request_of u) x y → AnswerHeard E m x (made_of a (unit_of i y))
    by_unit x y ours zero e b = answered E m x (made_of a (unit_of i y)) number silence (ap number (back x) ∙ zero) (all ∙ one) ours (e ∙ b ∙ sym (back x))

    -- a part of the identity is told, and the master hears no reply of those that it knows
    by_part : (part : Part) → E.hear (made_of a (unit_of i (Identity part))) ≡ heard None [] → AnswerHeard E m (Answers.Identified part) (made_of a (unit_of i (Identity part)))
    by_part part e =
        answered_by E m (Answers.Identified part) (made_of a (unit_of i (Identity part))) (there a _) (all ∙ one) (λ k. told_not_1 (ap answer_number k)) (e ∙ sym (back (Answers.Identified part)))

    by_request : (r : Request) → request_of u ≡ r → (x : Answer) → Fits r x → ((y : Units.Answer) → Said.answered (head_of r) x ≡ Some y → E.hear (made_of a (unit_of i y)) ≡ heard (reply_to a y) (words_told y))
        → AnswerHeard E m x (sent_by made_of i a (Said.answered (head_of r) x))
    by_request r k Answers.NotOurs fits hears = unanswered E m Answers.NotOurs [] (inr refl) refl
    by_request r k (Answers.Refused x) fits hears =
        by_unit (Answers.Refused x) _ (λ e. refused_not_1 x (ap answer_number e)) refl (hears _ refl) (rw k (refused_back a r x))
    by_request (Read f first n) k (Answers.Told row w) fits hears =
        by_unit (Answers.Told row w) _ (λ e. told_not_1 (ap answer_number e)) refl (hears _ refl) (rw k (registers_back a f first n row w))
    by_request (One register w) k (Answers.Written change) fits hears =
        by_unit (Answers.Written change) _ (λ e. told_not_1 (ap answer_number e)) (rw k) (hears _ refl) (rw k)
    by_request (Many first n place) k (Answers.Written change) fits hears =
        by_unit (Answers.Written change) _ (λ e. told_not_1 (ap answer_number e)) (rw k) (hears _ refl) (rw k)
    by_request (Identify code object) k (Answers.Identified part) fits hears = by_part part (hears _ refl)
    by_request Serial k (Answers.Identified part) fits hears = by_part part (hears _ refl)
    by_request (Read f first n) k (Answers.Written change) fits hears = absurd fits
    by_request (Read f first n) k (Answers.Identified part) fits hears = absurd fits
    by_request (One register w) k (Answers.Identified part) fits hears = absurd fits
    by_request (Many first n place) k (Answers.Identified part) fits hears = absurd fits
    by_request (Identify code object) k (Answers.Told row v) fits hears = absurd fits
    by_request (Identify code object) k (Answers.Written change) fits hears = absurd fits
    by_request Serial k (Answers.Told row v) fits hears = absurd fits
    by_request Serial k (Answers.Written change) fits hears = absurd fits
    by_request (Malformed f) k (Answers.Identified part) fits hears = absurd fits
    by_request (Unknown f) k (Answers.Identified part) fits hears = absurd fits
    by_request (One register w) k (Answers.Told row v) fits hears = absurd fits
    by_request (Many first n place) k (Answers.Told row v) fits hears = absurd fits
    by_request (Malformed f) k (Answers.Told row v) fits hears = absurd fits
    by_request (Malformed f) k (Answers.Written change) fits hears = absurd fits
    by_request (Unknown f) k (Answers.Told row v) fits hears = absurd fits
    by_request (Unknown f) k (Answers.Written change) fits hears = absurd fits

  -- a unit's reply, on any plant
  pub unit_heard : (p : Plant) (q : Numbers) → ((y : Units.Answer) → (exchanged p q a u).reply ≡ Some y → E.hear (made_of a (unit_of i y)) ≡ heard (reply_to a y) (words_told y))
      → AnswerHeard E m (served p q a u).answer (sent_by made_of i a (exchanged p q a u).reply)
  unfolding exchanged replied replied_by
  unit_heard p q hears = go (eqb a 0) refl hears
    where
      x : Answer
      x = (served p q a u).answer

      go : (t : Bool) → eqb a 0 ≡ t
          → ((y : Units.Answer) → pick t None (Said.answered (head_of (request_of u)) (served p q a u).answer) ≡ Some y → E.hear (made_of a (unit_of i y)) ≡ heard (reply_to a y) (words_told y))
          → AnswerHeard E m (served p q a u).answer (sent_by made_of i a (pick t None (Said.answered (head_of (request_of u)) (served p q a u).answer)))
      go true e hears = unanswered E m (served p q a u).answer [] (inl (all ∙ e)) refl
      go false e hears = by_request e (request_of u) refl (served p q a u).answer (served_fits p q a u) hears

-- ---- a call's reply
rtu_silence : reply_number (rtu_heard []).reply ≡ 14
unfolding rtu_heard frame_holds
rtu_silence = refl

ascii_silence : reply_number (ascii_heard []).reply ≡ 14
unfolding ascii_heard formed text_of same capitals
ascii_silence = refl

-- a message is some bytes
rtu_there : (a : ℕ) (u : List ℕ) → rtu_of a u ≡ [] → ⊥
rtu_there a u e = let z = ap length e in omega (arith, z, rtu_length a u)

ascii_there : (a : ℕ) (u : List ℕ) → ascii_of a u ≡ [] → ⊥
unfolding ascii_of text_of
ascii_there a u e = let z = ap length e in omega (arith, z)

pub rtu_answers : (c : Card) → Sound c → protocol_of c ≡ 1 → (f : List ℕ) (room : ℕ) → LongEnough c room → (x : Answer)
    → (received c f room).outcome ≡ Outcomes.Served x → AnswerHeard rtu f x (received c f room).reply
unfolding Rtu.rtu_received exchanged
rtu_answers c sound p f room h x e = go (frame_holds f) (ap (λ (r : Received). r.outcome) is) (ap (λ (r : Received). r.reply) is)
  where
    is : received c f room ≡ pick (frame_holds f) (Rtu.taken c f) (Rtu.spoilt c (length f))
    is = by_rtu c f room p ∙ simp (le-ltb room rtu_least (enough_rtu c room p h))

    back : (y : Units.Answer) → (Rtu.exchange_on c f).reply ≡ Some y → rtu_heard (rtu_of (address_in f) (unit_of c.identity y)) ≡ heard (reply_to (address_in f) y) (words_told y)
    back y k =
        Frames.answer_back c.identity (address_in f) y (ours c.plant c.port.numbers (address_in f) (unit_in f) y sound.plant.station k)
        (answers c.plant c.port.numbers (address_in f) (unit_in f) y k)

    go : (t : Bool) → (received c f room).outcome ≡ (pick t (Rtu.taken c f) (Rtu.spoilt c (length f))).outcome
        → (received c f room).reply ≡ (pick t (Rtu.taken c f) (Rtu.spoilt c (length f))).reply → AnswerHeard rtu f x (received c f room).reply
    go true o r =
        let s : x ≡ (Rtu.exchange_on c f).served.answer = one_answer x _ _ e o in
        subst (AnswerHeard rtu f x) (sym r)
        (subst (λ (z : Answer). AnswerHeard rtu f z (sent_by rtu_of c.identity (address_in f) (Rtu.exchange_on c f).reply)) (sym s)
        (unit_heard rtu_of rtu_there c.identity rtu f (address_in f) (unit_in f) rtu_silence refl (λ z. refl) c.plant c.port.numbers back))
    go false o r = absurd (bad_not x (sym e ∙ o))

pub ascii_answers : AnswersFirst modbus_ascii ascii
unfolding exchanged
ascii_answers c sound p bytes room h t first x e =
    let k = ascii_takes c sound p bytes room h t first in
    let m : List ℕ = t.bytes in
    let s : x ≡ (Ascii.exchange_on c (bytes_in m)).served.answer = one_answer x _ _ e k.outcome in
    subst (AnswerHeard ascii m x) (sym k.reply)
    (subst (λ (z : Answer). AnswerHeard ascii m z (Ascii.reply_on c (bytes_in m))) (sym s)
    (unit_heard ascii_of ascii_there c.identity ascii m (get_or (bytes_in m) 0 0) (unit_among (bytes_in m)) ascii_silence refl (λ z. refl) c.plant c.port.numbers
    (λ y q. Texts.answer_back c.identity (get_or (bytes_in m) 0 0) y sound.identity.1 (ours c.plant c.port.numbers (get_or (bytes_in m) 0 0) (unit_among (bytes_in m)) y sound.plant.station q)
    (answers c.plant c.port.numbers (get_or (bytes_in m) 0 0) (unit_among (bytes_in m)) y q) (widths c.plant c.port.numbers (get_or (bytes_in m) 0 0) m y q))))
