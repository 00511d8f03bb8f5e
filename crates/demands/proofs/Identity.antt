-- A master that asks who the card is, over RTU and over ASCII, is told the objects from the first to the last, or the serial number. Assumes nothing.
use Rattle.std.proofs.Common.{Option, Some}
use mathlib.Core.Path.{◌≡◌, refl, ap, ap₂, ◌∙◌, subst}
use mathlib.Core.Bool.{Bool, true, false}
use mathlib.Core.List.{List, [], ◌∷◌}
use Prim.Native.Nat.{ℕ, suc, ◌≤◌, ◌<◌}
use native.Mathlib.Omega.{arith}
use borrow.Author.Tests.{le-ltb, lt-ltb, le-leb, lt-leb, eq-eqb, ne_eqb, eqb-true, eqb-false, leb-true, leb-false}
use lib.Dec.{eqb, leb}
use lib.ListN.{length, drop, length-drop}
use lib.Seq.{take_all}
use Rattle.base.specs.Buffers.{rtu_least}
use Rattle.base.specs.Bytes.{AllBelow, Bytes}
use Rattle.base.proofs.Tests.{both_false}
use Rattle.identity.specs.Identity.{Identity, Object, object, objects, revision, model, serial, chosen, up_to, objects_asked, listed, objects_unit, part_unit}
use Rattle.identity.specs.declared.Part.{Part}
use Rattle.identity.specs.declared.Part.TheVariants as Parts
use Rattle.port.specs.Port.{Numbers}
use Rattle.drive.specs.Plant.{Plant, station}
use Rattle.answers.specs.declared.Answer.TheVariants as Answered
use Rattle.answers.specs.Answer.{answer_number}
use Rattle.card.specs.Outcome.{outcome_number}
use Rattle.card.specs.State.{protocol_of}
use Rattle.card.specs.declared.state.Card.{Card}
use Rattle.modbus.specs.Request.{request_of, identifying, numbering}
use Rattle.modbus.specs.declared.requests.Request.TheVariants.{Identify, Serial}
use Rattle.modbus.specs.declared.replies.Answer.TheVariants as Units
use Rattle.modbus.specs.Answer.{unit_of}
use Rattle.modbus_service.specs.Serve as Modbus
use Rattle.modbus_service.specs.Reply.{Exchanged, replied_by, replied, exchanged}
use Rattle.rtu.specs.Rtu.{address_in, rtu_of}
use Rattle.rtu.proofs.RoundTrip as Frame
use Rattle.ascii.specs.Ascii.{bytes_in, ascii_of}
use Rattle.ascii.proofs.RoundTrip as Message
use Rattle.turn.specs.Turn.{Received}
use Rattle.rtu_port.specs.Receive as Rtu
use Rattle.ascii_port.specs.Receive as Ascii
use Rattle.receive.specs.Receive.{received}
use Rattle.receive.proofs.Laws.{by_rtu, enough_rtu}
use Rattle.demands.specs.Calls.{LongEnough, modbus_ascii, besides}
use Rattle.demands.specs.Kept.{Sound}
use Rattle.demands.specs.Identity.{text, Objects, none, next, Range, basic, basic_outside, regular, regular_outside, one, asks_objects, TellsObjects, asks_serial, TellsSerial, Asked, WhoAreYou}
use Rattle.demands.proofs.Streamed.{ascii_streamed}
use Rattle.demands.proofs.Asking.{whole_outcome, whole_reply}
use Rattle.modbus.specs.declared.replies.Answer as Replied

-- ---- the objects
-- one after the other, from number k up to 06h
data Run (i : Identity) : ℕ → List Object → Type 0 where
  end : Run i 7 []
  then : {k : ℕ} {os : List Object} → Run i (suc k) os → Run i k (object k (text i k) ∷ os)

all : (i : Identity) → Run i 0 (objects i)
unfolding revision model
all i = then (then (then (then (then (then (then end))))))

module _ (i : Identity) (first last : ℕ) (small : last ≤ 6) where
  -- those above the last are not told
  none_above : (k : ℕ) (os : List Object) → Run i k os → last < k → chosen first last os ≡ []
  unfolding chosen
  none_above k os end l = refl
  none_above k os (then {os = rest} r) l = simp (lt-leb k last l, both_false (leb first k)) (none_above (suc k) rest r (omega arith))

  -- from the first on they are told up to the last
  from : (k : ℕ) (os : List Object) → Run i k os → first ≤ k → Objects i last k (length (chosen first last os)) (listed (chosen first last os))
  unfolding chosen listed
  from k os end h = none {first = 7} (omega arith)
  from k os (then {os = rest} r) h = go (leb k last) refl (from (suc k) rest r (omega arith))
    where
      go : (t : Bool) → leb k last ≡ t → Objects i last (suc k) (length (chosen first last rest)) (listed (chosen first last rest))
          → Objects i last k (length (chosen first last (object k (text i k) ∷ rest))) (listed (chosen first last (object k (text i k) ∷ rest)))
      go true e more = simp (le-leb first k h, e) (next (leb-true k last e) more)
      go false e more = rw (none_above k (object k (text i k) ∷ rest) (then r) (leb-false k last e)) (none (leb-false k last e))

  -- those below the first are passed by
  skip : (k : ℕ) (os : List Object) → Run i k os → k ≤ first → first ≤ 7 → Objects i last first (length (chosen first last os)) (listed (chosen first last os))
  unfolding chosen listed
  skip k os end h g = none {first = first} (omega arith)
  skip k os (then {os = rest} r) h g = go (eqb k first) refl (λ l. skip (suc k) rest r l g)
    where
      go : (t : Bool) → eqb k first ≡ t → (suc k ≤ first → Objects i last first (length (chosen first last rest)) (listed (chosen first last rest)))
          → Objects i last first (length (chosen first last (object k (text i k) ∷ rest))) (listed (chosen first last (object k (text i k) ∷ rest)))
      go true e later =
          let same : k ≡ first = eqb-true k first e in
          subst (λ (n : ℕ). Objects i last n (length (chosen first last (object k (text i k) ∷ rest))) (listed (chosen first last (object k (text i k) ∷ rest)))) same
          (from k (object k (text i k) ∷ rest) (then r) (omega (arith, same)))
      go false e later = let other : k ≡ first → ⊥ = eqb-false k first e in simp (lt-leb first k (omega arith)) (later (omega arith))

  pub tells_objects : (code : ℕ) → first ≤ 7 → TellsObjects i code first last (part_unit i (Parts.Objects code first last))
  unfolding part_unit objects_unit
  tells_objects code g =
      record { count = length (chosen first last (objects i)); bytes = listed (chosen first last (objects i)); objects = skip 0 (objects i) (all i) (omega arith) g; whole = refl }

-- the serial number is the last 16 of 41 bytes
tells_serial : (i : Identity) → length i ≡ 41 → TellsSerial i (part_unit i Parts.Serial)
unfolding part_unit serial
tells_serial i h =
    let n : length (drop 25 i) ≡ 16 = omega (arith, length-drop 25 i) in
    record { bytes = drop 25 i; sixteen = n; last_of_all = refl; whole = ap (λ (s : List ℕ). 0x11 ∷ 0x10 ∷ s) (take_all 16 (drop 25 i) (omega (arith, n))) }

-- ---- what is asked
-- the objects of a range are few, and there
in_range : (code object first last : ℕ) → Range code object first last → (first ≤ 7) × (last ≤ 6) × (code < 256)
in_range code object first last (basic h) = (omega arith, omega arith, omega arith)
in_range code object first last (basic_outside h) = (omega arith, omega arith, omega arith)
in_range code object first last (regular h) = (omega arith, omega arith, omega arith)
in_range code object first last (regular_outside h) = (omega arith, omega arith, omega arith)
in_range code object first last (one h) = (omega arith, omega arith, omega arith)

asked_range : (code object first last : ℕ) → Range code object first last → objects_asked code object ≡ Some (Parts.Objects code first last)
unfolding objects_asked up_to
asked_range code object first last (basic h) = simp (le-ltb 2 object h)
asked_range code object first last (basic_outside h) = simp (lt-ltb 2 object h)
asked_range code object first last (regular h) = simp (le-ltb 6 object h)
asked_range code object first last (regular_outside h) = simp (lt-ltb 6 object h)
asked_range code object first last (one h) = simp (le-ltb 6 object h)

objects_asked_lem : (code object first last : ℕ) → Range code object first last → request_of (asks_objects code object) ≡ Identify code object
unfolding request_of identifying
objects_asked_lem code object first last (basic h) = refl
objects_asked_lem code object first last (basic_outside h) = refl
objects_asked_lem code object first last (regular h) = refl
objects_asked_lem code object first last (regular_outside h) = refl
objects_asked_lem code object first last (one h) = refl

-- ---- what is answered, at our own address
module _ (c : Card) (sound : Sound c) where
  abbrev p : Plant
  p = c.plant

  abbrev q : Numbers
  q = c.port.numbers

  abbrev a : ℕ
  a = station p

  abbrev Says : List ℕ → Part → Type 0
  Says u part = (Modbus.served p q a u).answer ≡ Answered.Identified part

  not_all : eqb a 0 ≡ false
  not_all = ne_eqb a 0 (λ z. absurd (omega (arith, z, sound.plant.station.0)))

  to_us : eqb a a ≡ true
  to_us = eq-eqb a a refl

  says_objects : (code object first last : ℕ) → Range code object first last → Says (asks_objects code object) (Parts.Objects code first last)
  unfolding Modbus.served Modbus.task_of Modbus.done Modbus.reaches_us
  says_objects code object first last r = rw (objects_asked_lem code object first last r, asked_range code object first last r, not_all, to_us)

  says_serial : Says asks_serial Parts.Serial
  unfolding Modbus.served Modbus.task_of Modbus.done Modbus.reaches_us request_of numbering
  says_serial = rw (not_all, to_us)

  -- the reply's unit is that part
  replies : (u : List ℕ) (part : Part) → Says u part → (exchanged p q a u).reply ≡ Some (Units.Identity part)
  unfolding exchanged replied replied_by
  replies u part e = rw (e, not_all)

  -- ---- over RTU
  module _ (speaks : protocol_of c ≡ 1) (room : ℕ) (enough : LongEnough c room) (u : List ℕ) (some : 1 ≤ length u) (most : length u ≤ 253) (part : Part) (e : Says u part) where
    abbrev f : List ℕ
    f = rtu_of a u

    taken : received (besides c) f room ≡ Rtu.taken (besides c) f
    unfolding Rtu.rtu_received
    taken = by_rtu (besides c) f room speaks ∙ simp (le-ltb room rtu_least (enough_rtu c room speaks enough), Frame.own_frame a u some most)

    exchange : Rtu.exchange_on (besides c) f ≡ exchanged p q a u
    exchange = ap₂ (exchanged p q) (Frame.own_address a u) (Frame.own_unit a u)

    pub rtu_done : outcome_number (received (besides c) f room).outcome ≡ 0
    unfolding exchanged
    rtu_done =
        ap (λ (r : Received). outcome_number r.outcome) taken ∙ ap (λ (x : Exchanged). answer_number x.served.answer) exchange ∙ ap answer_number e

    pub rtu_reply : (received (besides c) f room).reply ≡ rtu_of a (part_unit c.identity part)
    unfolding unit_of
    rtu_reply =
        ap (λ (r : Received). r.reply) taken ∙ ap (λ (x : Exchanged). Rtu.frame_of c.identity (address_in f) x.reply) exchange
        ∙ ap₂ (λ (n : ℕ) (r : Option Replied.Answer). Rtu.frame_of c.identity n r) (Frame.own_address a u) (replies u part e)

  -- ---- over ASCII
  module _ (speaks : protocol_of c ≡ 2) (room : ℕ) (enough : LongEnough c room) (u : List ℕ) (some : 1 ≤ length u) (most : length u ≤ 253) (below : Bytes (a ∷ u)) (part : Part)
      (e : Says u part) where
    abbrev t : List ℕ
    t = ascii_of a u

    spelt : Ascii.exchange_on c (bytes_in t) ≡ exchanged p q a u
    spelt = ap₂ (exchanged p q) (Message.own_address a u below) (Message.own_unit a u below)

    pub ascii_done : outcome_number (received (besides c) t room).outcome ≡ 0
    unfolding exchanged
    ascii_done =
        ap outcome_number (whole_outcome modbus_ascii Ascii.ascii_stream ascii_streamed c speaks t (Message.own_formed a u below some most) room enough)
        ∙ ap (λ (x : Exchanged). answer_number x.served.answer) spelt ∙ ap answer_number e

    pub ascii_reply : (received (besides c) t room).reply ≡ ascii_of a (part_unit c.identity part)
    unfolding unit_of
    ascii_reply =
        whole_reply modbus_ascii Ascii.ascii_stream ascii_streamed c speaks t (Message.own_formed a u below some most) room enough
        ∙ ap₂ (λ (n : ℕ) (x : Exchanged). Ascii.reply_text c.identity n x.reply) (Message.own_address a u below) spelt
        ∙ ap (Ascii.reply_text c.identity a) (replies u part e)

  -- a unit of four bytes, and one of one, behind our address
  four_below : (code object : ℕ) → code < 256 → object < 256 → Bytes (a ∷ asks_objects code object)
  unfolding AllBelow
  four_below code object h k = (omega (arith, sound.plant.station.1), (omega arith, (omega arith, (h, (k, tt)))))

  one_below : Bytes (a ∷ asks_serial)
  unfolding AllBelow
  one_below = (omega (arith, sound.plant.station.1), (omega arith, tt))

-- ---- WHO ARE YOU
-- a message of a unit u over a line of Modbus, where it is answered by a part of the identity: it is done, and the reply tells the part
pub record Tells (made : ℕ → List ℕ → List ℕ) (c : Card) (room : ℕ) (u : List ℕ) (part : Part) : Type 0 where
  pub done : outcome_number (received (besides c) (made (station c.plant) u) room).outcome ≡ 0
  pub reply : (received (besides c) (made (station c.plant) u) room).reply ≡ made (station c.plant) (part_unit c.identity part)

-- so it is over a line on which each such unit tells its part
module _ (protocol : ℕ) (made : ℕ → List ℕ → List ℕ)
    (tells : (c : Card) (sound : Sound c) → protocol_of c ≡ protocol → (room : ℕ) → LongEnough c room → (u : List ℕ) → 1 ≤ length u → length u ≤ 253 → Bytes (station c.plant ∷ u) → (part : Part)
    → Says c sound u part → Tells made c room u part) where
  asked : Asked protocol made
  asked =
      record {
        objects = λ c sound speaks code object first last r small room enough.
            let h = in_range code object first last r in
            let e = tells c sound speaks room enough _ (omega arith) (omega arith) (four_below c sound code object h.2 small) _ (says_objects c sound code object first last r) in
            record { unit = part_unit c.identity (Parts.Objects code first last); told = tells_objects c.identity first last h.1 code h.0; done = e.done; reply = e.reply };
        serial = λ c sound speaks room enough.
            let e = tells c sound speaks room enough _ (omega arith) (omega arith) (one_below c sound) _ (says_serial c sound) in
            record { unit = part_unit c.identity Parts.Serial; told = tells_serial c.identity sound.identity.0; done = e.done; reply = e.reply };
      }

pub who_are_you : WhoAreYou
who_are_you =
    record {
      rtu = asked 1 rtu_of (λ c sound speaks room enough u some most below part e. record {
        done = rtu_done c sound speaks room enough u some most part e;
        reply = rtu_reply c sound speaks room enough u some most part e;
      });
      ascii = asked 2 ascii_of (λ c sound speaks room enough u some most below part e. record {
        done = ascii_done c sound speaks room enough u some most below part e;
        reply = ascii_reply c sound speaks room enough u some most below part e;
      });
    }
