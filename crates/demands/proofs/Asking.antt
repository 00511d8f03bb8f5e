-- What comes of a message that asks for a row, and of one that writes a row, on a card with nothing pending. Assumes nothing.
use Rattle.std.proofs.Common.{Some}
use mathlib.Core.Path.{◌≡◌, refl, sym, ap, ◌∙◌}
use mathlib.Core.Bool.{true, false}
use mathlib.Core.List.{List, []}
use Prim.Native.Nat.{ℕ, ◌+◌, ◌<◌}
use native.Mathlib.Omega.{arith}
use borrow.Author.Tests.{eq-eqb, ne_eqb}
use lib.Dec.{eqb}
use lib.ListN.{length}
use Rattle.base.proofs.Tests.{either_right}
use Rattle.stream.specs.Reading.{waiting, taking}
use Rattle.stream.proofs.Reading.{empty_viable}
use Rattle.table.specs.Find.{row_of_e, row_of_span}
use Rattle.table.specs.declared.labels.Register.{Register}
use Rattle.port.specs.Port.{Numbers}
use Rattle.drive.specs.Plant.{Plant, si_adr, station}
use Rattle.answers.specs.declared.Answer.{Answer}
use Rattle.answers.specs.declared.Answer.TheVariants as Answers
use Rattle.reading.specs.Read.{told}
use Rattle.service.specs.Serving.{told_served}
use Rattle.pending.specs.Held.{empty, held}
use Rattle.nfo_parts.specs.declared.message.Message.TheVariants.{Enquiry}
use Rattle.nfo_service.specs.Serve as Nfo
use Rattle.modbus.specs.Request.{request_of}
use Rattle.modbus.specs.declared.requests.Request.TheVariants.{Read, One, Many}
use Rattle.modbus_service.specs.Serve as Modbus
use Rattle.modbus_service.specs.Reply.{exchanged}
use Rattle.rtu.specs.Rtu.{unit_in, rtu_of}
use Rattle.ascii.specs.Ascii.{bytes_in, ascii_of, unit_among}
use Rattle.card.specs.State.{protocol_of}
use Rattle.card.specs.declared.state.Card.{Card}
use Rattle.card.specs.declared.outcome.Outcome.TheVariants as Outcomes
use Rattle.turn.specs.Turn.{Received}
use Rattle.turn.specs.Stream.{Stream}
use Rattle.nfo_port.specs.Receive.{nfo_stream}
use Rattle.ascii_port.specs.Receive.{ascii_stream}
use Rattle.receive.specs.Receive.{received}
use Rattle.master_nfo.specs.Requests.{enquirable, enquiry_of}
use Rattle.master_nfo.proofs.Asked.{enquirable_is}
use Rattle.master_nfo.proofs.Heard.{enquiry_formed, enquiry_heard}
use Rattle.master_request.specs.declared.Ask.{Ask}
use Rattle.master_request.specs.declared.Ask.TheVariants as Asked
use Rattle.master_request.specs.Ask.{request_unit}
use Rattle.master_request.specs.Said.{request_said}
use Rattle.master_reply.specs.Told.{Within}
use Rattle.master_ascii.proofs.RoundTrip as Texts
use Rattle.demands.specs.Calls.{LongEnough, Wire, nfo_serial, modbus_ascii, Speaks, NothingPending, besides}
use Rattle.demands.specs.Kept.{Sound}
use Rattle.demands.specs.Demand1.{TakesIt}
use Rattle.demands.specs.Effects.{row, AsksRow, to_0, to_si_adr, rtu, ascii, Tells}
use Rattle.demands.proofs.Streamed.{Streamed, nfo_streamed, ascii_streamed}
use Rattle.demands.proofs.OneCall.{takes_it}
use Rattle.demands.proofs.Taking.{reads_alone}
use Rattle.demands.proofs.Demand2.{requests}

-- ---- a whole message, handed over in one call
module _ (P : Wire) (S : Stream) (H : Streamed P S) where
  pub taken_alone : (c : Card) → Speaks P c → NothingPending c → (m : List ℕ) → P.format.formed m ≡ true → (room : ℕ) → LongEnough c room
      → TakesIt P c (record { place = 0; bytes = m }) (received c m room)
  taken_alone c speaks (none, sized) m w room h =
      takes_it P S H c speaks (sized, rw none (empty_viable P.format H.lawful)) m room h (taking 0 m (waiting (0 + length m) []))
      (rw none (reads_alone P.format H.lawful H.theory m w)) (record { place = 0; bytes = m }) [] refl

  -- the card besides the bytes pending
  module _ (c : Card) (speaks : Speaks P c) (m : List ℕ) (w : P.format.formed m ≡ true) (room : ℕ) (h : LongEnough c room) where
    whole : TakesIt P (besides c) (record { place = 0; bytes = m }) (received (besides c) m room)
    unfolding held empty
    whole = taken_alone (besides c) speaks (refl, refl) m w room h

    pub whole_outcome : (received (besides c) m room).outcome ≡ Outcomes.Served (P.served c m).answer
    whole_outcome = whole.outcome ∙ ap (λ s. Outcomes.Served s.answer) (sym (H.alone c m).0)

    pub whole_reply : (received (besides c) m room).reply ≡ P.reply c m
    whole_reply = whole.reply ∙ sym (H.alone c m).1

-- ---- a message that asks for a row tells it
module _ (p : Plant) (q : Numbers) (n : ℕ) where
  -- what a read of row n tells
  abbrev pub tale : Answer
  tale = Answers.Told (record { 0 = n }) (told p q n).word

  pub enquiry_told : (adr e : ℕ) → Nfo.to_us p adr ≡ true → row_of_e e ≡ row n → (Nfo.served p q (Enquiry adr (Some (record { 0 = e })))).answer ≡ tale
  unfolding Nfo.served Nfo.enquiry_served Nfo.row_named told_served
  enquiry_told adr e us k = rw (us, k)

  unit_told : (u : List ℕ) (f : ℕ) (first : Register) (count : ℕ) → Within 1 247 (station p) → request_of u ≡ Read f first count → row_of_span first.0 count ≡ row n
      → (Modbus.served p q (station p) u).answer ≡ tale
  unfolding Modbus.served Modbus.task_of Modbus.done Modbus.reaches_us told_served
  unit_told u f first count h e k =
      let a : ℕ = station p in
      let one : eqb a 0 ≡ false = ne_eqb a 0 (λ z. absurd (omega (arith, z, h.0))) in
      let us : eqb a a ≡ true = eq-eqb a a refl in
      rw (e, k, one, us)

-- ---- "We answer to SiAdr and to 0"
pub to_us_0 : (p : Plant) → Nfo.to_us p 32 ≡ true
unfolding Nfo.to_us
to_us_0 p = refl

pub to_us_si_adr : (p : Plant) → enquirable (si_adr p) ≡ true → Nfo.to_us p (si_adr p + 32) ≡ true
unfolding Nfo.to_us
to_us_si_adr p h =
    let s : ℕ = si_adr p in
    let one : eqb (s + 32) 127 ≡ false = ne_eqb (s + 32) 127 (λ e. absurd (omega (arith, e, enquirable_is s h))) in
    rw one (either_right (eqb (s + 32) 32) (eqb (s + 32) (s + 32)) (eq-eqb (s + 32) (s + 32) refl))

-- ---- so a card tells what a read of the row tells
module _ (c : Card) (sound : Sound c) (n : ℕ) where
  abbrev p : Plant
  p = c.plant

  abbrev q : Numbers
  q = c.port.numbers

  by_enquiry : (address e : ℕ) → protocol_of c ≡ 0 → enquirable address ≡ true → e < 65536 → Nfo.to_us p (address + 32) ≡ true → row_of_e e ≡ row n
      → (room : ℕ) → LongEnough c room → (received (besides c) (enquiry_of address e) room).outcome ≡ Outcomes.Served (tale p q n)
  by_enquiry address e speaks can h us k room l =
      whole_outcome nfo_serial nfo_stream nfo_streamed c speaks (enquiry_of address e) (enquiry_formed address e (omega (arith, enquirable_is address can))) room l
      ∙ ap (λ m. Outcomes.Served (Nfo.served p q m).answer) (enquiry_heard address e h) ∙ ap Outcomes.Served (enquiry_told p q n (address + 32) e us k)

  -- 03 and 04 of its registers, as its line makes a message of them
  by_ask : (ask : Ask) (u : List ℕ) → AsksRow n ask → request_of u ≡ request_said ask [] → (Modbus.served p q (station p) u).answer ≡ tale p q n
  by_ask (Asked.Holding first count) u k e = unit_told p q n u 3 first count sound.plant.station e k
  by_ask (Asked.Input first count) u k e = unit_told p q n u 4 first count sound.plant.station e k
  by_ask (Asked.One register word) u k e = absurd k
  by_ask (Asked.Many first) u k e = absurd k

  pub tells : Tells c n (told p q n).word
  unfolding exchanged enquirable
  tells m (to_0 e speaks h k) room l = by_enquiry 0 e speaks refl h (to_us_0 p) k room l
  tells m (to_si_adr e speaks can h k) room l = by_enquiry (si_adr p) e speaks can h (to_us_si_adr p can) k room l
  tells m (rtu ask speaks can k) room l =
      let r = requests.rtu (station p) ask [] can in
      let f : List ℕ = rtu_of (station p) (request_unit ask []) in
      ap (λ (x : Received). x.outcome) (r.0 (besides c) speaks room l)
      ∙ ap (λ (a : ℕ). Outcomes.Served (Modbus.served p q a (unit_in f)).answer) r.1 ∙ ap Outcomes.Served (by_ask ask (unit_in f) k r.2.request)
  tells m (ascii ask speaks can width k) room l =
      let r = requests.ascii (station p) ask [] can width in
      let t : List ℕ = ascii_of (station p) (request_unit ask []) in
      whole_outcome modbus_ascii ascii_stream ascii_streamed c speaks t (Texts.asked_formed (station p) ask [] can width) room l
      ∙ ap (λ (a : ℕ). Outcomes.Served (Modbus.served p q a (unit_among (bytes_in t))).answer) r.1 ∙ ap Outcomes.Served (by_ask ask (unit_among (bytes_in t)) k r.2.request)
