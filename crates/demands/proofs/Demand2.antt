-- Demand 2 holds: what was written is read as what was said, and what was replied as what was answered. Assumes nothing.
use mathlib.Core.Path.{◌≡◌, refl, sym, ap, ◌∙◌}
use mathlib.Core.Bool.{true}
use mathlib.Core.List.{List, []}
use Prim.Native.Nat.{ℕ}
use native.Mathlib.Omega.{arith}
use borrow.Author.Tests.{le-ltb}
use lib.Dec.{eqb, ltb}
use lib.ListN.{length}
use Rattle.base.specs.Buffers.{rtu_least}
use Rattle.base.proofs.Tests.{pick_both}
use Rattle.answers.specs.declared.Answer.{Answer}
use Rattle.pending.specs.Scanning.{scan_from}
use Rattle.nfo.proofs.Lawful.{nfo_lawful}
use Rattle.modbus.specs.Request.{request_of}
use Rattle.rtu.specs.Rtu.{frame_holds, unit_in}
use Rattle.rtu.proofs.RoundTrip as Frame
use Rattle.ascii.specs.Ascii as Text
use Rattle.ascii.specs.Ascii.{bytes_in, unit_among}
use Rattle.ascii.proofs.RoundTrip as Message
use Rattle.ascii.proofs.Lawful.{ascii_lawful}
use Rattle.card.specs.State.{protocol_of}
use Rattle.card.specs.declared.state.Card.{Card}
use Rattle.card.specs.declared.outcome.Outcome.TheVariants as Outcomes
use Rattle.turn.specs.Turn.{Received, waiting}
use Rattle.turn.specs.Stream.{Stream, streamed}
use Rattle.nfo_port.specs.Receive.{nfo_stream, nfo_received}
use Rattle.rtu_port.specs.Receive as Rtu
use Rattle.ascii_port.specs.Receive.{ascii_stream, ascii_received}
use Rattle.receive.specs.Receive.{received}
use Rattle.receive.proofs.Laws.{by_rtu, enough_rtu}
use Rattle.master_nfo.proofs.Asked.{enquirable_is, selectable_is}
use Rattle.master_nfo.proofs.Heard.{enquiry_formed, enquiry_heard, select_formed, select_heard}
use Rattle.master_request.specs.declared.Ask.{Ask}
use Rattle.master_request.specs.Ask.{sayable, request_unit}
use Rattle.master_request.specs.Said.{request_said, InWidth}
use Rattle.master_request.proofs.AsSaid.{said_below}
use Rattle.master_rtu.proofs.RoundTrip as Frames
use Rattle.master_ascii.proofs.RoundTrip as Texts
use Rattle.demands.specs.Calls.{nfo_serial, modbus_ascii}
use Rattle.demands.specs.Demand2.{FrameRead, frame, text, Arrives, Requests, Demand2}
use Rattle.demands.proofs.Demand3.{demand_3}
use Rattle.demands.proofs.Taking.{message_read}
use Rattle.demands.proofs.Registers.{register_data_lem}
use Rattle.demands.proofs.Told.{serial_answers}
use Rattle.demands.proofs.Replied.{rtu_answers, ascii_answers}

-- ---- the requests
frame_read : (address : ℕ) (ask : Ask) (registers : List ℕ) → sayable address ask (length registers) ≡ true → FrameRead (frame address ask registers)
unfolding Rtu.rtu_received
frame_read address ask registers e c p room h =
    by_rtu c (frame address ask registers) room p ∙ simp (le-ltb room rtu_least (enough_rtu c room p h), Frames.asked_holds address ask registers e)

-- a unit that arrives whole asks what was said
arrives : (ask : Ask) (registers unit : List ℕ) → unit ≡ request_unit ask registers → request_of (request_unit ask registers) ≡ request_said ask registers → Arrives ask registers unit
arrives ask registers unit e r = record { whole = e; request = ap request_of e ∙ r }

rtu_arrives : (address : ℕ) (ask : Ask) (registers : List ℕ) → sayable address ask (length registers) ≡ true → Arrives ask registers (unit_in (frame address ask registers))
rtu_arrives address ask registers can =
    let e : unit_in (frame address ask registers) ≡ request_unit ask registers = Frame.own_unit address (request_unit ask registers) in
    arrives ask registers (unit_in (frame address ask registers)) e (ap request_of (sym e) ∙ Frames.asked_request address ask registers can)

ascii_arrives : (address : ℕ) (ask : Ask) (registers : List ℕ) → sayable address ask (length registers) ≡ true → InWidth ask registers
    → Arrives ask registers (unit_among (bytes_in (text address ask registers)))
unfolding unit_among
ascii_arrives address ask registers can width =
    let e : Text.unit_among (Text.bytes_in (text address ask registers)) ≡ request_unit ask registers = Message.own_unit address (request_unit ask registers) (said_below address ask registers can width) in
    arrives ask registers (unit_among (bytes_in (text address ask registers))) e (ap request_of (sym e) ∙ Texts.asked_request address ask registers can width)

pub requests : Requests
requests =
    record {
      enquiry = λ address e can h.
          (message_read nfo_serial nfo_lawful demand_3.nfo _ (enquiry_formed address e (omega (arith, enquirable_is address can))), enquiry_heard address e h);
      select = λ address e word can h k.
          (message_read nfo_serial nfo_lawful demand_3.nfo _ (select_formed address e word (selectable_is address can)), select_heard address e word h k);
      rtu = λ address ask registers can.
          (frame_read address ask registers can, Frame.own_address address (request_unit ask registers), rtu_arrives address ask registers can, Frames.asked_data address ask registers can);
      ascii = λ address ask registers can width.
          (message_read modbus_ascii ascii_lawful demand_3.modbus_ascii_lem _ (Texts.asked_formed address ask registers can width), Texts.asked_address address ask registers can width, ascii_arrives address ask registers can width);
    }

-- ---- the replies
-- where nothing was taken there is none
nothing : (c : Card) (bytes : List ℕ) (room : ℕ) → ((a : Answer) → (received c bytes room).outcome ≡ Outcomes.Served a → ⊥) → (received c bytes room).reply ≡ []
unfolding received nfo_received ascii_received Rtu.rtu_received waiting
nothing c bytes room =
    pick_both Silent (eqb (protocol_of c) 1)
    (λ _. pick_both Silent (ltb room rtu_least) (λ _ _. refl) (λ _. pick_both Silent (frame_holds bytes) (λ _ none. absurd (none _ refl)) (λ _ _. refl)))
    (λ _. pick_both Silent (eqb (protocol_of c) 2) (λ _. streamed_nothing ascii_stream) (λ _. streamed_nothing nfo_stream))
  where
    Silent : Received → Type 0
    Silent r = ((a : Answer) → r.outcome ≡ Outcomes.Served a → ⊥) → r.reply ≡ []

    streamed_nothing : (S : Stream) → Silent (streamed S c bytes room)
    streamed_nothing S =
        pick_both Silent (ltb room S.least) (λ _ _. refl)
        (λ _. pick_both Silent (scan_from S.feeding c.port.pending 0 bytes).taken (λ _ none. absurd (none _ refl)) (λ _ _. refl))

pub demand_2 : Demand2
demand_2 = record { requests = requests; register_data_lem = register_data_lem; replies = record { nfo = serial_answers; rtu = rtu_answers; ascii = ascii_answers; nothing = nothing } }
