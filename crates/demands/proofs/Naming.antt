-- A message that writes a row, where it is done, wrote that row and that word. Assumes nothing.
use Rattle.std.proofs.Common.{Some, Result, Ok, Err}
use mathlib.Core.Path.{◌≡◌, refl, sym, ap, ◌∙◌}
use mathlib.Core.Bool.{Bool, true, false, not}
use mathlib.Core.List.{List}
use Prim.Native.Nat.{ℕ, ◌+◌, ◌/◌}
use native.Mathlib.Omega.{arith}
use lib.Dec.{eqb}
use lib.ListN.{length}
use Rattle.base.specs.Choice.{pick, both}
use Rattle.base.proofs.Tests.{pick_both}
use Rattle.table.specs.Table.{line_at}
use Rattle.table.specs.Find.{row_of_e, row_of_span}
use Rattle.table.specs.declared.labels.Register.{Register}
use Rattle.port.specs.Port.{Numbers}
use Rattle.drive.specs.Plant.{Plant, station}
use Rattle.answers.specs.declared.Answer.{Answer}
use Rattle.answers.specs.declared.Answer.TheVariants as Answers
use Rattle.answers.specs.Answer.{answer_number}
use Rattle.permit.specs.Refusals.{read_only}
use Rattle.service.specs.Write.{written}
use Rattle.service.specs.Serving.{Served, permitted, wrote_served}
use Rattle.service.proofs.Stores.{written_permits}
use Rattle.nfo_parts.specs.declared.message.Message.TheVariants.{Select}
use Rattle.nfo_service.specs.Serve as Nfo
use Rattle.modbus_words.specs.Words.{word_at, word_bytes, long_at, long_bytes}
use Rattle.modbus.specs.Request.{span, request_of}
use Rattle.modbus.specs.declared.requests.Request.TheVariants.{One, Many}
use Rattle.modbus_service.specs.Serve as Modbus
use Rattle.modbus_service.specs.Reply.{exchanged}
use Rattle.rtu.specs.Rtu.{unit_in, rtu_of}
use Rattle.ascii.specs.Ascii.{bytes_in, ascii_of, unit_among}
use Rattle.card.specs.Outcome.{outcome_number}
use Rattle.card.specs.declared.state.Card.{Card}
use Rattle.card.specs.declared.outcome.Outcome.{Outcome}
use Rattle.card.specs.declared.outcome.Outcome.TheVariants as Outcomes
use Rattle.turn.specs.Turn.{Received}
use Rattle.nfo_port.specs.Receive.{nfo_stream}
use Rattle.ascii_port.specs.Receive.{ascii_stream}
use Rattle.receive.specs.Receive.{received}
use Rattle.master_nfo.specs.Requests.{select_of}
use Rattle.master_nfo.proofs.Asked.{selectable_is}
use Rattle.master_nfo.proofs.Heard.{select_formed, select_heard}
use Rattle.master_request.specs.declared.Ask.{Ask}
use Rattle.master_request.specs.declared.Ask.TheVariants as Asked
use Rattle.master_request.specs.Ask.{head_of, many_unit, request_unit}
use Rattle.master_request.specs.Said.{request_said}
use Rattle.master_ascii.proofs.RoundTrip as Texts
use Rattle.demands.specs.Calls.{LongEnough, nfo_serial, modbus_ascii, besides}
use Rattle.demands.specs.Effects.{row, register_bytes, SetsRow, Sets, select, rtu, ascii}
use Rattle.demands.proofs.Streamed.{nfo_streamed, ascii_streamed}
use Rattle.demands.proofs.Leaving.{refusal_within}
use Rattle.demands.proofs.Demand2.{requests}
use Rattle.demands.proofs.Asking.{whole_outcome}
use Rattle.answers.specs.declared.Change.{Change}
use Rattle.answers.specs.declared.Refusal.{Refusal}

-- ---- the register bytes of a row that holds a word are read as that word
long_value : (first : Register) (n w : ℕ) → long_at (many_unit first (register_bytes n w)) 6 ≡ w
unfolding long_at word_at many_unit head_of word_bytes long_bytes
long_value first n w = go (eqb (line_at n).registers 2)
  where
    go : (t : Bool) → long_at (many_unit first (pick t (long_bytes w) (word_bytes w))) 6 ≡ w
    go true = omega arith
    go false = omega arith

module _ (p : Plant) (q : Numbers) (n w : ℕ) where
  -- the row and the word
  abbrev change : Answer
  change = Answers.Written (record { row = record { 0 = n }; word = w })

  abbrev Names : Served → Type 0
  Names s = answer_number s.answer ≡ 0 → s.answer ≡ change

  wrote_names : Names (wrote_served p q n w)
  unfolding wrote_served
  wrote_names = go (written p n w).permit refl
    where
      go : (k : Result Change Refusal) → (written p n w).permit ≡ k → answer_number (permitted k) ≡ 0 → permitted k ≡ change
      go (Ok change) e z = ap Answers.Written (written_permits p n w change e).0
      go (Err x) e z = absurd (omega (arith, z, (refusal_within x).0))

  select_names : (adr e : ℕ) → row_of_e e ≡ row n → Names (Nfo.served p q (Select adr (Some (record { 0 = e })) (Some w)))
  unfolding Nfo.served Nfo.select_served Nfo.row_named Nfo.row_selected
  select_names adr e k =
      rw k
      (pick_both Names (not (Nfo.reaches_us p adr)) (λ _ z. absurd (omega (arith, z)))
      (λ _. pick_both Names (read_only n) (λ _ z. absurd (omega (arith, z))) (λ _. pick_both Names (Nfo.stops p adr n w) (λ _ _. refl) (λ _. wrote_names))))

  -- 06 of its word, and 16 of its register bytes
  abbrev Does : (a : ℕ) (u : List ℕ) → Type 0
  Does a u = Names (Modbus.served p q a u)

  one_names : (a : ℕ) (u : List ℕ) (register : Register) → request_of u ≡ One register w → row_of_span register.0 1 ≡ row n → Does a u
  unfolding Modbus.served Modbus.task_of Modbus.done
  one_names a u register e k =
      rw (e, k)
      (pick_both (λ t. Names (Modbus.done p q t)) (not (Modbus.reaches_us (station p) a)) (λ _ z. absurd (omega (arith, z)))
      (λ _. pick_both (λ t. Names (Modbus.done p q t)) (both (Modbus.to_all a) false) (λ _ z. absurd (omega (arith, z))) (λ _. wrote_names)))

  many_names : (a : ℕ) (u : List ℕ) (first : Register) (count to : ℕ) → request_of u ≡ Many first count (span 6 to) → row_of_span first.0 count ≡ row n → long_at u 6 ≡ w → Does a u
  unfolding Modbus.served Modbus.task_of Modbus.done
  many_names a u first count to e k v =
      rw (e, k, v)
      (pick_both (λ t. Names (Modbus.done p q t)) (not (Modbus.reaches_us (station p) a)) (λ _ z. absurd (omega (arith, z)))
      (λ _. pick_both (λ t. Names (Modbus.done p q t)) (both (Modbus.to_all a) false) (λ _ z. absurd (omega (arith, z))) (λ _. wrote_names)))

  ask_names : (a : ℕ) (ask : Ask) (registers u : List ℕ) → SetsRow n w ask registers → u ≡ request_unit ask registers → request_of u ≡ request_said ask registers → Does a u
  unfolding request_unit
  ask_names a (Asked.Holding first count) registers u k whole e = absurd k
  ask_names a (Asked.Input first count) registers u k whole e = absurd k
  ask_names a (Asked.One register word) registers u k whole e = one_names a u register (e ∙ ap (One register) k.1) k.0
  ask_names a (Asked.Many first) registers u k whole e =
      many_names a u first (length registers / 2) (6 + length registers) e k.0
      (ap (λ (s : List ℕ). long_at s 6) (whole ∙ ap (many_unit first) k.1) ∙ long_value first n w)

-- ---- over each protocol
named : (p : Plant) (q : Numbers) (n w : ℕ) (o : Outcome) (s : Served) → o ≡ Outcomes.Served s.answer → Names p q n w s → outcome_number o ≡ 0 → o ≡ Outcomes.Served (change p q n w)
named p q n w o s e names z = e ∙ ap Outcomes.Served (names (sym (ap outcome_number e) ∙ z))

pub names : (c : Card) (n w : ℕ) (m : List ℕ) → Sets c n w m → (room : ℕ) → LongEnough c room → outcome_number (received (besides c) m room).outcome ≡ 0
    → (received (besides c) m room).outcome ≡ Outcomes.Served (Answers.Written (record { row = record { 0 = n }; word = w }))
unfolding exchanged
names c n w m (select address e speaks can h l k) room big =
    let p : Plant = c.plant in
    let q : Numbers = c.port.numbers in
    named p q n w _ (Nfo.served p q (Select (address + 32) (Some (record { 0 = e })) (Some w)))
    (whole_outcome nfo_serial nfo_stream nfo_streamed c speaks (select_of address e w) (select_formed address e w (selectable_is address can)) room big
    ∙ ap (λ x. Outcomes.Served (Nfo.served p q x).answer) (select_heard address e w h l)) (select_names p q n w (address + 32) e k)
names c n w m (rtu address ask registers speaks can k) room big =
    let p : Plant = c.plant in
    let q : Numbers = c.port.numbers in
    let f : List ℕ = rtu_of address (request_unit ask registers) in
    let r = requests.rtu address ask registers can in
    named p q n w _ (Modbus.served p q address (unit_in f))
    (ap (λ (x : Received). x.outcome) (r.0 (besides c) speaks room big) ∙ ap (λ (a : ℕ). Outcomes.Served (Modbus.served p q a (unit_in f)).answer) r.1)
    (ask_names p q n w address ask registers (unit_in f) k r.2.whole r.2.request)
names c n w m (ascii address ask registers speaks can width k) room big =
    let p : Plant = c.plant in
    let q : Numbers = c.port.numbers in
    let t : List ℕ = ascii_of address (request_unit ask registers) in
    let r = requests.ascii address ask registers can width in
    named p q n w _ (Modbus.served p q address (unit_among (bytes_in t)))
    (whole_outcome modbus_ascii ascii_stream ascii_streamed c speaks t (Texts.asked_formed address ask registers can width) room big
    ∙ ap (λ (a : ℕ). Outcomes.Served (Modbus.served p q a (unit_among (bytes_in t))).answer) r.1) (ask_names p q n w address ask registers (unit_among (bytes_in t)) k r.2.whole r.2.request)
