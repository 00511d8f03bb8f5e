-- Each message has exactly the effect of document 01. Assumes nothing.
use Rattle.std.proofs.Common.{Result, Ok, Err}
use mathlib.Core.Path.{◌≡◌, refl, sym, ap, subst, ◌∙◌}
use mathlib.Core.Logic.{◌≢◌}
use mathlib.Core.Bool.{Bool, true, false, not, false≢true}
use mathlib.Core.List.{List}
use Prim.Native.Nat.{ℕ, ◌<◌}
use native.Mathlib.Omega.{arith}
use borrow.Author.Tests.{eqb-true, eqb-false, ne_eqb, not-false, ltb-true, ltb-false}
use lib.Dec.{eqb, ltb}
use Rattle.base.specs.Choice.{pick, both, either}
use Rattle.base.proofs.Tests.{both_out, below_at}
use Rattle.table.specs.Names.{SCMD, Inv-St-ack, Inv-St, SioErr, Drive-Status, row_count}
use Rattle.table.specs.Table.{Start, Word, NoWord, Line, rows, line_at, start_words}
use Rattle.table.specs.declared.labels.Row.{Row}
use Rattle.table.proofs.Columns.{past_table}
use Rattle.port.specs.Port.{fresh, with_sum}
use Rattle.identity.specs.Identity.{Identity}
use Rattle.identity.specs.declared.Part.{Part}
use Rattle.drive.specs.Plant as Plants
use Rattle.drive.specs.Plant.{Plant, mode, scmd, flags}
use Rattle.drive.specs.Flags.{only, lowest_of}
use Rattle.drive.specs.Status.{active, flag_stands, runs, status_of, status_word, Right}
use Rattle.drive.specs.Faults.{only14}
use Rattle.drive.proofs.Masks.{masks}
use Rattle.answers.specs.declared.Answer.{Answer}
use Rattle.answers.specs.declared.Answer.TheVariants as Answers
use Rattle.answers.specs.declared.Change.{Change}
use Rattle.reading.specs.Read.{Told, stored, told}
use Rattle.reading.proofs.Tells.{tells_stored, tells_ack, tells_status, tells_sioerr}
use Rattle.service.specs.Write.{written}
use Rattle.service.specs.Serving.{Served, permitted, told_served, wrote_served}
use Rattle.service.proofs.Stores.{written_permits}
use Rattle.pending.specs.declared.Pending.{Pending}
use Rattle.nfo_service.specs.Serve as Nfo
use Rattle.card.specs.State.{protocol_of, card_sum, protocol_number, started}
use Rattle.card.specs.declared.state.Card.{Card}
use Rattle.card.specs.declared.state.Protocol as Protocols
use Rattle.card.specs.declared.outcome.Outcome.TheVariants as Outcomes
use Rattle.turn.specs.Turn.{Received, card_after, port_after}
use Rattle.receive.specs.Receive.{received}
use Rattle.demands.specs.Calls.{receive, besides}
use Rattle.demands.specs.Kept.{SoundPlant, SoundIdentity, Sound}
use Rattle.demands.specs.Effects.{Tells, WriteLeaves, StopLeaves, ReadLeaves, InvSt, lowest, manual, auto_stands, auto_runs, bus_stands, bus_runs, DriveStatus, Effects}
use Rattle.demands.proofs.Serving.{Came, not_ours, refused, told_row, wrote_row, identified, stop}
use Rattle.demands.proofs.Kept.{kept}
use Rattle.demands.proofs.Naming.{names}
use Rattle.demands.proofs.Changing.{tells_word, wrote, stopped_is, read_leaves}
use Rattle.demands.proofs.Coming.{comes}
use Rattle.demands.proofs.DriveStatus.{word_says}
use Rattle.answers.specs.declared.Refusal.{Refusal}

-- ---- the answer says which of them it was
-- a number for each case of an answer, and the change or the row that it carries
abbrev case : Answer → ℕ
case (Answers.Told row w) = 0
case (Answers.Written change) = 1
case Answers.NotOurs = 2
case (Answers.Refused x) = 3
case (Answers.Identified part) = 4

abbrev change_or : Change → Answer → Change
change_or k (Answers.Told row w) = k
change_or k (Answers.Written change) = change
change_or k (Answers.Identified part) = k
change_or k Answers.NotOurs = k
change_or k (Answers.Refused x) = k

abbrev row_or : Row → Answer → Row
row_or k (Answers.Told row w) = row
row_or k (Answers.Written change) = k
row_or k (Answers.Identified part) = k
row_or k Answers.NotOurs = k
row_or k (Answers.Refused x) = k

other_case : (a b : Answer) → a ≡ b → (case a ≡ case b → ⊥) → ⊥
other_case a b e n = n (ap case e)

module _ (c : Card) (sound : Sound c) (r : Received) (then : Sound r.card) where
  -- ---- a done write
  abbrev Writes : Change → Type 0
  Writes change = (flags c.plant ≡ 0 → WriteLeaves c change r.card) × (flags c.plant ≢ 0 → StopLeaves c change r.card)

  -- by its permit
  permit_writes : (h : Pending) (row w : ℕ) (change : Change) (k : Result Change Refusal) → (written c.plant row w).permit ≡ k → permitted k ≡ Answers.Written change
      → r.card ≡ card_after c.identity h (wrote_served c.plant c.port.numbers row w) → Writes change
  unfolding wrote_served card_after flag_stands
  permit_writes h row w change (Ok done) e a card =
      let k = written_permits c.plant row w done e in
      let same : change ≡ record { row = record { 0 = row }; word = w } = sym (ap (change_or change) a) ∙ k.0 in
      let answer : permitted (written c.plant row w).permit ≡ Answers.Written done = ap permitted e in
      let none : flags c.plant ≡ 0 = eqb-true (flags c.plant) 0 (not-false (eqb (flags c.plant) 0) k.2) in (
        λ _. subst (λ (x : Change). WriteLeaves c x r.card) (sym same)
            (wrote c sound r.card then row w k.1 (ap (λ (d : Card). d.plant) card ∙ k.3)
            (ap (λ (d : Card). d.port.numbers) card ∙ ap (λ (x : Answer). port_after x c.port.numbers) answer) (ap (λ (d : Card). d.identity) card)),
        λ some. absurd (some none),
      )
  permit_writes h row w change (Err x) e a card = absurd (other_case _ _ a (λ z. omega (arith, z)))

  stop_writes : (h : Pending) (adr : ℕ) (row : Row) (w : ℕ) (change : Change) → Nfo.stops c.plant adr row.0 w ≡ true → protocol_of c ≡ 0
      → Answers.Written (record { row = row; word = w }) ≡ Answers.Written change → r.card ≡ card_after c.identity h (Nfo.stop_served c.plant c.port.numbers row w) → Writes change
  unfolding Nfo.stops only14 card_after
  stop_writes h adr row w change t serial a card =
      let x = both_out (Nfo.to_all adr) _ t in
      let y = both_out (eqb row.0 SCMD) _ x.1 in
      let z = both_out (eqb w 0) _ y.1 in
      let one : flags c.plant ≡ only 14 = eqb-true (flags c.plant) (only 14) z.1 in
      let same : change ≡ record { row = record { 0 = SCMD }; word = 0 } =
      sym (ap (change_or change) a) ∙ rw (eqb-true row.0 SCMD y.0, eqb-true w 0 z.0) in (
        λ none. absurd (omega (arith, none, one)),
        λ _. subst (λ (k : Change). StopLeaves c k r.card) (sym same)
            (stopped_is c sound r.card then one (ap (λ (d : Card). d.plant) card) (ap (λ (d : Card). d.port.numbers) card) (ap (λ (d : Card). d.identity) card) serial),
      )

  came_writes : (nfo : Bool) (h : Pending) (s : Served) (change : Change) → Came c.plant c.port.numbers nfo s → (nfo ≡ true → protocol_of c ≡ 0)
      → s.answer ≡ Answers.Written change → r.card ≡ card_after c.identity h s → Writes change
  unfolding told_served wrote_served
  came_writes nfo h s change not_ours serial a card = absurd (other_case _ _ a (λ z. omega (arith, z)))
  came_writes nfo h s change (refused x) serial a card = absurd (other_case _ _ a (λ z. omega (arith, z)))
  came_writes nfo h s change (told_row row) serial a card = absurd (other_case _ _ a (λ z. omega (arith, z)))
  came_writes nfo h s change (wrote_row row w) serial a card = permit_writes h row w change (written c.plant row w).permit refl a card
  came_writes nfo h s change (identified part) serial a card = absurd (other_case _ _ a (λ z. omega (arith, z)))
  came_writes nfo h s change (stop adr row w t) serial a card = stop_writes h adr row w change t (serial refl) a card

  -- ---- a done read
  permit_not_told : (k : Result Change Refusal) (row : Row) (w : ℕ) → permitted k ≡ Answers.Told row w → ⊥
  permit_not_told (Ok change) row w a = other_case _ _ a (λ z. omega (arith, z))
  permit_not_told (Err x) row w a = other_case _ _ a (λ z. omega (arith, z))

  came_tells : (nfo : Bool) (h : Pending) (s : Served) (n w : ℕ) → Came c.plant c.port.numbers nfo s → s.answer ≡ Answers.Told (record { 0 = n }) w → r.card ≡ card_after c.identity h s
      → ReadLeaves c n r.card
  unfolding told_served wrote_served card_after
  came_tells nfo h s n w not_ours a card = absurd (other_case _ _ a (λ z. omega (arith, z)))
  came_tells nfo h s n w (refused x) a card = absurd (other_case _ _ a (λ z. omega (arith, z)))
  came_tells nfo h s n w (told_row row) a card =
      let same : row.0 ≡ n = ap (λ (x : Answer). (row_or row x).0) a in
      read_leaves c r.card n (ap (λ (d : Card). d.plant) card ∙ ap (λ (k : ℕ). (told c.plant c.port.numbers k).plant) same)
      (ap (λ (d : Card). d.port.numbers) card ∙ ap (λ (k : ℕ). with_sum 0 (told c.plant c.port.numbers k).port) same) (ap (λ (d : Card). d.identity) card)
  came_tells nfo h s n w (wrote_row row v) a card = absurd (permit_not_told (written c.plant row v).permit _ w a)
  came_tells nfo h s n w (identified part) a card = absurd (other_case _ _ a (λ z. omega (arith, z)))
  came_tells nfo h s n w (stop adr row v t) a card = absurd (other_case _ _ a (λ z. omega (arith, z)))

-- ---- a part of the identity was told
module _ (c : Card) (r : Received) where
  permit_no_part : (k : Result Change Refusal) (part : Part) → permitted k ≡ Answers.Identified part → ⊥
  permit_no_part (Ok change) part a = other_case _ _ a (λ z. omega (arith, z))
  permit_no_part (Err x) part a = other_case _ _ a (λ z. omega (arith, z))

  came_identifies : (nfo : Bool) (h : Pending) (s : Served) (part : Part) → Came c.plant c.port.numbers nfo s → s.answer ≡ Answers.Identified part
      → r.card ≡ card_after c.identity h s → besides r.card ≡ besides (card_sum 0 c)
  unfolding told_served wrote_served card_after
  came_identifies nfo h s part not_ours a card = absurd (other_case _ _ a (λ z. omega (arith, z)))
  came_identifies nfo h s part (refused x) a card = absurd (other_case _ _ a (λ z. omega (arith, z)))
  came_identifies nfo h s part (told_row row) a card = absurd (other_case _ _ a (λ z. omega (arith, z)))
  came_identifies nfo h s part (wrote_row row w) a card = absurd (permit_no_part (written c.plant row w).permit part a)
  came_identifies nfo h s part (identified told) a card = ap besides card
  came_identifies nfo h s part (stop adr row w t) a card = absurd (other_case _ _ a (λ z. omega (arith, z)))

-- ---- Inv St
-- "Inv St is the lowest flagged number, else 24 at MODE 1, 33/34 at MODE 2 and 37/38 at MODE 3, standing/running"
inv_st : (p : Plant) → SoundPlant p → InvSt p (status_of p)
unfolding status_of flag_stands runs
inv_st p sound = go (eqb (flags p) 0) refl
  where
    -- no flag stands
    by_mode : flags p ≡ 0 → (two three : Bool) → eqb (mode p) 2 ≡ two → eqb (mode p) 3 ≡ three → InvSt p (pick two (pick (runs p) 34 33) (pick three (pick (runs p) 38 37) 24))
    by_mode none true three e f =
        let at : mode p ≡ 2 = eqb-true (mode p) 2 e in
        rw (e, none, ne_eqb (mode p) 3 (λ k. absurd (omega (arith, k, at)))) (by_din1 at (active p) refl)
      where
        by_din1 : mode p ≡ 2 → (t : Bool) → active p ≡ t → InvSt p (pick (either (both t true) false) 34 33)
        by_din1 at true a = auto_runs none at a
        by_din1 at false a = auto_stands none at a
    by_mode none false true e f = let at : mode p ≡ 3 = eqb-true (mode p) 3 f in rw (e, f) (by_scmd at (eqb (scmd p) 0) refl)
      where
        by_scmd : mode p ≡ 3 → (t : Bool) → eqb (scmd p) 0 ≡ t → InvSt p (pick (not t) 38 37)
        by_scmd at true z = bus_stands none at (eqb-true (scmd p) 0 z)
        by_scmd at false z = bus_runs none at (eqb-false (scmd p) 0 z)
    by_mode none false false e f =
        let two : mode p ≢ 2 = eqb-false (mode p) 2 e in
        let three : mode p ≢ 3 = eqb-false (mode p) 3 f in
        manual none (omega (arith, sound.mode.0, sound.mode.1))

    go : (t : Bool) → eqb (flags p) 0 ≡ t
        → InvSt p (pick (not t) (lowest_of (flags p)) (pick (eqb (mode p) 2) (pick (runs p) 34 33) (pick (eqb (mode p) 3) (pick (runs p) 38 37) 24)))
    go true e = by_mode (eqb-true (flags p) 0 e) (eqb (mode p) 2) (eqb (mode p) 3) refl refl
    go false e = lowest (lowest_of (flags p)) (masks.lowest_in (flags p) sound.flags.0 (eqb-false (flags p) 0 e)) (λ k l. masks.lowest_first (flags p) k l)

status : (c : Card) → Sound c → (n : ℕ) × InvSt c.plant n × Tells c Inv-St n × Tells c Inv-St-ack n
status c sound = (
  status_of c.plant,
  inv_st c.plant sound.plant,
  tells_word c sound Inv-St _ (ap (λ (t : Told). t.word) (tells_status c.plant c.port.numbers)),
  tells_word c sound Inv-St-ack _ (ap (λ (t : Told). t.word) (tells_ack c.plant c.port.numbers)),
)

-- Drive Status tells the word that stands at its line
drive_status : (c : Card) → Sound c → Right c.plant → (w : ℕ) × DriveStatus c.plant w × Tells c Drive-Status w
drive_status c sound right = (
  status_word c.plant,
  word_says c.plant,
  tells_word c sound Drive-Status _
      (ap (λ (t : Told). t.word)
      (tells_stored c.plant c.port.numbers Drive-Status (omega arith) (λ e. omega (arith, e)) (λ e. omega (arith, e)) (λ e. omega (arith, e)))
      ∙ right.word),
)

-- ---- the column Start
-- what a read at start should tell: the row's word, or 24, "24 at MODE 1"
abbrev starts_right : Start → ℕ → Bool
starts_right (Word w) v = eqb v w
starts_right NoWord v = eqb v 24

start_told : (k n : ℕ) → n < row_count → starts_right (line_at n).start (told Plants.started (fresh k) n).word ≡ true
unfolding rows line_at start_words Plants.started told stored status_of flag_stands runs active
start_told k n h = below_at row_count (λ i. starts_right (line_at i).start (told Plants.started (fresh k) i).word) n refl h

-- past the table no row has a start
has_word : Start → Bool
has_word (Word w) = true
has_word NoWord = false

start : (protocol : Protocols.Protocol) (i : Identity) → SoundIdentity i → (n w : ℕ) → (line_at n).start ≡ Word w → Tells (started protocol i) n w
unfolding started has_word
start protocol i given n w e = go (ltb n row_count) refl
  where
    go : (t : Bool) → ltb n row_count ≡ t → Tells (started protocol i) n w
    go true l =
        tells_word (started protocol i) (kept.start protocol i given) n w
        (eqb-true _ w (subst (λ (x : Start). starts_right x (told Plants.started (fresh (protocol_number protocol)) n).word ≡ true) e (start_told (protocol_number protocol) n (ltb-true n row_count l))))
    go false l = absurd (false≢true (ap (λ (x : Line). has_word x.start) (past_table n (ltb-false n row_count l)) ∙ ap has_word e))

start_status : (protocol : Protocols.Protocol) (i : Identity) → SoundIdentity i → (n : ℕ) → (line_at n).start ≡ NoWord → n < row_count → Tells (started protocol i) n 24
unfolding started
start_status protocol i given n e l =
    tells_word (started protocol i) (kept.start protocol i given) n 24
    (eqb-true _ 24 (subst (λ (x : Start). starts_right x (told Plants.started (fresh (protocol_number protocol)) n).word ≡ true) e (start_told (protocol_number protocol) n l)))

-- ---- ALL OF IT
writes : (c : Card) → Sound c → (bytes : List ℕ) (room : ℕ) (change : Change) → (received c bytes room).outcome ≡ Outcomes.Served (Answers.Written change)
    → (flags c.plant ≡ 0 → WriteLeaves c change (received c bytes room).card) × (flags c.plant ≢ 0 → StopLeaves c change (received c bytes room).card)
writes c sound bytes room change e =
    let k = comes c bytes room (Answers.Written change) e in
    came_writes c sound (received c bytes room) (kept.each c _ (receive bytes room) sound) k.nfo k.pending k.served change k.came
    (λ t. let s = k.serial t in let one : protocol_of c ≢ 1 = s.0 in let two : protocol_of c ≢ 2 = s.1 in omega (arith, sound.protocol)) k.answer k.card

pub effects : Effects
unfolding rows line_at
effects =
    record {
      names = λ c sound n w m s room h z. names c n w m s room h z;
      write = λ c sound bytes room change e. (writes c sound bytes room change e).0;
      stop = λ c sound bytes room change e. (writes c sound bytes room change e).1;
      read = λ c sound bytes room n w e.
          let k = comes c bytes room (Answers.Told (record { 0 = n }) w) e in
          came_tells c sound (received c bytes room) (kept.each c _ (receive bytes room) sound) k.nfo k.pending k.served n w k.came k.answer k.card;
      identified = λ c bytes room part e.
          let k = comes c bytes room (Answers.Identified part) e in
          came_identifies c (received c bytes room) k.nfo k.pending k.served part k.came k.answer k.card;
      row_told = λ c sound n l a b s. tells_word c sound n _ (ap (λ (t : Told). t.word) (tells_stored c.plant c.port.numbers n l a b s));
      status = status;
      sio_err = λ c sound. tells_word c sound SioErr _ (ap (λ (t : Told). t.word) (tells_sioerr c.plant c.port.numbers));
      drive_status = drive_status;
      start = start;
      start_status = λ protocol i given. (start_status protocol i given Inv-St-ack refl (omega arith), start_status protocol i given Inv-St refl (omega arith));
    }
