-- The number of what is served, and of a call, is that of the first line of its order that applies. Assumes nothing.
use Rattle.std.proofs.Common.{Option, Result, Err}
use mathlib.Core.Path.{◌≡◌, refl, sym, ap, subst, ◌∙◌}
use mathlib.Core.Logic.{◌⊎◌, inl, inr, ◌↔◌}
use mathlib.Core.Bool.{Bool, true, false, not}
use mathlib.Core.List.{List, [], ◌∷◌, ◌++◌}
use Prim.Native.Nat.{ℕ}
use lib.Dec.{eqb, ltb}
use lib.ListN.{length, get_or}
use Rattle.base.specs.Buffers.{nfo_least, rtu_least, ascii_least, reply_least}
use Rattle.base.specs.Choice.{pick, both}
use Rattle.base.specs.Order.{Line, when, first_of, saying}
use Rattle.base.proofs.Tests.{pick_yes, pick_no}
use Rattle.table.specs.declared.labels.Row.{Row}
use Rattle.port.specs.Port.{Numbers}
use Rattle.drive.specs.Plant.{Plant, station}
use Rattle.answers.specs.declared.Answer.{Answer}
use Rattle.answers.specs.declared.Answer.TheVariants.{Refused}
use Rattle.answers.specs.Answer.{refusal_number, answer_number}
use Rattle.permit.specs.Refusals.{read_only, read_line, write_lines}
use Rattle.permit.specs.Permit.{permit_of}
use Rattle.service.specs.Write.{written}
use Rattle.service.specs.Serving.{Served, the_row, keeping, permitted, told_served, wrote_served}
use Rattle.pending.specs.Held.{held}
use Rattle.pending.specs.Scanning.{Scan}
use Rattle.nfo_parts.specs.declared.message.Message.{Message}
use Rattle.nfo_parts.specs.declared.message.Message.TheVariants.{Enquiry, Select}
use Rattle.nfo_parts.specs.Parts.{message_of}
use Rattle.nfo_service.specs.Serve as Nfo
use Rattle.card.specs.Outcome.{outcome_number}
use Rattle.card.specs.State.{protocol_of}
use Rattle.card.specs.declared.state.Card.{Card}
use Rattle.card.specs.declared.outcome.Outcome.{Outcome}
use Rattle.card.specs.declared.outcome.Outcome.TheVariants as Outcomes
use Rattle.modbus_words.specs.Words.{long_at}
use Rattle.modbus.specs.Request.{request_of}
use Rattle.modbus.specs.declared.requests.Request.{Request}
use Rattle.modbus.specs.declared.requests.Request.TheVariants.{Read, One, Many, Identify, Serial, Malformed, Unknown}
use Rattle.rtu.specs.Rtu.{frame_holds, address_in, unit_in}
use Rattle.ascii.specs.Ascii.{bytes_in, unit_among}
use Rattle.modbus_service.specs.Serve as Modbus
use Rattle.modbus_service.specs.Reply.{exchanged}
use Rattle.turn.specs.Turn.{Received, too_short, waiting}
use Rattle.turn.specs.Stream.{by_scan}
use Rattle.nfo_port.specs.Receive.{nfo_stream, nfo_received}
use Rattle.rtu_port.specs.Receive as Rtu
use Rattle.ascii_port.specs.Receive.{ascii_stream, ascii_received}
use Rattle.receive.specs.Receive.{received}
use Rattle.demands.specs.Orders.{Gives, nfo_order, change_lines, modbus_order, scan_of, serial_order, ascii_order, rtu_order, call_order}
use Rattle.demands.specs.Demand1.{number_in}
use Rattle.answers.specs.declared.Change.{Change}
use Rattle.answers.specs.declared.Refusal.{Refusal}

-- ---- orders, and the number of the first line that applies
module _ {A : Type 0} (number : A → ℕ) where
  gives_first : (ls : List (Line A)) → Gives number ls (first_of (saying number ls) 0)
  gives_first [] = refl
  gives_first (l ∷ ls) = go l.test refl (gives_first ls)
    where
      go : (t : Bool) → l.test ≡ t → Gives number ls (first_of (saying number ls) 0)
          → ((l.test ≡ true) × (number l.answer ≡ pick t (number l.answer) (first_of (saying number ls) 0)))
          ⊎ ((l.test ≡ false) × Gives number ls (pick t (number l.answer) (first_of (saying number ls) 0)))
      go true e g = inl (e, refl)
      go false e g = inr (e, g)

  gives_one : (ls : List (Line A)) (n : ℕ) → Gives number ls n → first_of (saying number ls) 0 ≡ n
  gives_one [] n e = sym e
  gives_one (l ∷ ls) n (inl (e, h)) = sym (pick_yes l.test _ _ n e (sym h))
  gives_one (l ∷ ls) n (inr (e, g)) = sym (pick_no l.test _ _ n e (sym (gives_one ls n g)))

  -- a number that is the first line's is given by the order, and only it
  pub gives : (ls : List (Line A)) (m n : ℕ) → m ≡ first_of (saying number ls) 0 → (m ≡ n) ↔ Gives number ls n
  gives ls m n e = (λ h. subst (Gives number ls) (sym e ∙ h) (gives_first ls), λ g. e ∙ gives_one ls n g)

  -- the number of the first of lines that were said in other words
  first_by : {B : Type 0} (count : B → ℕ) (say : A → B) → ((a : A) → count (say a) ≡ number a) → (ls : List (Line A)) (b : B)
      → count (first_of (saying say ls) b) ≡ first_of (saying number ls) (count b)
  first_by count say same [] b = refl
  first_by count say same (l ∷ ls) b = go l.test (first_by count say same ls b)
    where
      go : (t : Bool) → count (first_of (saying say ls) b) ≡ first_of (saying number ls) (count b)
          → count (pick t (say l.answer) (first_of (saying say ls) b)) ≡ pick t (number l.answer) (first_of (saying number ls) (count b))
      go true e = same l.answer
      go false e = e

-- the lines of a message, as those of a call
first_served : (ls : List (Line Answer)) → first_of (saying outcome_number (saying Outcomes.Served ls)) 0 ≡ first_of (saying answer_number ls) 0
first_served [] = refl
first_served (l ∷ ls) = ap (pick l.test (answer_number l.answer)) (first_served ls)

-- ---- what is served
abbrev pub served_number : Served → ℕ
served_number s = answer_number s.answer

-- a write, by 3 to 7
wrote_number : (p : Plant) (q : Numbers) (row w : ℕ) → served_number (wrote_served p q row w) ≡ first_of (saying answer_number (saying Refused (read_line row ∷ write_lines p row w))) 0
unfolding wrote_served written permit_of
wrote_number p q row w = first_by refusal_number (λ (k : Result Change Refusal). answer_number (permitted k)) Err (λ r. refl) (read_line row ∷ write_lines p row w) _

-- line 3 need not be read again, and the stop passes by the lines from 4 on
again : (r h s : Bool) (a b : ℕ) (ls : List (Line Answer))
    → pick r a (pick h b (pick s 0 (pick r a (first_of (saying answer_number ls) 0)))) ≡ pick r a (pick h b (first_of (saying answer_number (pick s [] ls)) 0))
again true h s a b ls = refl
again false h true a b ls = refl
again false h false a b ls = refl

module _ (p : Plant) (q : Numbers) (adr : ℕ) where
  row_number : (row : Row) (v : Option ℕ)
      → served_number (Nfo.row_selected p q adr row v)
      ≡ first_of (saying answer_number (Nfo.row_lines row v ++ pick (Nfo.stops p adr row.0 (Nfo.the_word v)) [] (saying Refused (write_lines p row.0 (Nfo.the_word v))))) 0
  unfolding Nfo.row_selected
  row_number row v =
      let w : ℕ = Nfo.the_word v in
      let t : Bool = Nfo.stops p adr row.0 w in
      first_by answer_number served_number (keeping p q) (λ a. refl) (Nfo.row_lines row v) (pick t (Nfo.stop_served p q row w) (wrote_served p q row.0 w))
      ∙ ap (first_of (saying answer_number (Nfo.row_lines row v))) (stop t ∙ ap (pick t 0) (wrote_number p q row.0 w))
      ∙ again (read_only row.0) (Nfo.not_hex v) t 3 8 (saying Refused (write_lines p row.0 w))
    where
      stop : (t : Bool) → served_number (pick t (Nfo.stop_served p q row (Nfo.the_word v)) (wrote_served p q row.0 (Nfo.the_word v))) ≡ pick t 0 (served_number (wrote_served p q row.0 (Nfo.the_word v)))
      stop true = refl
      stop false = refl

pub nfo_number : (p : Plant) (q : Numbers) (m : Message) → served_number (Nfo.served p q m) ≡ first_of (saying answer_number (nfo_order p m)) 0
unfolding Nfo.served Nfo.enquiry_served Nfo.select_served told_served
nfo_number p q (Enquiry adr e) =
    first_by answer_number served_number (keeping p q) (λ a. refl) (Nfo.enquiry_lines p adr (Nfo.row_named e)) (told_served p q (the_row (Nfo.row_named e)))
nfo_number p q (Select adr e v) =
    first_by answer_number served_number (keeping p q) (λ a. refl) (Nfo.name_lines p adr (Nfo.row_named e)) (Nfo.row_selected p q adr (the_row (Nfo.row_named e)) v)
    ∙ ap (first_of (saying answer_number (Nfo.name_lines p adr (Nfo.row_named e)))) (row_number p q adr (the_row (Nfo.row_named e)) v)

-- a number of a choice is the choice of the numbers
of_pick : {B : Type 0} (count : B → ℕ) (t : Bool) (x y : B) → count (pick t x y) ≡ pick t (count x) (count y)
of_pick count true x y = refl
of_pick count false x y = refl

module _ (p : Plant) (q : Numbers) where
  task_number : (row : Row) (r : Request) (u : List ℕ) → served_number (Modbus.done p q (Modbus.task_at row r u)) ≡ first_of (saying answer_number (change_lines p row r u)) 0
  unfolding Modbus.done told_served
  task_number row (Read f first n) u = refl
  task_number row (One register w) u = wrote_number p q row.0 w
  task_number row (Many first n l) u = wrote_number p q row.0 (long_at u l.from)
  task_number row (Identify code object) u = refl
  task_number row Serial u = refl
  task_number row (Malformed f) u = refl
  task_number row (Unknown f) u = refl

  request_number : (st a : ℕ) (r : Request) (u : List ℕ)
      → served_number (Modbus.done p q (Modbus.task_of st a r u)) ≡ first_of (saying answer_number (Modbus.unit_lines st a r ++ change_lines p (the_row (Modbus.row_asked r)) r u)) 0
  unfolding Modbus.task_of Modbus.done
  request_number st a r u =
      of_pick (λ t. served_number (Modbus.done p q t)) (not (Modbus.reaches_us st a)) _ _
      ∙ ap (pick (not (Modbus.reaches_us st a)) 1) (of_pick (λ t. served_number (Modbus.done p q t)) (Modbus.is_unknown r) _ _
      ∙ ap (pick (Modbus.is_unknown r) 9) (of_pick (λ t. served_number (Modbus.done p q t)) (both (Modbus.to_all a) (Modbus.asks_read r)) _ _
      ∙ ap (pick (both (Modbus.to_all a) (Modbus.asks_read r)) 1) (of_pick (λ t. served_number (Modbus.done p q t)) (Modbus.is_malformed r) _ _
      ∙ ap (pick (Modbus.is_malformed r) 8) (of_pick (λ t. served_number (Modbus.done p q t)) (Modbus.asks_nothing r) _ _
      ∙ ap (pick (Modbus.asks_nothing r) 2) (task_number (the_row (Modbus.row_asked r)) r u)))))

pub modbus_number : (p : Plant) (q : Numbers) (a : ℕ) (u : List ℕ) → served_number (Modbus.served p q a u) ≡ first_of (saying answer_number (modbus_order p (station p) a u)) 0
unfolding Modbus.served
modbus_number p q a u = request_number p q (station p) a (request_of u) u

-- ---- a call
-- a line of the protocol's own, and then the message
own : (t : Bool) (x y : Received) (o : Outcome) (s : Served) (ls : List (Line Answer)) → x.outcome ≡ Outcomes.Served s.answer → y.outcome ≡ o
    → served_number s ≡ first_of (saying answer_number ls) 0 → number_in (pick t x y) ≡ first_of (saying outcome_number (when (not t) o ∷ saying Outcomes.Served ls)) 0
own true x y o s ls e f h = ap outcome_number e ∙ h ∙ sym (first_served ls)
own false x y o s ls e f h = ap outcome_number f

-- 10 first, by the protocol's own least buffer
short_first : (t : Bool) (s x : Received) (ls : List (Line Outcome)) → number_in s ≡ 10 → number_in x ≡ first_of (saying outcome_number ls) 0
    → number_in (pick t s x) ≡ first_of (saying outcome_number (when t Outcomes.ShortBuffer ∷ ls)) 0
short_first true s x ls h p = h
short_first false s x ls h p = p

by_protocol : (e f : Bool) (room : ℕ) (s x y z : Received) (ls ms ns : List (Line Outcome)) → number_in s ≡ 10
    → number_in x ≡ first_of (saying outcome_number ls) 0 → number_in y ≡ first_of (saying outcome_number ms) 0 → number_in z ≡ first_of (saying outcome_number ns) 0
    → number_in (pick e (pick (ltb room rtu_least) s x) (pick f (pick (ltb room ascii_least) s y) (pick (ltb room nfo_least) s z)))
    ≡ first_of (saying outcome_number (when (ltb room (pick e rtu_least (pick f ascii_least nfo_least))) Outcomes.ShortBuffer ∷ pick e ls (pick f ms ns))) 0
by_protocol true f room s x y z ls ms ns h p q r = short_first (ltb room rtu_least) s x ls h p
by_protocol false true room s x y z ls ms ns h p q r = short_first (ltb room ascii_least) s y ms h q
by_protocol false false room s x y z ls ms ns h p q r = short_first (ltb room nfo_least) s z ns h r

module _ (c : Card) (bytes : List ℕ) (room : ℕ) where
  rtu_number : number_in (pick (frame_holds bytes) (Rtu.taken c bytes) (Rtu.spoilt c (length bytes))) ≡ first_of (saying outcome_number (rtu_order c bytes)) 0
  unfolding exchanged
  rtu_number =
      own (frame_holds bytes) (Rtu.taken c bytes) (Rtu.spoilt c (length bytes)) Outcomes.BadFrame (Rtu.exchange_on c bytes).served
      (modbus_order c.plant (station c.plant) (address_in bytes) (unit_in bytes)) refl refl
      (modbus_number c.plant c.port.numbers (address_in bytes) (unit_in bytes))

  ascii_number : (scan : Scan) → number_in (by_scan ascii_stream c scan) ≡ first_of (saying outcome_number (ascii_order c scan)) 0
  unfolding exchanged waiting
  ascii_number scan =
      let m : List ℕ = bytes_in (held scan.pending) in
      own scan.taken _ _ Outcomes.NothingTaken (ascii_stream.served c scan.pending) (modbus_order c.plant (station c.plant) (get_or m 0 0) (unit_among m)) refl refl
      (modbus_number c.plant c.port.numbers (get_or m 0 0) (unit_among m))

  serial_number : (scan : Scan) → number_in (by_scan nfo_stream c scan) ≡ first_of (saying outcome_number (serial_order c scan)) 0
  unfolding waiting
  serial_number scan =
      own scan.taken _ _ Outcomes.NothingTaken (nfo_stream.served c scan.pending) (nfo_order c.plant (message_of scan.pending.bytes)) refl refl
      (nfo_number c.plant c.port.numbers (message_of scan.pending.bytes))

  pub received_number : number_in (received c bytes room) ≡ first_of (saying outcome_number (call_order c bytes room)) 0
  unfolding received Rtu.rtu_received ascii_received nfo_received reply_least
  received_number =
      by_protocol (eqb (protocol_of c) 1) (eqb (protocol_of c) 2) room (too_short c) _ _ _
      (rtu_order c bytes) (ascii_order c (scan_of ascii_stream.feeding c bytes)) (serial_order c (scan_of nfo_stream.feeding c bytes)) refl
      rtu_number (ascii_number (scan_of ascii_stream.feeding c bytes)) (serial_number (scan_of nfo_stream.feeding c bytes))
