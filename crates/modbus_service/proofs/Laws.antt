-- Serving a data unit, case by case: what the tests and the callees told, and the case of the definition. Assumes nothing.
use Rattle.std.proofs.Common.{Option, Some, None}
use mathlib.Core.Path.{◌≡◌, refl, sym, ap, ◌∙◌}
use mathlib.Core.Bool.{Bool, true, false, not}
use mathlib.Core.List.{List}
use Prim.Native.Nat.{ℕ, ◌%◌, ◌<◌}
use native.Mathlib.Nat.{mod-eq_of_lt}
use borrow.Author.Tests.{eq-eqb, ne_eqb, not-true, not-false}
use Rattle.base.specs.Choice.{pick, both}
use Rattle.base.proofs.Tests.{both_false}
use Rattle.table.specs.Table.{line_at}
use Rattle.table.specs.Find.{row_of_span}
use Rattle.table.specs.declared.labels.Row.{Row}
use Rattle.table.specs.declared.labels.Register.{Register}
use Rattle.identity.specs.Identity.{objects_asked}
use Rattle.identity.specs.declared.Part.{Part}
use Rattle.identity.specs.declared.Part.TheVariants as Parts
use Rattle.port.specs.Port.{Numbers}
use Rattle.drive.specs.Plant.{Plant, station}
use Rattle.answers.specs.declared.Answer.{Answer}
use Rattle.answers.specs.declared.Answer.TheVariants as Answers
use Rattle.answers.specs.declared.Change.{Change}
use Rattle.answers.specs.declared.Refusal.{Refusal}
use Rattle.answers.specs.declared.Refusal.TheVariants as Refusals
use Rattle.answers.specs.Answer.{answer_number}
use Rattle.reading.specs.Read.{told}
use Rattle.service.specs.Serving.{Served, keeping, permitted, told_served}
use Rattle.service.proofs.Laws.{told_is, wrote_is, wrote_keeps}
use Rattle.service.specs.Write.{written}
use Rattle.modbus_words.specs.Words.{long_at}
use Rattle.modbus.specs.Request.{request_of}
use Rattle.modbus.specs.declared.requests.Span.{Span}
use Rattle.modbus.specs.declared.requests.Request.{Request}
use Rattle.modbus.specs.declared.requests.Request.TheVariants.{Read, One, Many, Identify, Serial, Malformed, Unknown}
use Rattle.modbus.specs.declared.replies.Answer as Units
use Rattle.modbus.specs.declared.replies.Answer.TheVariants.{Word, Long, Echo, Identity, Exception}
use Rattle.modbus_service.specs.Serve.{to_all, reaches_us, reading, no_object, the_part, part_said, part_task, task_of, done, served}
use Rattle.modbus_service.specs.Reply.{Exchanged, head_of, exception_of, registers_told, replied_by, replied, exchanged}
use Rattle.modbus_service.specs.declared.Task.{Task}
use Rattle.modbus_service.specs.declared.Task.TheVariants.{Tell, Write, Say}
use Rattle.modbus_service.specs.declared.Head.{Head}

-- ---- a part of the identity: the lines that may refuse it, and what is said of it
module _ (a : ℕ) (n : Option Part) where
  pub part_all : a ≡ 0 → Say Answers.NotOurs ≡ part_task a n
  unfolding part_task
  part_all z = simp (eq-eqb a 0 z)

  pub part_none : (a ≡ 0 → ⊥) → n ≡ None → Say (Answers.Refused Refusals.NoRow) ≡ part_task a n
  unfolding part_task
  part_none z e = simp (ne_eqb a 0 z, e)

  pub part_some : (part : Part) → (a ≡ 0 → ⊥) → n ≡ Some part → Say (Answers.Identified part) ≡ part_task a n
  unfolding part_task
  part_some part z e = simp (ne_eqb a 0 z, e)

part_lines : (t : Bool) (n : Option Part)
    → pick t (Say Answers.NotOurs) (part_said n)
    ≡ pick (both t true) (Say Answers.NotOurs) (pick (both (no_object n) true) (Say (Answers.Refused Refusals.NoRow)) (Say (Answers.Identified (the_part n))))
part_lines true n = refl
part_lines false (Some part) = refl
part_lines false None = refl

-- ---- what a request asks of the plant
module _ (st a : ℕ) (q : Request) (u : List ℕ) (t : Bool) (reaches : t ≡ reaches_us st a) where
  pub task_other : not t ≡ true → Say Answers.NotOurs ≡ task_of st a q u
  unfolding task_of
  task_other h = simp (sym reaches ∙ not-true t h)

  module _ (ours : not t ≡ false) where
    to_us : reaches_us st a ≡ true
    to_us = sym reaches ∙ not-false t ours

    pub task_unknown : (f : ℕ) → q ≡ Unknown f → Say (Answers.Refused Refusals.NoFunction) ≡ task_of st a q u
    unfolding task_of
    task_unknown f e = simp (to_us, e)

    -- 03 and 04
    pub task_read_all : (f n : ℕ) (r : Register) → q ≡ Read f r n → a ≡ 0 → Say Answers.NotOurs ≡ task_of st a q u
    unfolding task_of
    task_read_all f n r e z = simp (to_us, e, eq-eqb a 0 z)

    pub task_read_none : (f n : ℕ) (r : Register) (g : Option Row) → q ≡ Read f r n → (a ≡ 0 → ⊥) → g ≡ row_of_span r.0 n → g ≡ None → Say (Answers.Refused Refusals.NoRow) ≡ task_of st a q u
    unfolding task_of
    task_read_none f n r g e z d h = simp (to_us, e, ne_eqb a 0 z, sym d ∙ h)

    pub task_read : (f n : ℕ) (r : Register) (g : Option Row) (row : Row) → q ≡ Read f r n → (a ≡ 0 → ⊥) → g ≡ row_of_span r.0 n → g ≡ Some row → Tell row ≡ task_of st a q u
    unfolding task_of
    task_read f n r g row e z d h = simp (to_us, e, ne_eqb a 0 z, sym d ∙ h)

    -- 06
    pub task_one_none : (r : Register) (w : ℕ) (g : Option Row) → q ≡ One r w → g ≡ row_of_span r.0 1 → g ≡ None → Say (Answers.Refused Refusals.NoRow) ≡ task_of st a q u
    unfolding task_of
    task_one_none r w g e d h = simp (to_us, e, both_false (to_all a), sym d ∙ h)

    pub task_one : (r : Register) (w v : ℕ) (g : Option Row) (row : Row) → q ≡ One r w → g ≡ row_of_span r.0 1 → g ≡ Some row → v ≡ w → Write row v ≡ task_of st a q u
    unfolding task_of
    task_one r w v g row e d h k = rw k (simp (to_us, e, both_false (to_all a), sym d ∙ h))

    -- 16
    pub task_many_none : (r : Register) (n : ℕ) (place : Span) (g : Option Row) → q ≡ Many r n place → g ≡ row_of_span r.0 n → g ≡ None → Say (Answers.Refused Refusals.NoRow) ≡ task_of st a q u
    unfolding task_of
    task_many_none r n place g e d h = simp (to_us, e, both_false (to_all a), sym d ∙ h)

    pub task_many : (r : Register) (n v : ℕ) (place : Span) (g : Option Row) (row : Row) → q ≡ Many r n place → g ≡ row_of_span r.0 n → g ≡ Some row → v ≡ long_at u place.from → Write row v ≡ task_of st a q u
    unfolding task_of
    task_many r n v place g row e d h k = simp (to_us, e, both_false (to_all a), sym d ∙ h, k)

    -- 43 and 17
    pub task_identify : (code object : ℕ) (n : Option Part) (r : Task) → q ≡ Identify code object → n ≡ objects_asked code object → r ≡ part_task a n → r ≡ task_of st a q u
    unfolding task_of part_task
    task_identify code object n r e d h = simp (to_us, e) (h ∙ ap (part_task a) d ∙ part_lines (to_all a) (objects_asked code object))

    pub task_serial : (r : Task) → q ≡ Serial → r ≡ part_task a (Some Parts.Serial) → r ≡ task_of st a q u
    unfolding task_of part_task
    task_serial r e h = simp (to_us, e) (h ∙ part_lines (to_all a) (Some Parts.Serial))

    -- a bad length, count or identification code
    pub task_malformed_all : (f : ℕ) (b : Bool) → q ≡ Malformed f → b ≡ both (to_all a) (reading f) → b ≡ true → Say Answers.NotOurs ≡ task_of st a q u
    unfolding task_of
    task_malformed_all f b e d h = simp (to_us, e, sym d ∙ h)

    pub task_malformed : (f : ℕ) (b : Bool) → q ≡ Malformed f → b ≡ both (to_all a) (reading f) → b ≡ false → Say (Answers.Refused Refusals.Malformed) ≡ task_of st a q u
    unfolding task_of
    task_malformed f b e d h = simp (to_us, e, sym d ∙ h)

-- ---- what is done: the plant and the port are `x` and `y` then
pub done_told : (p : Plant) (q : Numbers) (t : Task) (x : Plant) (y : Numbers) (row : Row) (w : ℕ) → t ≡ Tell row
    → record { plant = x; port = y; word = w } ≡ told p q row.0 → keeping x y (Answers.Told row w) ≡ done p q t
unfolding done
done_told p q t x y row w h e = rw h (told_is p q x y row w e)

module _ (p : Plant) (q : Numbers) (t : Task) (x : Plant) (a : Answer) where
  pub done_written : (row : Row) (v : ℕ) → t ≡ Write row v → x ≡ (written p row.0 v).plant → a ≡ permitted (written p row.0 v).permit → keeping x q a ≡ done p q t
  unfolding done
  done_written row v h d e = rw h (wrote_is p x q row.0 v a d e)

pub done_said : (p : Plant) (q : Numbers) (t : Task) (a : Answer) → t ≡ Say a → keeping p q a ≡ done p q t
unfolding done
done_said p q t a h = simp h

-- an outcome other than 0 changes nothing: "Refusals 2 to 9 change no state but the time sum, 1 and 10 to 14 none"
done_keeps : (p : Plant) (q : Numbers) (t : Task) → (answer_number (done p q t).answer ≡ 0 → ⊥) → done p q t ≡ keeping p q (done p q t).answer
unfolding done told_served
done_keeps p q (Tell row) n = absurd (n refl)
done_keeps p q (Write row v) n = wrote_keeps p q row.0 v n
done_keeps p q (Say answer) n = refl

pub served_keeps : (p : Plant) (q : Numbers) (a : ℕ) (unit : List ℕ) → (answer_number (served p q a unit).answer ≡ 0 → ⊥) → served p q a unit ≡ keeping p q (served p q a unit).answer
unfolding served
served_keeps p q a unit = done_keeps p q (task_of (station p) a (request_of unit) unit)

-- ---- the registers of a row
pub told_long : (f : ℕ) (row : Row) (w n : ℕ) → n ≡ (line_at row.0).registers → n ≡ 2 → w < 4294967296 → Long f w ≡ registers_told f row w
unfolding registers_told
told_long f row w n d h l = simp (eq-eqb (line_at row.0).registers 2 (sym d ∙ h), mod-eq_of_lt l)

pub told_word : (f : ℕ) (row : Row) (w n : ℕ) → n ≡ (line_at row.0).registers → (n ≡ 2 → ⊥) → Word f (w % 65536) ≡ registers_told f row w
unfolding registers_told
told_word f row w n d h = simp (ne_eqb (line_at row.0).registers 2 (λ e. h (d ∙ e)))

-- ---- the reply to one that is not broadcast
module _ (a : ℕ) (h : Head) (x : Answer) (one : a ≡ 0 → ⊥) where
  pub replied_told : (row : Row) (w : ℕ) (y : Units.Answer) → x ≡ Answers.Told row w → y ≡ registers_told h.function row w → Some y ≡ replied_by a h x
  unfolding replied_by
  replied_told row w y k e = simp (ne_eqb a 0 one, k, e)

  pub replied_written : (change : Change) → x ≡ Answers.Written change → Some (Echo h.function h.register h.number) ≡ replied_by a h x
  unfolding replied_by
  replied_written change k = simp (ne_eqb a 0 one, k)

  pub replied_part : (part : Part) → x ≡ Answers.Identified part → Some (Identity part) ≡ replied_by a h x
  unfolding replied_by
  replied_part part k = simp (ne_eqb a 0 one, k)

  pub replied_none : x ≡ Answers.NotOurs → None ≡ replied_by a h x
  unfolding replied_by
  replied_none k = simp (ne_eqb a 0 one, k)

  pub replied_refused : (refusal : Refusal) (n : ℕ) → x ≡ Answers.Refused refusal → n ≡ exception_of refusal → Some (Exception h.function n) ≡ replied_by a h x
  unfolding replied_by
  replied_refused refusal n k e = simp (ne_eqb a 0 one, k, e)

-- ---- a unit and its reply
pub exchange_is : (p x : Plant) (q y : Numbers) (a : ℕ) (unit : List ℕ) (request : Request) (t : Task) (z : Answer) (h : Head) (r : Option Units.Answer)
    → request ≡ request_of unit → t ≡ task_of (station p) a request unit → keeping x y z ≡ done p q t → h ≡ head_of request → r ≡ replied_by a h z
    → ◌≡◌ {A = Exchanged} (record { served = keeping x y z; reply = r }) (exchanged p q a unit)
unfolding exchanged served replied
exchange_is p x q y a unit request t z h r d e f g k =
    simp (k, g, ← d, ← e) (ap (λ (s : Served). record { served = s; reply = replied_by a (head_of request) s.answer }) f)
