-- What a caller learns of a unit's bytes: a reply's numbers are in their widths, so that its unit is bytes again; and what a 16 writes. Assumes nothing.
use Rattle.std.proofs.Common.{Option, Some, None, Result, Ok, Err}
use mathlib.Core.Path.{◌≡◌, refl, ap, subst, ◌∙◌}
use mathlib.Core.Bool.{not}
use mathlib.Core.List.{List, [], ◌∷◌}
use Prim.Native.Nat.{ℕ, zero, suc, ◌+◌, ◌*◌, ◌<◌}
use native.Mathlib.Omega.{arith}
use lib.Dec.{eqb, ltb}
use lib.ListN.{length, get_or}
use borrow.Author.Tests.{eqb-true}
use Rattle.base.specs.Choice.{pick, both, either}
use Rattle.base.specs.Bytes.{AllBelow, Bytes}
use Rattle.base.proofs.Tests.{both_out, pick_both}
use Rattle.table.specs.Table.{line_at}
use Rattle.table.specs.declared.labels.Row.{Row}
use Rattle.table.specs.declared.labels.Register.{Register}
use Rattle.identity.specs.Identity.{up_to, objects_asked}
use Rattle.identity.specs.declared.Part.{Part}
use Rattle.identity.specs.declared.Part.TheVariants.{Objects}
use Rattle.port.specs.Port.{Numbers}
use Rattle.drive.specs.Plant.{Plant, station}
use Rattle.answers.specs.declared.Answer.{Answer}
use Rattle.answers.specs.declared.Answer.TheVariants.{Told, Written, Identified, NotOurs, Refused}
use Rattle.answers.specs.declared.Refusal.{Refusal}
use Rattle.answers.specs.declared.Refusal.TheVariants as Refusals
use Rattle.service.specs.Write.{written}
use Rattle.service.specs.Serving.{the_row, permitted, told_served, wrote_served}
use Rattle.modbus_words.specs.Words.{word_at, long_at}
use Rattle.modbus.specs.Request.{label, between, reads, writes, asked, asked_of, request_of}
use Rattle.modbus.specs.declared.requests.Span.{Span}
use Rattle.modbus.specs.declared.requests.Request.{Request}
use Rattle.modbus.specs.declared.requests.Request.TheVariants.{Read, One, Many, Identify, Serial, Malformed, Unknown}
use Rattle.modbus.specs.declared.replies.Answer.TheVariants.{Identity}
use Rattle.modbus_words.proofs.Laws.{long_last}
use Rattle.modbus.proofs.Units.{InWidth}
use Rattle.modbus.proofs.Laws.{asked_all, request_all}
use Rattle.modbus_service.specs.Serve.{to_all, reaches_us, asks_read, is_unknown, is_malformed, row_asked, the_part, asks_nothing, task_at, task_of, done, served}
use Rattle.modbus_service.specs.Reply.{head, head_of, exception_of, registers_told, answered, replied_by, replied}
use Rattle.modbus_service.specs.declared.Task.{Task}
use Rattle.modbus_service.specs.declared.Head.{Head}
use Rattle.answers.specs.declared.Change.{Change}
use Rattle.modbus.specs.declared.replies.Answer as Units

-- ---- the head of a request, of a unit of bytes
byte_below : (u : List ℕ) (i : ℕ) → Bytes u → get_or u i 0 < 256
unfolding AllBelow
byte_below [] i b = omega arith
byte_below (x ∷ u) zero b = b.0
byte_below (x ∷ u) (suc i) b = byte_below u i b.1

word_below : (u : List ℕ) (i : ℕ) → Bytes u → word_at u i < 65536
unfolding word_at
word_below u i b = omega (arith, byte_below u i b, byte_below u (i + 1) b)

abbrev HeadIn : Head → Type 0
HeadIn h = (h.function < 256) × (h.register.0 < 65536) × (h.number < 65536)

abbrev In : Request → Type 0
In q = HeadIn (head_of q)

asked_in : (n f a k m : ℕ) → f < 256 → a < 65536 → k < 65536 → In (asked n f a k m)
unfolding asked
asked_in n f a k m hf ha hk =
    pick_both In (either (eqb f 3) (eqb f 4)) (λ _. pick_both In (reads n k) (λ _. (hf, ha, hk)) (λ _. (hf, omega arith, omega arith)))
    (λ _. pick_both In (eqb f 6) (λ _. pick_both In (eqb n 5) (λ _. (omega arith, ha, hk)) (λ _. (omega arith, omega arith, omega arith)))
    (λ _. pick_both In (eqb f 16) (λ _. pick_both In (writes n k m) (λ _. (omega arith, ha, hk)) (λ _. (omega arith, omega arith, omega arith)))
    (λ _. (hf, omega arith, omega arith))))

small_in : (f : ℕ) → f < 256 → HeadIn (head f (label 0) 0)
small_in f h = (h, omega arith, omega arith)

head_in : (u : List ℕ) → Bytes u → In (request_of u)
unfolding asked_of
head_in u b =
    let of-43 : HeadIn (head 43 (label 0) 0) = small_in 43 (omega arith) in
    let of-17 : HeadIn (head 17 (label 0) 0) = small_in 17 (omega arith) in
    request_all In u of-43 of-17 of-43 of-17 of-43
    (asked_in (length u) (get_or u 0 0) (word_at u 1) (word_at u 3) (get_or u 5 0) (byte_below u 0 b) (word_below u 1 b) (word_below u 3 b))

-- ---- its reply
abbrev pub ReplyIn : Option Units.Answer → Type 0
ReplyIn None = Unit {0}
ReplyIn (Some answer) = InWidth answer

exception_below : (x : Refusal) → exception_of x < 256
exception_below Refusals.NoRow = omega arith
exception_below Refusals.ReadOnly = omega arith
exception_below Refusals.NotAllowed = omega arith
exception_below Refusals.FlagStands = omega arith
exception_below Refusals.Running = omega arith
exception_below Refusals.NotPermitted = omega arith
exception_below Refusals.Malformed = omega arith
exception_below Refusals.NoFunction = omega arith

registers_in : (f : ℕ) (row : Row) (w : ℕ) → f < 256 → InWidth (registers_told f row w)
unfolding registers_told
registers_in f row w h = pick_both InWidth (eqb (line_at row.0).registers 2) (λ _. (h, omega arith)) (λ _. (h, omega arith))

-- an answer whose numbers are in their widths: only an identification code could be outside
abbrev pub AnswerIn : Answer → Type 0
AnswerIn (Told row w) = Unit {0}
AnswerIn (Written change) = Unit {0}
AnswerIn (Identified part) = InWidth (Identity part)
AnswerIn NotOurs = Unit {0}
AnswerIn (Refused refusal) = Unit {0}

answered_in : (h : Head) (x : Answer) → HeadIn h → AnswerIn x → ReplyIn (answered h x)
answered_in h (Told row w) k l = registers_in h.function row w k.0
answered_in h (Written change) k l = k
answered_in h (Identified part) k l = l
answered_in h NotOurs k l = tt
answered_in h (Refused refusal) k l = (k.0, exception_below refusal)

-- the numbers of a reply to a unit of bytes are in their widths
pub reply_in : (a : ℕ) (u : List ℕ) (x : Answer) → Bytes u → AnswerIn x → ReplyIn (replied a u x)
unfolding replied replied_by
reply_in a u x b l = pick_both ReplyIn (to_all a) (λ _. tt) (λ _. answered_in (head_of (request_of u)) x (head_in u b) l)

-- ---- an identification code is a byte of the unit
abbrev CodeIn : Request → Type 0
CodeIn (Read function first count) = Unit {0}
CodeIn (One register word) = Unit {0}
CodeIn (Many first count place) = Unit {0}
CodeIn (Identify code object) = code < 256
CodeIn Serial = Unit {0}
CodeIn (Malformed function) = Unit {0}
CodeIn (Unknown function) = Unit {0}

code_in : (u : List ℕ) → Bytes u → CodeIn (request_of u)
unfolding asked_of
code_in u b =
    request_all CodeIn u (byte_below u 2 b) tt tt tt tt
    (asked_all CodeIn (length u) (get_or u 0 0) (word_at u 1) (word_at u 3) (get_or u 5 0) tt tt tt (λ _. tt) tt)

abbrev PartIn : Option Part → Type 0
PartIn named = AnswerIn (Identified (the_part named))

part_in : (code object : ℕ) → code < 256 → PartIn (objects_asked code object)
unfolding objects_asked up_to
part_in code object h =
    pick_both PartIn (eqb code 1) (λ _. up_to_lem 0x02)
    (λ _. pick_both PartIn (eqb code 2) (λ _. up_to_lem 0x06) (λ _. pick_both PartIn (ltb 0x06 object) (λ _. tt) (λ _. h)))
  where
    up_to_lem : (last : ℕ) → AnswerIn (Identified (pick (ltb last object) (Objects code 0 last) (Objects code object last)))
    up_to_lem last = pick_both (λ (part : Part). AnswerIn (Identified part)) (ltb last object) (λ _. h) (λ _. h)

permitted_in : (permit : Result Change Refusal) → AnswerIn (permitted permit)
permitted_in (Ok change) = tt
permitted_in (Err refusal) = tt

module _ (p : Plant) (q : Numbers) (a : ℕ) (u : List ℕ) where
  abbrev TaskIn : Task → Type 0
  TaskIn t = AnswerIn (done p q t).answer

  task_in : (row : Row) (r : Request) → CodeIn r → TaskIn (task_at row r u)
  unfolding done told_served wrote_served
  task_in row (Read function first count) k = tt
  task_in row (One register word) k = permitted_in (written p row.0 word).permit
  task_in row (Many first count place) k = permitted_in (written p row.0 (long_at u place.from)).permit
  task_in row (Identify code object) k = part_in code object k
  task_in row Serial k = tt
  task_in row (Malformed function) k = tt
  task_in row (Unknown function) k = tt

  -- so what a unit of bytes is answered has its numbers in their widths
  pub served_in : Bytes u → AnswerIn (served p q a u).answer
  unfolding served task_of done
  served_in b =
      let r : Request = request_of u in
      pick_both TaskIn (not (reaches_us (station p) a)) (λ _. tt)
      (λ _. pick_both TaskIn (is_unknown r) (λ _. tt)
      (λ _. pick_both TaskIn (both (to_all a) (asks_read r)) (λ _. tt)
      (λ _. pick_both TaskIn (is_malformed r) (λ _. tt)
      (λ _. pick_both TaskIn (asks_nothing r) (λ _. tt) (λ _. task_in (the_row (row_asked r)) r (code_in u b))))))

-- ---- a 16: its register bytes begin at place 6, and the unit ends behind them
abbrev pub Placed : ℕ → Request → Type 0
Placed n (Read function first count) = Unit {0}
Placed n (One register word) = Unit {0}
Placed n (Many first count place) = (place.from ≡ 6) × (n ≡ 6 + 2 * count)
Placed n (Identify code object) = Unit {0}
Placed n Serial = Unit {0}
Placed n (Malformed function) = Unit {0}
Placed n (Unknown function) = Unit {0}

asked_placed : (n f a k m : ℕ) → Placed n (asked n f a k m)
unfolding asked writes
asked_placed n f a k m =
    pick_both (Placed n) (either (eqb f 3) (eqb f 4)) (λ _. pick_both (Placed n) (reads n k) (λ _. tt) (λ _. tt))
    (λ _. pick_both (Placed n) (eqb f 6) (λ _. pick_both (Placed n) (eqb n 5) (λ _. tt) (λ _. tt))
    (λ _. pick_both (Placed n) (eqb f 16)
    (λ _. pick_both (Placed n) (writes n k m) (λ e. (refl, eqb-true n (6 + 2 * k) (both_out (eqb m (2 * k)) (eqb n (6 + 2 * k)) (both_out (between 1 123 k) _ e).1).1)) (λ _. tt))
    (λ _. tt)))

many_placed : (u : List ℕ) → Placed (length u) (request_of u)
unfolding asked_of
many_placed u = request_all (Placed (length u)) u tt tt tt tt tt (asked_placed (length u) (get_or u 0 0) (word_at u 1) (word_at u 3) (get_or u 5 0))

-- so what it writes to a row of one register is that register's word
pub many_one : (u : List ℕ) (first : Register) (place : Span) → request_of u ≡ Many first 1 place → long_at u place.from ≡ word_at u 6
many_one u first place e =
    let h : (place.from ≡ 6) × (length u ≡ 8) = subst (λ (q : Request). Placed (length u) q) e (many_placed u) in
    ap (long_at u) h.0 ∙ long_last u 6 (omega (arith, h.1))
