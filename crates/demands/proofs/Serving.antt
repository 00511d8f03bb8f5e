-- What holds of each of the five things that a message can come to, holds of every message of either protocol: nothing is done, a row is told, a row is written,
-- a part of the identity is told, or the broadcast stop. So a message leaves the port's protocol as it is. Assumes nothing.
use mathlib.Core.Path.{◌≡◌, refl}
use mathlib.Core.Bool.{Bool, true, false, not}
use mathlib.Core.List.{List, [], ◌∷◌}
use Prim.Native.Nat.{ℕ}
use native.Mathlib.Omega.{arith}
use lib.Dec.{eqb}
use lib.Seq.{get_or-set_other}
use Rattle.base.specs.Choice.{both}
use Rattle.base.specs.Order.{when, first_of, saying}
use Rattle.base.proofs.Tests.{pick_both}
use Rattle.table.specs.Names.{Inv-St-ack, Inv-St, SioErr}
use Rattle.table.specs.declared.labels.Row.{Row}
use Rattle.identity.specs.Identity.{objects_asked}
use Rattle.identity.specs.declared.Part.{Part}
use Rattle.identity.specs.declared.Part.TheVariants as Parts
use Rattle.port.specs.Port.{Numbers, ProtocolAt, Sum, Sioerr, protocol, with_sum, with_sioerr}
use Rattle.drive.specs.Plant.{Plant, station}
use Rattle.answers.specs.declared.Answer.{Answer}
use Rattle.answers.specs.declared.Answer.TheVariants as Answers
use Rattle.answers.specs.declared.Refusal.{Refusal}
use Rattle.answers.specs.declared.Refusal.TheVariants as Refusals
use Rattle.permit.specs.Refusals.{read_only}
use Rattle.reading.specs.Read.{Told, told}
use Rattle.service.specs.Serving.{Served, is_none, the_row, keeping, told_served, wrote_served}
use Rattle.nfo_parts.specs.declared.message.Message.{Message}
use Rattle.nfo_parts.specs.declared.message.Message.TheVariants.{Enquiry, Select}
use Rattle.nfo_service.specs.Serve as Nfo
use Rattle.modbus_words.specs.Words.{long_at}
use Rattle.modbus.specs.Request.{request_of}
use Rattle.modbus.specs.declared.requests.Request.{Request}
use Rattle.modbus.specs.declared.requests.Request.TheVariants.{Read, One, Many, Identify, Serial, Malformed, Unknown}
use Rattle.modbus_service.specs.Serve as Modbus
use Rattle.turn.specs.Turn.{port_after}

-- what a message can come to: outcome 1 or a refusal, and then nothing changes; a row told; a row written, or refused; over Modbus a part
-- of the identity told, and nothing changes; over NFO serial the broadcast stop
pub data Came (p : Plant) (q : Numbers) : (nfo : Bool) → Served → Type 0 where
  not_ours : {nfo : Bool} → Came p q nfo (keeping p q Answers.NotOurs)
  refused : {nfo : Bool} (x : Refusal) → Came p q nfo (keeping p q (Answers.Refused x))
  told_row : {nfo : Bool} (row : Row) → Came p q nfo (told_served p q row)
  wrote_row : {nfo : Bool} (row w : ℕ) → Came p q nfo (wrote_served p q row w)
  identified : (part : Part) → Came p q false (keeping p q (Answers.Identified part))
  stop : (adr : ℕ) (row : Row) (w : ℕ) → Nfo.stops p adr row.0 w ≡ true → Came p q true (Nfo.stop_served p q row w)

module _ (p : Plant) (q : Numbers) where
  abbrev OfNfo : Served → Type 0
  OfNfo s = Came p q true s

  named : (reaches : Bool) (none : Bool) (x : Served) → OfNfo x
      → OfNfo (first_of (saying (keeping p q) (when (not reaches) Answers.NotOurs ∷ when none (Answers.Refused Refusals.NoRow) ∷ [])) x)
  named reaches none x k = pick_both OfNfo (not reaches) (λ _. not_ours) (λ _. pick_both OfNfo none (λ _. refused Refusals.NoRow) (λ _. k))

  pub nfo_came : (m : Message) → Came p q true (Nfo.served p q m)
  unfolding Nfo.served Nfo.enquiry_served Nfo.select_served Nfo.row_selected
  nfo_came (Enquiry adr e) = named (Nfo.to_us p adr) (is_none (Nfo.row_named e)) (told_served p q (the_row (Nfo.row_named e))) (told_row (the_row (Nfo.row_named e)))
  nfo_came (Select adr e v) =
      let row : Row = the_row (Nfo.row_named e) in
      named (Nfo.reaches_us p adr) (is_none (Nfo.row_named e)) (Nfo.row_selected p q adr row v)
      (pick_both OfNfo (read_only row.0) (λ _. refused Refusals.ReadOnly)
      (λ _. pick_both OfNfo (Nfo.not_hex v) (λ _. refused Refusals.Malformed)
      (λ _. pick_both OfNfo (Nfo.stops p adr row.0 (Nfo.the_word v)) (λ t. stop adr row (Nfo.the_word v) t) (λ _. wrote_row row.0 (Nfo.the_word v)))))

  task_came : (row : Row) (r : Request) (u : List ℕ) → Came p q false (Modbus.done p q (Modbus.task_at row r u))
  unfolding Modbus.done
  task_came row (Read f register n) u = told_row row
  task_came row (One register w) u = wrote_row row.0 w
  task_came row (Many register n place) u = wrote_row row.0 (long_at u place.from)
  task_came row (Identify code object) u = identified (Modbus.the_part (objects_asked code object))
  task_came row Serial u = identified Parts.Serial
  task_came row (Malformed f) u = told_row row
  task_came row (Unknown f) u = told_row row

  request_came : (a : ℕ) (r : Request) (u : List ℕ) → Came p q false (Modbus.done p q (Modbus.task_of (station p) a r u))
  unfolding Modbus.task_of Modbus.done
  request_came a r u =
      pick_both (λ t. Came p q false (Modbus.done p q t)) (not (Modbus.reaches_us (station p) a)) (λ _. not_ours)
      (λ _. pick_both (λ t. Came p q false (Modbus.done p q t)) (Modbus.is_unknown r) (λ _. refused Refusals.NoFunction)
      (λ _. pick_both (λ t. Came p q false (Modbus.done p q t)) (both (Modbus.to_all a) (Modbus.asks_read r)) (λ _. not_ours)
      (λ _. pick_both (λ t. Came p q false (Modbus.done p q t)) (Modbus.is_malformed r) (λ _. refused Refusals.Malformed)
      (λ _. pick_both (λ t. Came p q false (Modbus.done p q t)) (Modbus.asks_nothing r) (λ _. refused Refusals.NoRow) (λ _. task_came (the_row (Modbus.row_asked r)) r u)))))

  pub modbus_came : (a : ℕ) (u : List ℕ) → Came p q false (Modbus.served p q a u)
  unfolding Modbus.served
  modbus_came a u = request_came a (request_of u) u

-- so what holds of each of these holds of every message
module _ (Q : Served → Type 0) (p : Plant) (q : Numbers) (kept : (a : Answer) → Q (keeping p q a)) (tells : (row : Row) → Q (told_served p q row))
    (writes : (row w : ℕ) → Q (wrote_served p q row w)) where
  pub nfo_each : ((row : Row) (w : ℕ) → Q (Nfo.stop_served p q row w)) → (m : Message) → Q (Nfo.served p q m)
  nfo_each stops m = go (nfo_came p q m)
    where
      go : {s : Served} → Came p q true s → Q s
      go not_ours = kept Answers.NotOurs
      go (refused x) = kept (Answers.Refused x)
      go (told_row row) = tells row
      go (wrote_row row w) = writes row w
      go (stop adr row w t) = stops row w

  pub modbus_each : (a : ℕ) (u : List ℕ) → Q (Modbus.served p q a u)
  modbus_each a u = go (modbus_came p q a u)
    where
      go : {s : Served} → Came p q false s → Q s
      go not_ours = kept Answers.NotOurs
      go (refused x) = kept (Answers.Refused x)
      go (told_row row) = tells row
      go (wrote_row row w) = writes row w
      go (identified part) = kept (Answers.Identified part)

-- ---- the port's protocol
pub sum_speaks : (x : ℕ) (q : Numbers) → protocol (with_sum x q) ≡ protocol q
sum_speaks x q = get_or-set_other q Sum ProtocolAt x 0 (λ e. absurd (omega (arith, e)))

pub sioerr_speaks : (x : ℕ) (q : Numbers) → protocol (with_sioerr x q) ≡ protocol q
sioerr_speaks x q = get_or-set_other q Sioerr ProtocolAt x 0 (λ e. absurd (omega (arith, e)))

pub after_speaks : (a : Answer) (q : Numbers) → protocol (port_after a q) ≡ protocol q
after_speaks (Answers.Told row word) q = sum_speaks 0 q
after_speaks (Answers.Written change) q = sum_speaks 0 q
after_speaks (Answers.Identified part) q = sum_speaks 0 q
after_speaks Answers.NotOurs q = refl
after_speaks (Answers.Refused refusal) q = sum_speaks 0 q

module _ (p : Plant) (q : Numbers) where
  abbrev Speaks : Served → Type 0
  Speaks s = protocol s.port ≡ protocol q

  told_speaks : (row : Row) → Speaks (told_served p q row)
  unfolding told_served told
  told_speaks row =
      pick_both Tells (eqb row.0 Inv-St-ack) (λ _. refl)
      (λ _. pick_both Tells (eqb row.0 Inv-St) (λ _. refl) (λ _. pick_both Tells (eqb row.0 SioErr) (λ _. sioerr_speaks 0 q) (λ _. refl)))
    where
      Tells : Told → Type 0
      Tells t = protocol t.port ≡ protocol q

  wrote_speaks : (row w : ℕ) → Speaks (wrote_served p q row w)
  unfolding wrote_served
  wrote_speaks row w = refl

  pub nfo_speaks : (m : Message) → Speaks (Nfo.served p q m)
  nfo_speaks = nfo_each Speaks p q (λ a. refl) told_speaks wrote_speaks (λ row w. sioerr_speaks 0 q)

  pub modbus_speaks : (a : ℕ) (u : List ℕ) → Speaks (Modbus.served p q a u)
  modbus_speaks = modbus_each Speaks p q (λ a. refl) told_speaks wrote_speaks
