-- What was read and what was written, as what serving comes to. Assumes nothing.
use Rattle.std.proofs.Common.{Result, Ok, Err}
use mathlib.Core.Path.{◌≡◌, refl, ap}
use Prim.Native.Nat.{ℕ}
use Rattle.table.specs.declared.labels.Row.{Row}
use Rattle.port.specs.Port.{Numbers}
use Rattle.drive.specs.Plant.{Plant}
use Rattle.answers.specs.declared.Answer.{Answer}
use Rattle.answers.specs.Answer.{answer_number}
use Rattle.permit.specs.Permit.{permit_of}
use Rattle.reading.specs.Read.{told}
use Rattle.service.specs.Write.{after, written}
use Rattle.service.specs.Serving.{Served, keeping, telling, told_served, permitted, wrote_served}
use Rattle.answers.specs.declared.Change.{Change}
use Rattle.answers.specs.declared.Refusal.{Refusal}

-- a row was read
pub told_is : (p q x y : Plant) (row : Row) (word : ℕ) → record { plant = x; port = y; word = word } ≡ told p q row.0 → telling row (record { plant = x; port = y; word = word }) ≡ told_served p q row
unfolding told_served
told_is p q x y row word e = ap (telling row) e

-- what the two promises of a write say together, whatever the port
pub wrote_is : (p x : Plant) (q : Numbers) (row w : ℕ) (a : Answer) → x ≡ (written p row w).plant → a ≡ permitted (written p row w).permit
    → ◌≡◌ {A = Served} (record { plant = x; port = q; answer = a }) (wrote_served p q row w)
unfolding wrote_served
wrote_is p x q row w a d e = simp (d, e)

-- a write of an outcome other than 0 changes nothing
pub wrote_keeps : (p : Plant) (q : Numbers) (row w : ℕ) → (answer_number (wrote_served p q row w).answer ≡ 0 → ⊥) → wrote_served p q row w ≡ keeping p q (wrote_served p q row w).answer
unfolding wrote_served written
wrote_keeps p q row w = go (permit_of p row w)
  where
    go : (k : Result Change Refusal) → (answer_number (permitted k) ≡ 0 → ⊥) → keeping (after k p) q (permitted k) ≡ keeping p q (permitted k)
    go (Ok change) n = absurd (n refl)
    go (Err refusal) n = refl
