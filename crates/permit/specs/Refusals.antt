-- Why a write is refused, in document 01's order. Assumes nothing.
use Rattle.std.specs.Prelude.{◌≡◌, refl, Bool, true, false, not, List, [], ◌∷◌, ℕ, eqb, get_or}
use Rattle.base.specs.Choice.{both, either}
use Rattle.base.specs.Order.{Line, when, numbers}
use Rattle.table.specs.Names.{I-magn, I-limt, Mode, SCMD}
use Rattle.table.specs.Table.{line_at}
use Rattle.table.specs.declared.lines.Class.{Class}
use Rattle.table.specs.declared.lines.Class.TheVariants.{Init, Run, OnlyRead}
use Rattle.allowed.specs.Allowed.{allowed_at}
use Rattle.allowed.specs.declared.Bounds.{Bounds}
use Rattle.answers.specs.Answer.{refusal_number}
use Rattle.answers.specs.declared.Refusal.{Refusal}
use Rattle.answers.specs.declared.Refusal.TheVariants.{ReadOnly, NotAllowed, FlagStands, Running, NotPermitted}
use Rattle.drive.specs.Plant.{Plant, mode}
use Rattle.drive.specs.Status.{active, flag_stands, runs}

-- ---- the column When
-- 3: "row is read-only"
abbrev pub is_read : Class → Bool
is_read Init = false
is_read Run = false
is_read OnlyRead = true

unfoldable pub read_only : ℕ → Bool
read_only row = is_read (line_at row).class

-- 4: "value not allowed", by the words of I-magn, I-limt and Mode
unfoldable pub bounds_of : Plant → Bounds
bounds_of p = record { magn = get_or p I-magn 0; limt = get_or p I-limt 0; mode = get_or p Mode 0 }

unfoldable pub allowed : Plant → ℕ → ℕ → Bool
allowed p row w = allowed_at row (bounds_of p) w

-- 6: "Init row, running"
abbrev pub is_init : Class → Bool
is_init Init = true
is_init Run = false
is_init OnlyRead = false

unfoldable pub init_running : Plant → ℕ → Bool
init_running p row = both (is_init (line_at row).class) (runs p)

-- 7: "SCMD is written only at MODE 3; run values need DIN1 active"
unfoldable pub permitted : Plant → ℕ → ℕ → Bool
permitted p row w = either (not (eqb row SCMD)) (both (eqb (mode p) 3) (either (eqb w 0) (active p)))

-- ---- the order, which each protocol begins with lines of its own
abbrev pub read_line : ℕ → Line Refusal
read_line row = when (read_only row) ReadOnly

abbrev pub write_lines : Plant → ℕ → ℕ → List (Line Refusal)
write_lines p row w =
    when (not (allowed p row w)) NotAllowed
    ∷ when (flag_stands p) FlagStands
    ∷ when (init_running p row) Running
    ∷ when (not (permitted p row w)) NotPermitted
    ∷ []

-- "Order: .. 3, .. 4, 5, 6, 7"
pub write_order : (p : Plant) (row w : ℕ) → numbers refusal_number (read_line row ∷ write_lines p row w) ≡ 3 ∷ 4 ∷ 5 ∷ 6 ∷ 7 ∷ []
write_order p row w = refl
