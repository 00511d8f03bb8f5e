-- Worked cases of writing, one table. Each line is what a definition computes, and the number that document 01 gives. Assumes nothing.
use Rattle.std.specs.Prelude.{◌≡◌, refl, true, List, [], ◌∷◌, map, ℕ, get_or}
use Rattle.table.specs.Names.{Mode, Setpoint, MODE, SCMD}
use Rattle.table.specs.Table.{rows, start_words}
use Rattle.drive.specs.Plant.{Plant, scmd, drive_status, started}
use Rattle.drive.specs.Status.{active, flag_stands, runs, ready, status_word, righted}
use Rattle.drive.specs.Events.{switched, with_active}
use Rattle.drive.specs.Cases.{bus, bus_runs}
use Rattle.service.specs.Write.{followed, applied}

abbrev setpoint : Plant → ℕ
setpoint p = get_or p Setpoint 0

abbrev pub cases : List (ℕ × ℕ)
cases =
    -- a different Mode sets Setpoint to 0, and the same Mode does not; so it is with MODE and SCMD
    (setpoint (applied Mode 1 (applied Setpoint 7 started)), 0)
    ∷ (setpoint (applied Mode 0 (applied Setpoint 7 started)), 7)
    ∷ (scmd (applied MODE 2 bus_runs), 0)
    ∷ (scmd (applied MODE 3 bus_runs), 129)
    ∷ (scmd (applied SCMD 257 bus), 257)
    -- Drive Status follows: MODE 3 with DIN1 active is ready, SCMD 257 runs, MODE 2 runs by DIN1, SCMD 0 stands; another row leaves it
    ∷ (drive_status (applied MODE 3 (with_active true started)), 0x0201)
    ∷ (drive_status (applied SCMD 257 bus), 0x0203)
    ∷ (drive_status (applied MODE 2 bus_runs), 0x0002)
    ∷ (drive_status (applied SCMD 0 (applied SCMD 129 bus)), 0x0201)
    ∷ (drive_status (applied Setpoint 7 started), 0x0040)
    ∷ []

pub cases_hold : map (λ (c : ℕ × ℕ). c.0) cases ≡ map (λ (c : ℕ × ℕ). c.1) cases
unfolding rows start_words started active flag_stands runs ready status_word righted switched with_active followed applied
cases_hold = refl
