-- Worked cases of refusals, one table. Each line is a write's outcome, and the number that document 01 gives. Assumes nothing.
use Rattle.std.specs.Prelude.{◌≡◌, refl, false, List, [], ◌∷◌, map, ℕ}
use Rattle.table.specs.Names.{P-Nom, I-magn, R-fix1, SpdScl-num, MODE, SCMD, Inv-St, Drive-Status}
use Rattle.table.specs.Table.{rows, line_at, start_words}
use Rattle.allowed.specs.Allowed.{twos, integer_of, within, member, below_limt, above_magn, at_mode, setpoint_allows, allows, allowed_at}
use Rattle.drive.specs.Plant.{Plant, started}
use Rattle.drive.specs.Status.{active, flag_stands, runs, righted}
use Rattle.drive.specs.Faults.{halted, flag_raised}
use Rattle.drive.specs.Events.{port_fault, switched, with_active}
use Rattle.drive.specs.Cases.{bus, bus_runs, silent}
use Rattle.permit.specs.Refusals.{read_only, bounds_of, allowed, init_running, permitted}
use Rattle.permit.specs.Permit.{permit_number, permit_of}

abbrev outcome : Plant → ℕ → ℕ → ℕ
outcome p row w = permit_number (permit_of p row w)

abbrev pub cases : List (ℕ × ℕ)
cases =
    -- "8. I-magn 999: 0; 1000: 4"
    (outcome started I-magn 999, 0)
    ∷ (outcome started I-magn 1000, 4)
    -- "4. R-fix1 B1E0h (−20000): 0. B1DFh: 4."
    ∷ (outcome started R-fix1 0xB1E0, 0)
    ∷ (outcome started R-fix1 0xB1DF, 4)
    -- the refusals, and which comes first
    ∷ (outcome silent Inv-St 1, 3)
    ∷ (outcome started Drive-Status 0, 3)
    ∷ (outcome silent P-Nom 0, 4)
    ∷ (outcome silent P-Nom 150, 5)
    ∷ (outcome bus_runs P-Nom 150, 6)
    ∷ (outcome bus P-Nom 150, 0)
    ∷ (outcome started SCMD 0, 7)
    ∷ (outcome bus SCMD 257, 0)
    ∷ (outcome (with_active false bus) SCMD 257, 7)
    ∷ (outcome (with_active false bus) SCMD 0, 0)
    ∷ (outcome started MODE 0x10003, 4)
    ∷ (outcome started SpdScl-num 0x10003, 0)
    ∷ []

pub cases_hold : map (λ (c : ℕ × ℕ). c.0) cases ≡ map (λ (c : ℕ × ℕ). c.1) cases
unfolding rows line_at start_words twos integer_of within member below_limt above_magn at_mode setpoint_allows allows allowed_at started active flag_stands runs righted halted flag_raised port_fault switched with_active read_only bounds_of allowed init_running permitted permit_of
cases_hold = refl
