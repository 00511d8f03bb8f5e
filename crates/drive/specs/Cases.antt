-- Worked cases, one table. Each line is what a definition computes, and the number that document 01, or a request of document 02, gives. Assumes nothing.
use Rattle.std.specs.Prelude.{◌≡◌, refl, true, false, List, [], ◌∷◌, map, ℕ, get_or, set}
use Rattle.table.specs.Names.{SioTot}
use Rattle.table.specs.Table.{rows, start_words}
use Rattle.drive.specs.Plant.{Plant, si_adr, scmd, drive_status, with_si_adr, with_mode, with_scmd, started}
use Rattle.drive.specs.Flags.{flagged, lowest_from, lowest_of}
use Rattle.drive.specs.Status.{active, flag_stands, runs, status_of, ready, status_word, righted}
use Rattle.drive.specs.Faults.{halted, flag_raised, stopped}
use Rattle.drive.specs.Events.{healed, restarted, is_fault, raised, ended, port_fault, switched, with_active}

-- plants: at MODE 2 and 3, standing and running; and running at MODE 3 until fault 5 came, which then ended, or until the port's master was silent
abbrev pub auto : Plant
auto = with_mode 2 started

abbrev pub bus : Plant
bus = with_mode 3 (with_active true started)

abbrev pub bus_runs : Plant
bus_runs = with_scmd 129 bus

abbrev pub faulty : Plant
faulty = (raised 5 bus_runs).plant

abbrev pub over : Plant
over = (ended 5 faulty).plant

abbrev pub silent : Plant
silent = port_fault bus_runs

abbrev pub cases : List (ℕ × ℕ)
cases =
    -- Inv St: "24 at MODE 1, 33/34 at MODE 2 and 37/38 at MODE 3, standing/running"
    (status_of started, 24)
    ∷ (status_of auto, 33)
    ∷ (status_of (with_active true auto), 34)
    ∷ (status_of bus, 37)
    ∷ (status_of bus_runs, 38)
    -- fault 5: it stops the drive, and is told after its cause has ended
    ∷ (status_of faulty, 5)
    ∷ (scmd faulty, 0)
    ∷ (status_of over, 5)
    -- 14, and the broadcast stop
    ∷ (status_of silent, 14)
    ∷ (status_of (stopped silent), 37)
    -- a restart: the flags of the standing causes, MODE 1
    ∷ (status_of (restarted faulty), 5)
    ∷ (status_of (restarted over), 24)
    -- Drive Status: "0 ready (MODE 3, DIN1 active, no flag), 1 running, 3 a fault flag stands, 6 DIN1 inactive, 9 MODE 3"
    ∷ (drive_status started, 0x0040)
    ∷ (drive_status (with_active true started), 0x0000)
    ∷ (drive_status (with_active true auto), 0x0002)
    ∷ (drive_status (with_active true (with_mode 3 started)), 0x0201)
    ∷ (drive_status (with_active false bus_runs), 0x0240)
    ∷ (drive_status (with_active true bus_runs), 0x0203)
    ∷ (drive_status faulty, 0x0208)
    ∷ (drive_status (with_active false over), 0x0248)
    ∷ (drive_status silent, 0x0208)
    ∷ (drive_status (stopped silent), 0x0201)
    ∷ (drive_status (restarted faulty), 0x0008)
    ∷ (drive_status (restarted over), 0x0000)
    -- SioTot: "The start number becomes 50"; "Cards restarted with a SioTot of their own keep it"
    ∷ (get_or started SioTot 0, 50)
    ∷ (get_or (restarted (set started SioTot 10)) SioTot 0, 10)
    -- SiAdr: "A restart that finds 0 or 95 kept from before puts 1 there"; any other number stays
    ∷ (si_adr (restarted (with_si_adr 0 started)), 1)
    ∷ (si_adr (restarted (with_si_adr 95 started)), 1)
    ∷ (si_adr (restarted (with_si_adr 94 started)), 94)
    ∷ (si_adr (restarted (with_si_adr 96 started)), 96)
    ∷ []

pub cases_hold : map (λ (c : ℕ × ℕ). c.0) cases ≡ map (λ (c : ℕ × ℕ). c.1) cases
unfolding rows start_words started healed restarted flagged lowest_from lowest_of active flag_stands runs status_of ready status_word righted halted flag_raised stopped is_fault raised ended port_fault switched with_active
cases_hold = refl
