-- Worked cases of reading, one table. Each line is what a definition computes, and the number that document 01 gives. Assumes nothing.
use Rattle.std.specs.Prelude.{◌≡◌, refl, List, [], ◌∷◌, map, ℕ}
use Rattle.table.specs.Names.{P-Nom, Inv-St-ack, Inv-St, SioErr, Drive-Status}
use Rattle.table.specs.Table.{rows, start_words}
use Rattle.drive.specs.Plant.{drive_status, started}
use Rattle.drive.specs.Flags.{flagged, lowest_from, lowest_of}
use Rattle.drive.specs.Status.{active, flag_stands, runs, status_of, ready, status_word, righted}
use Rattle.drive.specs.Faults.{reflagged, halted, flag_raised, acknowledged, without14}
use Rattle.drive.specs.Events.{is_fault, raised, ended, port_fault, switched, with_active}
use Rattle.drive.specs.Cases.{faulty, over, silent}
use Rattle.port.specs.Port.{Numbers, sioerr}
use Rattle.reading.specs.Read.{stored, told}

-- a port whose SioErr is this
abbrev port : ℕ → Numbers
port x = 0 ∷ 0 ∷ x ∷ []

abbrev pub cases : List (ℕ × ℕ)
cases =
    ((told started (port 0) P-Nom).word, 150)
    -- fault 5 is told until its cause has ended and it is acknowledged, by 00E8 and not by 00E9
    ∷ ((told faulty (port 0) Inv-St-ack).word, 5)
    ∷ (status_of (told faulty (port 0) Inv-St-ack).plant, 5)
    ∷ ((told over (port 0) Inv-St).word, 5)
    ∷ (status_of (told over (port 0) Inv-St).plant, 5)
    ∷ ((told over (port 0) Inv-St-ack).word, 5)
    ∷ (status_of (told over (port 0) Inv-St-ack).plant, 37)
    -- 14 is not acknowledged; reading SioErr clears both
    ∷ (status_of (told silent (port 1) Inv-St-ack).plant, 14)
    ∷ ((told silent (port 1) SioErr).word, 1)
    ∷ (sioerr (told silent (port 1) SioErr).port, 0)
    ∷ (status_of (told silent (port 1) SioErr).plant, 37)
    -- Drive Status is told as it stands, and follows what a read clears
    ∷ ((told started (port 0) Drive-Status).word, 0x0040)
    ∷ ((told over (port 0) Drive-Status).word, 0x0208)
    ∷ (drive_status (told over (port 0) Inv-St-ack).plant, 0x0201)
    ∷ (drive_status (told silent (port 1) SioErr).plant, 0x0201)
    ∷ []

pub cases_hold : map (λ (c : ℕ × ℕ). c.0) cases ≡ map (λ (c : ℕ × ℕ). c.1) cases
unfolding rows start_words started flagged lowest_from lowest_of active flag_stands runs status_of ready status_word righted reflagged halted flag_raised acknowledged without14 is_fault raised ended port_fault switched with_active stored told
cases_hold = refl
