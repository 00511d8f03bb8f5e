-- The worked scans come out as the table says, by computation. Assumes nothing.
use Rattle.std.proofs.Common.{◌≡◌, ℕ, Bool, List, map, refl}
use Rattle.hex_pairs.specs.Hex.{is_hex, digit_value, digit_of, capital_of, pair_value, bytes_of}
use Rattle.checks.specs.Lrc.{sum_of, adds_to_zero, lrc_of}
use Rattle.pending.specs.Held.{held, empty, emptied, pushed, began_with}
use Rattle.pending.specs.Scanning.{Scan, scan_from}
use Rattle.ascii.specs.Ascii.{bytes_in, counted, right}
use Rattle.ascii_scan.specs.Scan.{ended, digit_fits, cr_fits, goes_on, again, ends, fed, feeding}
use Rattle.ascii_scan.specs.Cases.{scans}

-- the scan of a row's bytes, as the row tells it
abbrev shown : List ℕ → Scan → List ℕ × ℕ × Bool × List ℕ
shown bytes r = (bytes, r.used, r.taken, bytes_in (held r.pending))

pub scans_told : map (λ (t : List ℕ × ℕ × Bool × List ℕ). shown t.0 (scan_from feeding empty 0 t.0)) scans ≡ scans
unfolding scan_from ends fed ended goes_on digit_fits cr_fits again held empty emptied pushed began_with is_hex digit_value digit_of capital_of pair_value bytes_of bytes_in counted right adds_to_zero sum_of lrc_of
scans_told = refl
