-- A message held is taken apart as the message: what comes after it makes no difference. Assumes nothing.
use mathlib.Core.Path.{◌≡◌, sym, ap, ◌∙◌}
use mathlib.Core.Logic.{⊎_elim}
use mathlib.Core.Bool.{true, false≢true}
use mathlib.Core.List.{List, ◌++◌}
use Prim.Native.Nat.{ℕ, ◌+◌, ◌<◌}
use native.Mathlib.Omega.{arith}
use borrow.Author.Tests.{ne_eqb}
use lib.ListN.{length, get_or, take, drop, get_or-append, take-append-drop}
use Rattle.pending.specs.declared.Pending.{Pending}
use Rattle.pending.specs.Held.{held, Sized}
use Rattle.pending.specs.Scanning.{scan_from}
use Rattle.pending.proofs.Scans.{scan_leaves}
use Rattle.nfo_parts.specs.Parts.{value_at, parameter_at, message_of}
use Rattle.nfo.specs.Message.{enquiry, select, formed, viable, nfo}
use Rattle.nfo.specs.Scan.{feeding}
use Rattle.nfo.proofs.Shape.{whole_length, whole_at}
use Rattle.nfo.proofs.Lawful.{formed_shape, nfo_lawful}
use Rattle.nfo.proofs.Follows.{nfo_follows}

-- ---- what comes after a message makes no difference to its parts
module _ (m z : List ℕ) where
  same : (i : ℕ) → i < length m → get_or (m ++ z) i 0 ≡ get_or m i 0
  same i l = get_or-append m z 0 i l

  value_alone : (i : ℕ) → i + 3 < length m → value_at i (m ++ z) ≡ value_at i m
  unfolding value_at
  value_alone i l = rw (same i (omega arith), same (i + 1) (omega arith), same (i + 2) (omega arith), same (i + 3) l)

  parameter_alone : (i : ℕ) → i + 4 < length m → parameter_at i (m ++ z) ≡ parameter_at i m
  unfolding parameter_at
  parameter_alone i l = rw (same i (omega arith), value_alone (i + 1) (omega arith))

  select_alone : length m ≡ 15 → message_of (m ++ z) ≡ message_of m
  unfolding message_of
  select_alone l =
      rw (same 1 (omega arith), same 2 (omega arith), parameter_alone 3 (omega arith), value_alone 9 (omega arith), parameter_alone 2 (omega arith))

  enquiry_alone : length m ≡ 8 → (get_or m 2 0 ≡ 0x02 → ⊥) → message_of (m ++ z) ≡ message_of m
  unfolding message_of
  enquiry_alone l h = rw (same 1 (omega arith), same 2 (omega arith), ne_eqb (get_or m 2 0) 0x02 h, parameter_alone 2 (omega arith))

pub message_alone : (m z : List ℕ) → formed m ≡ true → message_of (m ++ z) ≡ message_of m
unfolding enquiry select
message_alone m z e = ⊎_elim
    (λ h. enquiry_alone m z (whole_length enquiry m h) (λ q. false≢true (rw q at (whole_at enquiry m 2 h))))
    (λ h. select_alone m z (whole_length select m h))
    (formed_shape m e)

-- so the message held is taken apart as the message itself
pub message_held : (p : Pending) → formed (held p) ≡ true → message_of p.bytes ≡ message_of (held p)
unfolding held
message_held p e = ap message_of (sym (take-append-drop p.len p.bytes)) ∙ message_alone (take p.len p.bytes) (drop p.len p.bytes) e

-- and what a scan took is
pub scan_message : (p : Pending) (s : List ℕ) → Sized p → viable (held p) ≡ true → (scan_from feeding p 0 s).taken ≡ true
    → message_of (scan_from feeding p 0 s).pending.bytes ≡ message_of (held (scan_from feeding p 0 s).pending)
scan_message p s size v t = message_held (scan_from feeding p 0 s).pending ((scan_leaves nfo nfo_lawful feeding nfo_follows s p 0 size v).0 t)
