-- A scan: bytes taken one by one into what is pending, for any protocol. Assumes nothing.
use Rattle.std.specs.Prelude.{◌≡◌, Bool, true, false, List, [], ◌∷◌, ◌++◌, ℕ, ◌+◌}
use Rattle.base.specs.Choice.{pick}
use Rattle.stream.specs.Format.{Format}
use Rattle.stream.specs.Automaton.{feed}
use Rattle.stream.specs.Scanned.{Seen}
use Rattle.pending.specs.declared.Pending.{Pending}
use Rattle.pending.specs.declared.Scanned.{Scanned}
use Rattle.pending.specs.Held.{held, Sized}

-- what a scan leaves: what is pending then, how many bytes it used, and whether they end a message, which is held then
pub record Scan : Type 0 where
  pub pending : Pending
  pub used : ℕ
  pub taken : Bool

-- the routine tells all but the bytes, which are those of the lent array
abbrev pub scan_in : List ℕ → Scanned → Scan
scan_in bytes s = record { pending = record { bytes = bytes; len = s.len }; used = s.used; taken = s.taken }

-- what a protocol makes of one byte: whether it ends a message, and what is held then; and the message that is held where one has ended. (A last
-- byte that all messages share is part of the message, and need not be held.)
pub record Feeding : Type 0 where
  pub ends : Pending → ℕ → Bool
  pub next : Pending → ℕ → Pending
  pub message : Pending → List ℕ

-- one byte, with which n bytes are used
abbrev pub scan_one : Feeding → Pending → ℕ → ℕ → Scan
scan_one G p b n = record { pending = G.next p b; used = n; taken = G.ends p b }

-- "A stream call uses bytes up to the end of the first message taken, or all": n bytes were used before
unfoldable pub scan_from : Feeding → Pending → ℕ → List ℕ → Scan
scan_from G p n [] = record { pending = p; used = n; taken = false }
scan_from G p n (b ∷ s) =
    pick (G.ends p b)
    (record { pending = G.next p b; used = n + 1; taken = true })
    (scan_from G (G.next p b) (n + 1) s)

-- a scan, and then one of the bytes z, unless a message was taken
abbrev pub scan_on : Feeding → Scan → List ℕ → Scan
scan_on G r z = pick r.taken r (scan_from G r.pending r.used z)

-- a scan as the reading sees it. After a message that message is held, and nothing is pending
abbrev pub seen_in : Feeding → Scan → Seen
seen_in G r = record { used = r.used; messages = pick r.taken (G.message r.pending ∷ []) []; pending = pick r.taken [] (held r.pending) }

-- the feeding does what the reading of the format does, where a beginning is pending
pub record Follows (F : Format) (G : Feeding) : Type 0 where
  pub sized : (p : Pending) (b : ℕ) → Sized p → Sized (G.next p b)
  pub formed : (p : Pending) (b : ℕ) → Sized p → F.viable (held p) ≡ true → G.ends p b ≡ F.formed (held p ++ b ∷ [])
  pub message : (p : Pending) (b : ℕ) → Sized p → F.viable (held p) ≡ true → G.ends p b ≡ true → G.message (G.next p b) ≡ held p ++ b ∷ []
  pub waits : (p : Pending) (b : ℕ) → Sized p → F.viable (held p) ≡ true → G.ends p b ≡ false → held (G.next p b) ≡ (feed F 0 (held p) b).pending
