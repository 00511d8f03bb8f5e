-- A stream call as code sees it, which counts no places. Assumes nothing.
use Rattle.std.specs.Prelude.{List, map, ℕ, ◌+◌}
use Rattle.stream.specs.Format.{Format}
use Rattle.stream.specs.Reading.{Taken}
use Rattle.stream.specs.Call.{Call, call}

-- the bytes used, the messages taken, the bytes pending
pub record Seen : Type 0 where
  pub used : ℕ
  pub messages : List (List ℕ)
  pub pending : List ℕ

-- the messages, without their places
abbrev pub messages_of : List Taken → List (List ℕ)
messages_of ts = map (λ (t : Taken). t.bytes) ts

-- a call, without places
abbrev pub seen : Call → Seen
seen c = record { used = c.used; messages = messages_of c.out.taken; pending = c.out.pending }

-- n bytes were used before
abbrev pub further : ℕ → Seen → Seen
further n e = record { used = n + e.used; messages = e.messages; pending = e.pending }

-- a call on the bytes s while p is pending, as code sees it
unfoldable pub scanned : Format → List ℕ → List ℕ → Seen
scanned F p s = seen (call F 0 p s)
