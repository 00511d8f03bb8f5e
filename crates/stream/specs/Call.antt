-- Document 01's stream call, and the calls that bring a whole stream through. Assumes nothing.
use Rattle.std.specs.Prelude.{◌≡◌, true, List, [], ◌∷◌, ◌++◌, ℕ, suc, ◌+◌, ◌≤◌, length, drop}
use Rattle.stream.specs.Format.{Format}
use Rattle.stream.specs.Reading.{Taken, Yield, waiting}
use Rattle.stream.specs.Automaton.{feed, join}

-- "it tells how many": the bytes used; and what the call yields
pub record Call : Type 0 where
  pub used : ℕ
  pub out : Yield

-- a byte yielded y: if it took a message, the call ends there; else the call goes on, and c is the call on the rest
abbrev pub go_on : List Taken → Yield → Call → Call
go_on [] y c = record { used = suc c.used; out = c.out }
go_on (t ∷ ts) y c = record { used = 1; out = y }

-- "A stream call uses bytes up to the end of the first message taken, or all": p is pending from place i on, and the call is handed s
unfoldable pub call : Format → ℕ → List ℕ → List ℕ → Call
call F i p [] = record { used = 0; out = waiting i p }
call F i p (b ∷ s) = let y : Yield = feed F i p b in go_on y.taken y (call F y.place y.pending s)

-- a call that goes on where y ended
abbrev pub call_on : Format → Yield → List ℕ → Call
call_on F y s = call F y.place y.pending s

-- ".. or all": no message is taken, and each byte is used
pub record TakesNone (s : List ℕ) (c : Call) : Type 0 where
  pub none : c.out.taken ≡ []
  pub all : c.used ≡ length s

-- ".. up to the end of the first message taken": one message is taken, the bytes used end at the place where it ends (the first of them is
-- at place i + length p), and nothing is pending after it
pub record TakesOne (F : Format) (i : ℕ) (p s : List ℕ) (c : Call) : Type 0 where
  pub message : Taken
  pub formed : F.formed message.bytes ≡ true
  pub one : c.out.taken ≡ message ∷ []
  pub ends : message.place + length message.bytes ≡ i + length p + c.used
  pub within : c.used ≤ length s
  pub after : c.out.pending ≡ []

-- "The caller gives the unused rest again first." `Session F i p s y`: p is pending from place i on, the bytes s are still to be given,
-- and the calls yield y together.
pub data Session (F : Format) : ℕ → List ℕ → List ℕ → Yield → Type 0 where
  -- nothing is left to be given
  over : {i : ℕ} {p : List ℕ} → Session F i p [] (waiting i p)
  -- a call is given x, where z is to come; then what it did not use is to be given again, before z
  calls : {i : ℕ} {p : List ℕ} (x z : List ℕ) {y : Yield}
      → Session F (call F i p x).out.place (call F i p x).out.pending (drop (call F i p x).used x ++ z) y
      → Session F i p (x ++ z) (join (call F i p x).out y)
