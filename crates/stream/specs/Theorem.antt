-- The theorem of left-to-right reading, over any format: one field for each thing that document 01 says of it or asks of it. That it
-- holds of every lawful format is `stream`, in proofs/Theorem.antt. Assumes nothing.
use Rattle.std.specs.Prelude.{◌≡◌, ◌⊎◌, true, List, [], ◌++◌, ℕ, ◌+◌, length, drop}
use Rattle.stream.specs.Format.{Format, CouldBecome}
use Rattle.stream.specs.Reading.{Taken, Yield, Reads}
use Rattle.stream.specs.Automaton.{feed_all, feed_on, feed_scraps, glue, join}
use Rattle.stream.specs.Call.{call, TakesNone, TakesOne, Session}
use Rattle.stream.specs.Once.{Among, starting, Once, LastOf, Apart}
use Rattle.stream.specs.Computed.{read}

pub record StreamTheorem (F : Format) : Type 0 where
  -- ---- the reading
  -- The reading of a stream has one result.
  pub one_result : (i : ℕ) (s : List ℕ) (y z : Yield) → Reads F i s y → Reads F i s z → y ≡ z
  -- The automaton, which sees one byte at a time, does the reading: from the start of a stream,
  pub automaton_reads : (s : List ℕ) → Reads F 0 s (feed_all F 0 [] s)
  -- and from bytes that are pending, as if these came again before the others.
  pub automaton_goes_on : (i : ℕ) (p s : List ℕ) → F.viable p ≡ true → Reads F i (p ++ s) (feed_all F i p s)
  -- The function that computes does the reading, too.
  pub computed_reads : (s : List ℕ) → Reads F 0 s (read F s)
  -- However a stream is cut into scraps: the same messages are taken at the same places, and the same bytes are pending at the end.
  pub chunking : (i : ℕ) (p : List ℕ) (scraps : List (List ℕ)) → feed_scraps F i p scraps ≡ feed_all F i p (glue scraps)
  -- ---- what is taken
  -- "if a well-formed message begins there, it is taken": what is taken is well-formed, and stands in the stream at its place.
  pub taken_there : (i : ℕ) (s : List ℕ) (y : Yield) → Reads F i s y → (t : Taken) → Among t y.taken
      → (F.formed t.bytes ≡ true) × ((u : List ℕ) × (v : List ℕ) × (s ≡ u ++ (t.bytes ++ v)) × (t.place ≡ i + length u))
  -- "and reading goes on after it": messages are taken in order, and no two share a byte.
  pub taken_apart : (i : ℕ) (s : List ℕ) (y : Yield) → Reads F i s y → Apart i y.taken
  -- Each well-formed message, wherever in the stream it begins, is taken exactly once; unless its first byte is the last byte of one taken.
  pub taken_once : (i : ℕ) (s : List ℕ) (y : Yield) → Reads F i s y → (u m v : List ℕ) → s ≡ u ++ (m ++ v) → F.formed m ≡ true
      → Once (i + length u) m y.taken ⊎ LastOf (i + length u) y.taken
  -- "BCC may be 04": that exception is real. Nothing that begins at the last byte of a message taken is taken.
  pub last_lost : (i : ℕ) (s : List ℕ) (y : Yield) → Reads F i s y → (j : ℕ) → LastOf j y.taken → starting j y.taken ≡ 0
  -- ---- what is pending
  -- "if the bytes left could still become one, they are pending": the bytes pending are the last of the stream, and could become a message.
  pub pending_there : (i : ℕ) (s : List ℕ) (y : Yield) → Reads F i s y
      → CouldBecome F y.pending × ((u : List ℕ) × (s ≡ u ++ y.pending) × (y.place ≡ i + length u))
  -- What the automaton keeps stays a beginning.
  pub pending_viable : (i : ℕ) (p s : List ℕ) → F.viable p ≡ true → F.viable (feed_all F i p s).pending ≡ true
  -- ---- the stream call
  -- "A stream call uses bytes up to the end of the first message taken, or all; it tells how many".
  pub call_uses : (i : ℕ) (p s : List ℕ) → TakesNone s (call F i p s) ⊎ TakesOne F i p s (call F i p s)
  -- What a call yields comes first; the rest of the reading is that of the bytes it did not use.
  pub call_first : (i : ℕ) (p s : List ℕ)
      → feed_all F i p s ≡ join (call F i p s).out (feed_on F (call F i p s).out (drop (call F i p s).used s))
  -- "The caller gives the unused rest again first": calls that do so yield together what the reading of the whole stream yields,
  pub session_reads : (s : List ℕ) (y : Yield) → Session F 0 [] s y → Reads F 0 s y
  -- and there are such calls for every stream.
  pub session_there : (s : List ℕ) → Session F 0 [] s (feed_all F 0 [] s)
