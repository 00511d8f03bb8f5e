-- Demand 3: "Cut a stream of NFO serial or Modbus ASCII bytes anywhere: with nothing pending before, the taken messages' outcomes, joined replies and end
-- state equal those of the left-to-right reading of the whole stream. There each well-formed message is taken exactly once, from wherever it begins, save an
-- NFO message whose first byte is the last byte of one already taken." The end state is the whole card but for what is pending, with the status word that is kept in it. Assumes nothing.
use Rattle.std.specs.Prelude.{◌≡◌, true, List, [], ◌∷◌, ◌++◌, ℕ, ◌+◌, ◌≤◌, length, drop}
use Rattle.stream.specs.Reading.{Yield, Reads}
use Rattle.stream.specs.Automaton.{glue}
use Rattle.stream.specs.Once.{Once}
use Rattle.stream.specs.Scanned.{messages_of}
use Rattle.stream.specs.Theorem.{StreamTheorem}
use Rattle.pending.specs.Held.{held}
use Rattle.ascii.specs.Ascii.{ascii}
use Rattle.card.specs.declared.state.Card.{Card}
use Rattle.receive.specs.Receive.{received}
use Rattle.demands.specs.Calls.{LongEnough, Wire, nfo_serial, modbus_ascii, Course, Calls, Speaks, NothingPending, besides, adding, ended, served_all}

-- what came of the stream is what comes of serving the messages of the reading y one after another; and what is pending is what y leaves pending
pub record Same (W : Wire) (c : Card) (k : Course) (y : Yield) : Type 0 where
  pub outcomes : k.outcomes ≡ (served_all W c (messages_of y.taken)).outcomes
  pub replies : k.replies ≡ (served_all W c (messages_of y.taken)).replies
  pub state : besides k.card ≡ besides (served_all W c (messages_of y.taken)).card
  pub pending : held k.card.port.pending ≡ y.pending

-- `Given c scraps k`: a caller is given these scraps by the line. It calls with the scrap that it has, as long as a byte of it is unused, then with the next
pub data Given : Card → List (List ℕ) → Course → Type 0 where
  over : {c : Card} → Given c [] (ended c)
  spent : {c : Card} {scraps : List (List ℕ)} {k : Course} → Given c scraps k → Given c ([] ∷ scraps) k
  call : {c : Card} (b : ℕ) (x : List ℕ) (room : ℕ) {scraps : List (List ℕ)} {k : Course} → LongEnough c room
      → Given (received c (b ∷ x) room).card (drop (received c (b ∷ x) room).used (b ∷ x) ∷ scraps) k
      → Given c ((b ∷ x) ∷ scraps) (adding (received c (b ∷ x) room) k)

pub record Streams (W : Wire) : Type 0 where
  -- whatever calls a caller makes of a stream, they come to the reading of the whole
  pub reading : (c : Card) → Speaks W c → NothingPending c → (s : List ℕ) (k : Course) → Calls c s k → (y : Yield) → Reads W.format 0 s y → Same W c k y
  -- so two callers of one stream come to the same card, in every byte of it, with the same outcomes and replies
  pub any_cut : (c : Card) → Speaks W c → (s : List ℕ) (k l : Course) → Calls c s k → Calls c s l → k ≡ l
  -- the reading has one result, takes each well-formed message exactly once, save the exception, and leaves pending what could still become one
  pub theory : StreamTheorem W.format

pub record Demand3 : Type 0 where
  pub nfo : Streams nfo_serial
  pub modbus_ascii_lem : Streams modbus_ascii
  -- "save an NFO message ..": of Modbus ASCII each well-formed message is taken exactly once, without exception
  pub ascii_once : (i : ℕ) (s : List ℕ) (y : Yield) → Reads ascii i s y → (u m v : List ℕ) → s ≡ u ++ (m ++ v) → ascii.formed m ≡ true → Once (i + length u) m y.taken
  -- progress: where there is a byte and the buffer is long enough, a call uses one at least
  pub progress : (c : Card) (b : ℕ) (x : List ℕ) (room : ℕ) → LongEnough c room → 1 ≤ (received c (b ∷ x) room).used
  -- so for every card and every list of scraps there are calls that go through it to the end,
  pub to_the_end : (c : Card) (scraps : List (List ℕ)) (room : ℕ) → LongEnough c room → (k : Course) × Given c scraps k
  -- and they are calls of the stream that was cut into these scraps
  pub are_calls : (c : Card) (scraps : List (List ℕ)) (k : Course) → Given c scraps k → Calls c (glue scraps) k
