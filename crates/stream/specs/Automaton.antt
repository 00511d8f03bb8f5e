-- The reading done one byte at a time, with nothing kept but the bytes pending; and of a stream that comes in scraps. Assumes nothing.
use Rattle.std.specs.Prelude.{Bool, true, false, List, [], ◌∷◌, ◌++◌, ℕ, ◌+◌, length}
use Rattle.stream.specs.Format.{Format}
use Rattle.stream.specs.Reading.{Yield, waiting, taking}

-- p is pending from place i on, and the byte b comes. The tests: p and b are a message; p and b are a beginning; b alone is a beginning.
-- A byte that spoils p is looked at again, as a beginning of its own.
abbrev pub turn : Bool → Bool → Bool → ℕ → List ℕ → ℕ → Yield
turn true v a i p b = taking i (p ++ b ∷ []) (waiting (i + length (p ++ b ∷ [])) [])
turn false true a i p b = waiting i (p ++ b ∷ [])
turn false false true i p b = waiting (i + length p) (b ∷ [])
turn false false false i p b = waiting (i + length p + 1) []

unfoldable pub feed : Format → ℕ → List ℕ → ℕ → Yield
feed F i p b = turn (F.formed (p ++ b ∷ [])) (F.viable (p ++ b ∷ [])) (F.viable (b ∷ [])) i p b

-- what the first yields, then what the second does
abbrev pub join : Yield → Yield → Yield
join y z = record { taken = y.taken ++ z.taken; place = z.place; pending = z.pending }

-- one byte after the other
unfoldable pub feed_all : Format → ℕ → List ℕ → List ℕ → Yield
feed_all F i p [] = waiting i p
feed_all F i p (b ∷ s) = let y : Yield = feed F i p b in join y (feed_all F y.place y.pending s)

-- goes on where y ended, with the bytes that are pending there
abbrev pub feed_on : Format → Yield → List ℕ → Yield
feed_on F y s = feed_all F y.place y.pending s

-- one scrap after the other
unfoldable pub feed_scraps : Format → ℕ → List ℕ → List (List ℕ) → Yield
feed_scraps F i p [] = waiting i p
feed_scraps F i p (x ∷ xs) = let y : Yield = feed_all F i p x in join y (feed_scraps F y.place y.pending xs)

-- the stream that was cut into these scraps
unfoldable pub glue : List (List ℕ) → List ℕ
glue [] = []
glue (x ∷ xs) = x ++ glue xs
