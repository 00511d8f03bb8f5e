-- The tenths that have passed between two times of a clock, and the ticks in which a card is handed them. Assumes nothing.
use Rattle.std.specs.Prelude.{List, [], ◌∷◌, ◌++◌, ℕ, zero, suc, ◌+◌, ◌-◌, ◌/◌, ◌%◌, ◌≤◌, replicate}
use Rattle.card.specs.State.{Core}
use Rattle.card.specs.Events.{ticked_in}
use Rattle.ticks.specs.declared.Passed.{Passed}

-- ---- the tenths
-- a tenth of a second in the clock's milliseconds
abbrev pub tenth : ℕ
tenth = 100

-- from the last time to the present one: the whole tenths, and the time up to which they are counted. What is left of a tenth is kept. (Of a clock that goes back
-- nothing has passed: `-` ends at 0.)
unfoldable pub passed_from : ℕ → ℕ → Passed
passed_from last present = record { tenths = (present - last) / tenth; last = present - (present - last) % tenth }

-- ---- the ticks
-- "The host ticks 1 to 250 tenths": as many ticks of 250 as there are, and one of the rest, if there is any
abbrev pub rest : ℕ → List ℕ
rest zero = []
rest (suc n) = suc n ∷ []

unfoldable pub ticks_of : ℕ → List ℕ
ticks_of tenths = replicate (tenths / 250) 250 ++ rest (tenths % 250)

-- these ticks, one after another
abbrev pub ticking : List ℕ → Core → Core
ticking [] k = k
ticking (n ∷ ns) k = ticking ns (ticked_in n k).core

unfoldable pub handed_over : ℕ → Core → Core
handed_over tenths k = ticking (ticks_of tenths) k

-- ---- the clock is read again and again
-- all tenths handed over, where it is read at these times
abbrev pub tenths_over : ℕ → List ℕ → ℕ
tenths_over last [] = 0
tenths_over last (present ∷ later) = (passed_from last present).tenths + tenths_over (passed_from last present).last later

-- a clock that does not go back, and what it tells at the end
abbrev pub Rising : ℕ → List ℕ → Type 0
Rising last [] = Unit {0}
Rising last (present ∷ later) = (last ≤ present) × Rising present later

abbrev pub last_of : ℕ → List ℕ → ℕ
last_of last [] = last
last_of last (present ∷ later) = last_of present later
