-- The words for "each message is taken once": what counts as once, and the one exception. Assumes nothing.
use Rattle.std.specs.Prelude.{◌≡◌, ℕ, suc, ◌+◌, ◌≤◌, eqb, length}
use mathlib.Core.List.{List, [], ◌∷◌, Memᴰ}
use Rattle.base.specs.Choice.{pick}
use Rattle.stream.specs.Reading.{Taken}

-- t is one of the messages
abbrev pub Among : Taken → List Taken → Type 0
Among t ts = Memᴰ t ts

-- how many of the messages begin at place j
unfoldable pub starting : ℕ → List Taken → ℕ
starting j [] = 0
starting j (t ∷ ts) = pick (eqb t.place j) (suc (starting j ts)) (starting j ts)

-- the message m that begins at place j is taken, and nothing else that begins there
abbrev pub Once : ℕ → List ℕ → List Taken → Type 0
Once j m ts = Among (record { place = j; bytes = m }) ts × (starting j ts ≡ 1)

-- the byte at place j is the last byte of one of the messages
abbrev pub LastOf : ℕ → List Taken → Type 0
LastOf j ts = (t : Taken) × Among t ts × (t.place + length t.bytes ≡ j + 1)

-- the messages lie at place i or later, each at or after the end of the one before: in order, and no two share a byte
unfoldable pub Apart : ℕ → List Taken → Type 0
Apart i [] = Unit {0}
Apart i (t ∷ ts) = (i ≤ t.place) × Apart (t.place + length t.bytes) ts
