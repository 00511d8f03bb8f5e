-- What a master's writer comes to, and what it puts into the buffer that it was lent: once for every request of every protocol.
-- Assumes nothing.
use Rattle.std.specs.Prelude.{◌≡◌, refl, Bool, not, List, [], ◌∷◌, ℕ, ltb, length, Result, Ok, Err}
use Rattle.base.specs.Choice.{pick}
use Rattle.base.specs.Buffers.{fitting}
use Rattle.base.specs.Order.{Line, when, first_of, numbers}
use Rattle.master.specs.declared.Unsent.TheVariants.{CannotBeSaid, ShortBuffer}
use Rattle.master.specs.declared.Unsent.{Unsent}

-- document 01's numbers: the column No
abbrev pub sent_number : Result ℕ Unsent → ℕ
sent_number (Ok count) = 0
sent_number (Err CannotBeSaid) = 13
sent_number (Err ShortBuffer) = 10

-- "The master side: 13 (addresses above 95 or 247, a broadcast read, counts outside the limits), then 10 if the message doesn't fit". Whether a
-- request can be said is its protocol's to tell; the room is the buffer's length
abbrev pub refusals : Bool → List ℕ → ℕ → List (Line (Result ℕ Unsent))
refusals sayable message room =
    when (not sayable) (Err CannotBeSaid)
    ∷ when (ltb room (length message)) (Err ShortBuffer)
    ∷ []

pub sent_order : (sayable : Bool) (message : List ℕ) (room : ℕ) → numbers sent_number (refusals sayable message room) ≡ 13 ∷ 10 ∷ []
sent_order sayable message room = refl

-- what the writer tells: the first refusal that applies, or the message's length
unfoldable pub sent_of : Bool → List ℕ → ℕ → Result ℕ Unsent
sent_of sayable message room = first_of (refusals sayable message room) (Ok (length message))

-- what it puts at the start of the buffer: the message, or nothing on 13 and 10. "Bytes past a reply or a master's request, and all of them
-- without one, stay."
unfoldable pub bytes_sent : Bool → List ℕ → ℕ → List ℕ
bytes_sent sayable message room = pick sayable (fitting message room) []
