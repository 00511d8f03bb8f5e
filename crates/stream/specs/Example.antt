-- A tiny format, to try the reading on: a message is three bytes, 04 21 and any byte, so that its last byte may be 04. Assumes nothing.
use Rattle.std.specs.Prelude.{◌≡◌, refl, Bool, true, false, List, [], ◌∷◌, map, ℕ, eqb, ltb}
use Rattle.base.specs.Choice.{both}
use Rattle.stream.specs.Format.{Format}
use Rattle.stream.specs.Reading.{Yield, waiting, taking}
use Rattle.stream.specs.Automaton.{feed, feed_all}
use Rattle.stream.specs.Call.{call}
use Rattle.stream.specs.Scanned.{Seen, scanned}
use Rattle.stream.specs.Computed.{found, read_from, read}

abbrev pub is_message : List ℕ → Bool
is_message [] = false
is_message (a ∷ []) = false
is_message (a ∷ b ∷ []) = false
is_message (a ∷ b ∷ c ∷ []) = both (eqb a 0x04) (both (eqb b 0x21) (ltb c 256))
is_message (a ∷ b ∷ c ∷ d ∷ s) = false

abbrev pub is_beginning : List ℕ → Bool
is_beginning [] = true
is_beginning (a ∷ []) = eqb a 0x04
is_beginning (a ∷ b ∷ []) = both (eqb a 0x04) (eqb b 0x21)
is_beginning (a ∷ b ∷ c ∷ s) = false

abbrev pub tiny : Format
tiny = record { start = 0x04; formed = is_message; viable = is_beginning }

-- streams, and what their reading yields
abbrev pub streams : List (List ℕ × Yield)
streams =
    -- one message
    (0x04 ∷ 0x21 ∷ 0x07 ∷ [], taking 0 (0x04 ∷ 0x21 ∷ 0x07 ∷ []) (waiting 3 []))
    -- the last byte of the first message is 04: the message that begins there, at place 2, is lost
    ∷ (0x04 ∷ 0x21 ∷ 0x04 ∷ 0x21 ∷ 0x07 ∷ [], taking 0 (0x04 ∷ 0x21 ∷ 0x04 ∷ []) (waiting 5 []))
    -- with a 04 of its own it is taken
    ∷ (0x04 ∷ 0x21 ∷ 0x04 ∷ 0x04 ∷ 0x21 ∷ 0x07 ∷ [], taking 0 (0x04 ∷ 0x21 ∷ 0x04 ∷ []) (taking 3 (0x04 ∷ 0x21 ∷ 0x07 ∷ []) (waiting 6 [])))
    -- the second 04 spoils the first, and is not lost: a message begins with it
    ∷ (0x04 ∷ 0x04 ∷ 0x21 ∷ 0x07 ∷ [], taking 1 (0x04 ∷ 0x21 ∷ 0x07 ∷ []) (waiting 4 []))
    -- two bytes begin nothing, and a beginning stays pending
    ∷ (0x07 ∷ 0x21 ∷ 0x04 ∷ 0x21 ∷ [], waiting 2 (0x04 ∷ 0x21 ∷ []))
    ∷ []

pub streams_fed : map (λ (t : List ℕ × Yield). feed_all tiny 0 [] t.0) streams ≡ map (λ (t : List ℕ × Yield). t.1) streams
unfolding feed_all feed
streams_fed = refl

pub streams_read : map (λ (t : List ℕ × Yield). read tiny t.0) streams ≡ map (λ (t : List ℕ × Yield). t.1) streams
unfolding read read_from found
streams_read = refl

-- calls: the bytes pending before, the bytes given, and what is seen
abbrev pub scans : List (List ℕ × List ℕ × Seen)
scans =
    -- a call ends with the first message
    ([], 0x07 ∷ 0x04 ∷ 0x21 ∷ 0x07 ∷ 0x04 ∷ 0x21 ∷ [], record { used = 4; messages = (0x04 ∷ 0x21 ∷ 0x07 ∷ []) ∷ []; pending = [] })
    -- of a message that was pending, only the bytes given now are used
    ∷ (0x04 ∷ 0x21 ∷ [], 0x07 ∷ 0x04 ∷ [], record { used = 1; messages = (0x04 ∷ 0x21 ∷ 0x07 ∷ []) ∷ []; pending = [] })
    -- no message: all are used
    ∷ (0x04 ∷ [], 0x07 ∷ 0x04 ∷ 0x21 ∷ [], record { used = 3; messages = []; pending = 0x04 ∷ 0x21 ∷ [] })
    ∷ []

pub scans_seen : map (λ (t : List ℕ × List ℕ × Seen). scanned tiny t.0 t.1) scans ≡ map (λ (t : List ℕ × List ℕ × Seen). t.2) scans
unfolding scanned call feed
scans_seen = refl
