-- Document 01's cases come out as it says, by computation. Assumes nothing.
use mathlib.Core.Path.{◌≡◌, refl}
use mathlib.Core.Bool.{Bool, true}
use mathlib.Core.List.{List, [], map}
use Prim.Native.Nat.{ℕ}
use Rattle.stream.specs.Reading.{Yield}
use Rattle.stream.specs.Automaton.{feed, feed_all}
use Rattle.hex_pairs.specs.Hex.{digit_value, pair_value}
use Rattle.checks.specs.Bcc.{bcc_of}
use Rattle.nfo.specs.Shape.{whole, part}
use Rattle.nfo.specs.Message.{enquiry, select, bcc_in, formed, viable, nfo}
use Rattle.nfo_parts.specs.Parts.{value_at, parameter_at, message_of}
use Rattle.nfo.specs.Cases.{streams, messages}
use Rattle.nfo_parts.specs.declared.message.Message.{Message}

pub streams_fed : map (λ (t : List ℕ × Yield). feed_all nfo 0 [] t.0) streams ≡ map (λ (t : List ℕ × Yield). t.1) streams
unfolding feed_all feed formed viable bcc_in bcc_of enquiry select whole part
streams_fed = refl

-- each is well-formed, and has these parts
abbrev seen : List ℕ × Message → Bool × Message
seen t = (formed t.0, message_of t.0)

abbrev shown : List ℕ × Message → Bool × Message
shown t = (true, t.1)

pub messages_parted : map seen messages ≡ map shown messages
unfolding formed bcc_in bcc_of enquiry select whole message_of parameter_at value_at pair_value digit_value
messages_parted = refl
