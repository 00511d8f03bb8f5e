-- What a program prints of a call: "a line per taken message: outcome, space, reply in hex or `-`". Assumes nothing.
use Rattle.std.specs.Prelude.{List, [], ◌∷◌, ◌++◌, ℕ, ◌+◌, ◌%◌, ltb, length}
use Rattle.base.specs.Choice.{pick}
use Rattle.hex_pairs.specs.Hex.{hex_of}
use Rattle.card.specs.Outcome.{outcome_number}
use Rattle.card.specs.declared.state.Card.{Card}
use Rattle.turn.specs.Turn.{Received}
use Rattle.session_loop.specs.declared.call.Reported.{Reported}

-- "reply in hex or `-`"
abbrev pub shown : List ℕ → List ℕ
shown [] = 0x2D ∷ []
shown (b ∷ reply) = hex_of (b ∷ reply)

-- a line, with its end. The outcome is one numeral
unfoldable pub line_text : ℕ → List ℕ → List ℕ
line_text number reply = (0x30 + number % 10) ∷ 0x20 ∷ (shown reply ++ 0x0A ∷ [])

-- a taken message has an outcome from 0 to 9. "10: buffer too short", "11: RTU length or CRC wrong" and "15: nothing taken" have no line
unfoldable pub line_of : Received → List ℕ
line_of r = pick (ltb 9 (outcome_number r.outcome)) [] (line_text (outcome_number r.outcome) r.reply)

-- what is reported of a call: the card then, the bytes used, the lengths of the reply and of the line
pub record Report : Type 0 where
  pub card : Card
  pub used : ℕ
  pub reply : ℕ
  pub line : ℕ

abbrev pub reported : Received → Report
reported r = record { card = r.card; used = r.used; reply = length r.reply; line = length (line_of r) }

-- what the code hands back, with the card as it is then
abbrev pub reported_on : Card → Reported → Report
reported_on c r = record { card = c; used = r.used; reply = r.reply; line = r.line }
