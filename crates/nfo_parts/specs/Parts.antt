-- The parts of a message. Assumes nothing.
use Rattle.std.specs.Prelude.{List, ℕ, ◌+◌, ◌*◌, eqb, get_or, Option, Some, None}
use Rattle.base.specs.Choice.{pick}
use Rattle.hex_pairs.specs.Hex.{pair_value}
use Rattle.nfo_parts.specs.declared.message.Message.{Message}
use Rattle.nfo_parts.specs.declared.message.Message.TheVariants.{Enquiry, Select}
use Rattle.table.specs.declared.labels.ENumber.{ENumber}

-- "A value is four hex digits": two pairs, the high byte first. It begins at this place
abbrev pub word_in : Option ℕ → Option ℕ → Option ℕ
word_in (Some high) (Some low) = Some (256 * high + low)
word_in (Some high) None = None
word_in None low = None

unfoldable pub value_at : ℕ → List ℕ → Option ℕ
value_at i m = word_in (pair_value (get_or m i 0) (get_or m (i + 1) 0)) (pair_value (get_or m (i + 2) 0) (get_or m (i + 3) 0))

-- "A parameter is `E` and four hex digits." "The prefix E stays a capital."
abbrev pub number_in : Option ℕ → Option ENumber
number_in (Some e) = Some (record { 0 = e })
number_in None = None

unfoldable pub parameter_at : ℕ → List ℕ → Option ENumber
parameter_at i m = pick (eqb (get_or m i 0) 0x45) (number_in (value_at (i + 1) m)) None

-- place:    0  1   2  3       7 8  9    12 13 14
-- ENQUIRY:  04 ADR p  p p p p 05
-- SELECT:   04 ADR 02 p p p p p 3D v v v v 03 BCC
unfoldable pub message_of : List ℕ → Message
message_of m =
    pick (eqb (get_or m 2 0) 0x02)
    (Select (get_or m 1 0) (parameter_at 3 m) (value_at 9 m))
    (Enquiry (get_or m 1 0) (parameter_at 2 m))
