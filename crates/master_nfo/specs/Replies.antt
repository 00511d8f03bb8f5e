-- What the master reads: REPLY, ACK and NAK, and nothing else. Assumes nothing.
use Rattle.std.specs.Prelude.{Bool, List, [], ◌∷◌, ℕ, ◌-◌, eqb, get_or, take, drop, Option, Some, None}
use Rattle.base.specs.Choice.{both}
use Rattle.base.specs.Order.{when, first_of}
use Rattle.checks.specs.Bcc.{bcc_of}
use Rattle.nfo.specs.Shape.{Kind, byte, whole}
use Rattle.nfo.specs.Message.{ADR, p, v, BCC}
use Rattle.nfo_parts.specs.Parts.{parameter_at, value_at}
use Rattle.master_nfo.specs.declared.replies.Reply.{Reply}
use Rattle.master_nfo.specs.declared.replies.Reply.TheVariants.{Told, Acknowledged, Refused}
use Rattle.table.specs.declared.labels.ENumber.{ENumber}

-- document 01's numbers: the column No
abbrev pub reply_number : Option Reply → ℕ
reply_number (Some (Told address e word)) = 0
reply_number (Some (Acknowledged address)) = 0
reply_number (Some (Refused address)) = 0
reply_number None = 14

-- REPLY, 14 bytes (S2):  ADR 02 p p p p p 3D v v v v 03 BCC
-- place:                 0   1  2       6 7  8    11 12 13
unfoldable pub reply : List Kind
reply = ADR ∷ byte 0x02 ∷ p ∷ p ∷ p ∷ p ∷ p ∷ byte 0x3D ∷ v ∷ v ∷ v ∷ v ∷ byte 0x03 ∷ BCC ∷ []

-- "ACK: ADR 06. NAK: ADR 15" (S2)
unfoldable pub ack : List Kind
ack = ADR ∷ byte 0x06 ∷ []

unfoldable pub nak : List Kind
nak = ADR ∷ byte 0x15 ∷ []

-- "BCC is the exclusive-or of all from after 02 up to and with 03": places 2 to 12
unfoldable pub checked : List ℕ → Bool
checked s = eqb (get_or s 13 0) (bcc_of (take 11 (drop 2 s)))

-- "the shape, check"
unfoldable pub replied : List ℕ → Bool
replied s = both (whole reply s) (checked s)

-- "and hex above": the parameter is `E` and four hex digits, the value four hex digits
abbrev pub told_by : ℕ → Option ENumber → Option ℕ → Option Reply
told_by address (Some e) (Some word) = Some (Told address e word)
told_by address (Some e) None = None
told_by address None value = None

-- "ADR is address + 32"
abbrev pub address_heard : List ℕ → ℕ
address_heard s = get_or s 0 0 - 32

-- "a reply must fill its slice exactly, with the shape, check and hex above .. Else 14, and only then."
unfoldable pub read_of : List ℕ → Option Reply
read_of s =
    first_of (when (whole ack s) (Some (Acknowledged (address_heard s)))
    ∷ when (whole nak s) (Some (Refused (address_heard s)))
    ∷ when (replied s) (told_by (address_heard s) (parameter_at 2 s) (value_at 8 s))
    ∷ []) None
