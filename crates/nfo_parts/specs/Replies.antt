-- What the card answers: REPLY, ACK and NAK. "The reply repeats the request's ADR (ours)." Assumes nothing.
use Rattle.std.specs.Prelude.{◌≡◌, List, [], ◌∷◌, ◌++◌, ℕ, ◌/◌, ◌%◌}
use Rattle.hex_pairs.specs.Hex.{capitals, hex_of}
use Rattle.checks.specs.Bcc.{bcc_of}

-- "four hex digits": two bytes, the high one first. "We write capitals still"
unfoldable pub digits_of : ℕ → List ℕ
digits_of word = hex_of (word / 256 ∷ word % 256 ∷ [])

-- the characters that spell a word: in capitals they are its digits
abbrev pub Spells : List ℕ → ℕ → Type 0
Spells characters word = capitals characters ≡ digits_of word

-- what the BCC is made of: "all from after 02 up to and with 03", with these characters for the parameter's number and the value. "The prefix E stays a
-- capital."
abbrev pub body_with : List ℕ → List ℕ → List ℕ
body_with number value = 0x45 ∷ number ++ (0x3D ∷ value ++ (0x03 ∷ []))

unfoldable pub body_of : ℕ → ℕ → List ℕ
body_of e word = body_with (digits_of e) (digits_of word)

-- REPLY, 14 bytes (S2):  ADR 02 p p p p p 3D v v v v 03 BCC
-- place:                 0   1  2       6 7  8    11 12 13
abbrev pub reply_with : ℕ → List ℕ → List ℕ → List ℕ
reply_with adr number value = adr ∷ 0x02 ∷ body_with number value ++ (bcc_of (body_with number value) ∷ [])

-- "an NFO reply names the parameter in capitals, with its BCC over those"
unfoldable pub reply_of : ℕ → ℕ → ℕ → List ℕ
reply_of adr e word = reply_with adr (digits_of e) (digits_of word)

-- ACK (S2):  ADR 06
unfoldable pub ack_of : ℕ → List ℕ
ack_of adr = adr ∷ 0x06 ∷ []

-- NAK (S2):  ADR 15
unfoldable pub nak_of : ℕ → List ℕ
nak_of adr = adr ∷ 0x15 ∷ []
