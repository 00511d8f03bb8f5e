-- Document 01's cases, as far as they are NFO serial alone: streams and what their reading yields, messages and their parts. Assumes nothing.
use Rattle.std.specs.Prelude.{List, [], ◌∷◌, ◌++◌, ℕ, Option, Some, None}
use Rattle.stream.specs.Reading.{Yield, waiting, taking}
use Rattle.nfo_parts.specs.declared.message.Message.{Message}
use Rattle.nfo_parts.specs.declared.message.Message.TheVariants.{Enquiry, Select}
use Rattle.table.specs.declared.labels.ENumber.{ENumber}

-- SELECT Accel, up to its value; then the value's last two digits, 03, and a BCC
abbrev pub accel : List ℕ → List ℕ
accel rest = 0x04 ∷ 0x21 ∷ 0x02 ∷ 0x45 ∷ 0x30 ∷ 0x30 ∷ 0x31 ∷ 0x44 ∷ 0x3D ∷ 0x30 ∷ 0x30 ∷ rest

-- case 3: 0064h, with BCC 0C, and with 0D
abbrev pub accel_0064 : List ℕ
accel_0064 = accel (0x36 ∷ 0x34 ∷ 0x03 ∷ 0x0C ∷ [])

abbrev pub accel_0064_0_d : List ℕ
accel_0064_0_d = accel (0x36 ∷ 0x34 ∷ 0x03 ∷ 0x0D ∷ [])

-- case 5: 0093h, whose BCC is 04
abbrev pub accel_0093 : List ℕ
accel_0093 = accel (0x39 ∷ 0x33 ∷ 0x03 ∷ 0x04 ∷ [])

-- case 6: 0094h, and no BCC
abbrev pub accel_0094_short : List ℕ
accel_0094_short = accel (0x39 ∷ 0x34 ∷ 0x03 ∷ [])

-- case 2: ENQUIRY Accel, and without its 04
abbrev pub ask_rest : List ℕ
ask_rest = 0x21 ∷ 0x45 ∷ 0x30 ∷ 0x30 ∷ 0x31 ∷ 0x44 ∷ 0x05 ∷ []

abbrev pub ask : List ℕ
ask = 0x04 ∷ ask_rest

-- a stream, and what its reading yields
abbrev pub streams : List (List ℕ × Yield)
streams =
    -- "SELECT Accel 0064h, BCC 0C .. With BCC 0D: nothing taken."
    (accel_0064, taking 0 accel_0064 (waiting 15 []))
    ∷ (accel_0064_0_d, waiting 15 [])
    -- "SELECT Accel 0093h has BCC 04. Without an EOT of its own, the ENQUIRY of case 2 right after it is lost."
    ∷ (accel_0093 ++ ask_rest, taking 0 accel_0093 (waiting 22 []))
    ∷ (accel_0093 ++ ask, taking 0 accel_0093 (taking 15 ask (waiting 23 [])))
    -- "04 21 02 45 30 30 31 44 3D 30 30 39 34 03, then case 2: its reply only."
    ∷ (accel_0094_short ++ ask, taking 14 ask (waiting 22 []))
    -- a spoiled beginning, a message, and a beginning
    ∷ (0x04 ∷ ask ++ (0x04 ∷ 0x21 ∷ []), taking 1 ask (waiting 9 (0x04 ∷ 0x21 ∷ [])))
    ∷ []

-- ---- messages, and their parts
abbrev pub E : ℕ → Option ENumber
E n = Some (record { 0 = n })

-- ENQUIRY of a parameter
abbrev pub enquire : List ℕ → List ℕ
enquire parameter = 0x04 ∷ 0x21 ∷ parameter ++ (0x05 ∷ [])

abbrev pub messages : List (List ℕ × Message)
messages =
    -- case 1: "S2's own SELECT"
    (0x04 ∷ 0x21 ∷ 0x02 ∷ 0x45 ∷ 0x30 ∷ 0x30 ∷ 0x31 ∷ 0x39 ∷ 0x3D ∷ 0x30 ∷ 0x30 ∷ 0x36 ∷ 0x34 ∷ 0x03 ∷ 0x71 ∷ [], Select 0x21 (E 0x0019) (Some 0x0064))
    -- cases 2, 3 and 5
    ∷ (ask, Enquiry 0x21 (E 0x001D))
    ∷ (accel_0064, Select 0x21 (E 0x001D) (Some 0x0064))
    ∷ (accel_0093, Select 0x21 (E 0x001D) (Some 0x0093))
    -- case 4: "R-fix1 B1E0h"
    ∷ (0x04 ∷ 0x21 ∷ 0x02 ∷ 0x45 ∷ 0x30 ∷ 0x30 ∷ 0x33 ∷ 0x39 ∷ 0x3D ∷ 0x42 ∷ 0x31 ∷ 0x45 ∷ 0x30 ∷ 0x03 ∷ 0x77 ∷ [], Select 0x21 (E 0x0039) (Some 0xB1E0))
    -- "Take a-f as well": case 2 as `E001d`, and Accel `00a9`
    ∷ (enquire (0x45 ∷ 0x30 ∷ 0x30 ∷ 0x31 ∷ 0x64 ∷ []), Enquiry 0x21 (E 0x001D))
    ∷ (accel (0x61 ∷ 0x39 ∷ 0x03 ∷ 0x56 ∷ []), Select 0x21 (E 0x001D) (Some 0x00A9))
    -- "an unknown parameter or non-hex value is still well-formed": `F001D`, `E001g`, and Accel `00@9`; "The prefix E stays a capital": `e00a9`
    ∷ (enquire (0x46 ∷ 0x30 ∷ 0x30 ∷ 0x31 ∷ 0x44 ∷ []), Enquiry 0x21 None)
    ∷ (enquire (0x45 ∷ 0x30 ∷ 0x30 ∷ 0x31 ∷ 0x67 ∷ []), Enquiry 0x21 None)
    ∷ (accel (0x40 ∷ 0x39 ∷ 0x03 ∷ 0x77 ∷ []), Select 0x21 (E 0x001D) None)
    ∷ (enquire (0x65 ∷ 0x30 ∷ 0x30 ∷ 0x61 ∷ 0x39 ∷ []), Enquiry 0x21 None)
    ∷ []
