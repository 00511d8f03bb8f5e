-- Document 01's case 7, and streams around it. Assumes nothing.
use Rattle.std.specs.Prelude.{ℕ, List, [], ◌∷◌, ◌++◌}
use Rattle.stream.specs.Reading.{Yield, waiting, taking}
use Rattle.modbus.specs.Request.{label}
use Rattle.modbus.specs.declared.requests.Request.{Request}
use Rattle.modbus.specs.declared.requests.Request.TheVariants.{Read}
use Rattle.modbus.specs.declared.replies.Answer.{Answer}
use Rattle.modbus.specs.declared.replies.Answer.TheVariants.{Word, Exception}

-- `:01030294000165`, `:0103070C0001E8`, `:000302A4000156`
abbrev pub ask_0294 : List ℕ
ask_0294 = 0x3A ∷ 0x30 ∷ 0x31 ∷ 0x30 ∷ 0x33 ∷ 0x30 ∷ 0x32 ∷ 0x39 ∷ 0x34 ∷ 0x30 ∷ 0x30 ∷ 0x30 ∷ 0x31 ∷ 0x36 ∷ 0x35 ∷ 0x0D ∷ 0x0A ∷ []

abbrev pub ask_070_c : List ℕ
ask_070_c = 0x3A ∷ 0x30 ∷ 0x31 ∷ 0x30 ∷ 0x33 ∷ 0x30 ∷ 0x37 ∷ 0x30 ∷ 0x43 ∷ 0x30 ∷ 0x30 ∷ 0x30 ∷ 0x31 ∷ 0x45 ∷ 0x38 ∷ 0x0D ∷ 0x0A ∷ []

abbrev pub ask_02_a4 : List ℕ
ask_02_a4 = 0x3A ∷ 0x30 ∷ 0x30 ∷ 0x30 ∷ 0x33 ∷ 0x30 ∷ 0x32 ∷ 0x41 ∷ 0x34 ∷ 0x30 ∷ 0x30 ∷ 0x30 ∷ 0x31 ∷ 0x35 ∷ 0x36 ∷ 0x0D ∷ 0x0A ∷ []

-- the second in small letters: `:0103070c0001e8`
abbrev pub ask_070c : List ℕ
ask_070c = 0x3A ∷ 0x30 ∷ 0x31 ∷ 0x30 ∷ 0x33 ∷ 0x30 ∷ 0x37 ∷ 0x30 ∷ 0x63 ∷ 0x30 ∷ 0x30 ∷ 0x30 ∷ 0x31 ∷ 0x65 ∷ 0x38 ∷ 0x0D ∷ 0x0A ∷ []

-- `:0103020001F9`, `:0183027A`
abbrev pub reply_0001 : List ℕ
reply_0001 = 0x3A ∷ 0x30 ∷ 0x31 ∷ 0x30 ∷ 0x33 ∷ 0x30 ∷ 0x32 ∷ 0x30 ∷ 0x30 ∷ 0x30 ∷ 0x31 ∷ 0x46 ∷ 0x39 ∷ 0x0D ∷ 0x0A ∷ []

abbrev pub reply_02 : List ℕ
reply_02 = 0x3A ∷ 0x30 ∷ 0x31 ∷ 0x38 ∷ 0x33 ∷ 0x30 ∷ 0x32 ∷ 0x37 ∷ 0x41 ∷ 0x0D ∷ 0x0A ∷ []

-- its LRC with this digit for its `A`
abbrev pub reply_02_with : ℕ → List ℕ
reply_02_with digit = 0x3A ∷ 0x30 ∷ 0x31 ∷ 0x38 ∷ 0x33 ∷ 0x30 ∷ 0x32 ∷ 0x37 ∷ digit ∷ 0x0D ∷ 0x0A ∷ []

-- a message; its address; what its unit asks
abbrev pub requests : List (List ℕ × ℕ × Request)
requests =
    (ask_0294, 1, Read 3 (label 0x0294) 1)
    ∷ (ask_070_c, 1, Read 3 (label 0x070C) 1)
    ∷ (ask_070c, 1, Read 3 (label 0x070C) 1)
    ∷ (ask_02_a4, 0, Read 3 (label 0x02A4) 1)
    ∷ []

-- a message; its address; what its unit answers
abbrev pub replies : List (List ℕ × ℕ × Answer)
replies = (reply_0001, 1, Word 3 1) ∷ (reply_02, 1, Exception 3 2) ∷ []

-- a stream, and what its reading yields
abbrev pub streams : List (List ℕ × Yield)
streams =
    -- one message after the other
    (reply_02 ++ reply_0001, taking 0 reply_02 (taking 11 reply_0001 (waiting 26 [])))
    -- a second `:` begins anew
    ∷ (0x3A ∷ 0x30 ∷ 0x31 ∷ 0x38 ∷ 0x33 ∷ [] ++ reply_02, taking 5 reply_02 (waiting 16 []))
    -- "Take a-f as well": the LRC in small letters
    ∷ (reply_02_with 0x61, taking 0 (reply_02_with 0x61) (waiting 11 []))
    -- a wrong LRC, `g`, `@` and half a pair are lost with CR, with the character, with CR
    ∷ (reply_02_with 0x42, waiting 11 [])
    ∷ (reply_02_with 0x67, waiting 11 [])
    ∷ (reply_02_with 0x40, waiting 11 [])
    ∷ (0x3A ∷ 0x30 ∷ 0x31 ∷ 0x38 ∷ 0x33 ∷ 0x30 ∷ 0x32 ∷ 0x37 ∷ 0x0D ∷ 0x0A ∷ [], waiting 10 [])
    -- two bytes are no message
    ∷ (0x3A ∷ 0x30 ∷ 0x31 ∷ 0x46 ∷ 0x46 ∷ 0x0D ∷ 0x0A ∷ [], waiting 7 [])
    -- CR waits for LF
    ∷ (0x3A ∷ 0x30 ∷ 0x31 ∷ 0x38 ∷ 0x33 ∷ 0x30 ∷ 0x32 ∷ 0x37 ∷ 0x41 ∷ 0x0D ∷ [], waiting 0 (0x3A ∷ 0x30 ∷ 0x31 ∷ 0x38 ∷ 0x33 ∷ 0x30 ∷ 0x32 ∷ 0x37 ∷ 0x41 ∷ 0x0D ∷ []))
    ∷ []
