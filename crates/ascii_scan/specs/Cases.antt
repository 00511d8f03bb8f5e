-- Document 01's case 7 and streams around it, as one call of the scan sees them. Assumes nothing.
use Rattle.std.specs.Prelude.{ℕ, Bool, true, false, List, [], ◌∷◌, ◌++◌}
use Rattle.ascii.specs.Cases.{ask_0294, reply_02, reply_02_with}

-- the bytes given, with nothing pending before; the bytes used; whether a message is taken; the bytes that are held then spell these
abbrev pub scans : List (List ℕ × ℕ × Bool × List ℕ)
scans =
    -- `:01030294000165`: the call ends with the message
    (ask_0294 ++ ask_0294, 17, true, 0x01 ∷ 0x03 ∷ 0x02 ∷ 0x94 ∷ 0x00 ∷ 0x01 ∷ 0x65 ∷ [])
    -- what a second `:` spoils is dropped and counted, and the `:` is not lost: `:0183` `:0183027A`
    ∷ (0x3A ∷ 0x30 ∷ 0x31 ∷ 0x38 ∷ 0x33 ∷ [] ++ reply_02, 16, true, 0x01 ∷ 0x83 ∷ 0x02 ∷ 0x7A ∷ [])
    -- `:0183027a`: small letters are taken
    ∷ (reply_02_with 0x61, 11, true, 0x01 ∷ 0x83 ∷ 0x02 ∷ 0x7A ∷ [])
    -- `:0183027B`: a wrong LRC is lost with CR; `:0183027g`: no digit; `:01FF`: two bytes
    ∷ (reply_02_with 0x42, 11, false, [])
    ∷ (reply_02_with 0x67, 11, false, [])
    ∷ (0x3A ∷ 0x30 ∷ 0x31 ∷ 0x46 ∷ 0x46 ∷ 0x0D ∷ 0x0A ∷ [], 7, false, [])
    -- `:0183027A` CR waits for LF
    ∷ (0x3A ∷ 0x30 ∷ 0x31 ∷ 0x38 ∷ 0x33 ∷ 0x30 ∷ 0x32 ∷ 0x37 ∷ 0x41 ∷ 0x0D ∷ [], 10, false, 0x01 ∷ 0x83 ∷ 0x02 ∷ 0x7A ∷ [])
    ∷ []
