-- Worked frames, from the master's end. Assumes nothing.
use Rattle.std.specs.Prelude.{List, [], ◌∷◌, ℕ, Some, None}
use Rattle.modbus.specs.Request.{label}
use Rattle.master_request.specs.declared.Ask.{Ask}
use Rattle.master_request.specs.declared.Ask.TheVariants as ask
use Rattle.master_reply.specs.declared.Heard.{Heard}
use Rattle.master_reply.specs.declared.Reply.TheVariants.{Data, One, Many, Exception}
use Rattle.master_reply.specs.Reply.{heard}

-- an address; what is asked; register bytes; the frame, or none where it cannot be said
abbrev pub requests : List (ℕ × Ask × List ℕ × List ℕ)
requests =
    (1, ask.Holding (label 0x0294) 1, [], 0x01 ∷ 0x03 ∷ 0x02 ∷ 0x94 ∷ 0x00 ∷ 0x01 ∷ 0xC4 ∷ 0x5E ∷ [])
    ∷ (1, ask.One (label 0x06DC) 100, [], 0x01 ∷ 0x06 ∷ 0x06 ∷ 0xDC ∷ 0x00 ∷ 0x64 ∷ 0x49 ∷ 0x53 ∷ [])
    -- SpdScl num 1000000 of every card
    ∷ (0, ask.Many (label 0x070C), 0x42 ∷ 0x40 ∷ 0x00 ∷ 0x0F ∷ [], 0x00 ∷ 0x10 ∷ 0x07 ∷ 0x0C ∷ 0x00 ∷ 0x02 ∷ 0x04 ∷ 0x42 ∷ 0x40 ∷ 0x00 ∷ 0x0F ∷ 0x84 ∷ 0x9E ∷ [])
    -- a broadcast read, address 248, 126 registers, none, half a register
    ∷ (0, ask.Input (label 0x0294) 1, [], [])
    ∷ (248, ask.One (label 0x06DC) 100, [], [])
    ∷ (1, ask.Holding (label 0x0294) 126, [], [])
    ∷ (1, ask.Holding (label 0x0294) 0, [], [])
    ∷ (1, ask.Many (label 0x070C), 0x42 ∷ 0x40 ∷ 0x00 ∷ [], [])
    ∷ []

-- a frame; what is heard
abbrev pub replies : List (List ℕ × Heard)
replies =
    (0x01 ∷ 0x03 ∷ 0x02 ∷ 0x00 ∷ 0x01 ∷ 0x79 ∷ 0x84 ∷ [], heard (Some (Data 1 3 1)) (1 ∷ []))
    ∷ (0x01 ∷ 0x03 ∷ 0x04 ∷ 0x42 ∷ 0x40 ∷ 0x00 ∷ 0x0F ∷ 0xAF ∷ 0x9B ∷ [], heard (Some (Data 1 3 2)) (0x4240 ∷ 0x000F ∷ []))
    ∷ (0x01 ∷ 0x06 ∷ 0x06 ∷ 0xDC ∷ 0x00 ∷ 0x64 ∷ 0x49 ∷ 0x53 ∷ [], heard (Some (One 1 (label 0x06DC) 100)) [])
    ∷ (0x01 ∷ 0x10 ∷ 0x07 ∷ 0x0C ∷ 0x00 ∷ 0x02 ∷ 0x80 ∷ 0xBF ∷ [], heard (Some (Many 1 (label 0x070C) 2)) [])
    ∷ (0x01 ∷ 0xAB ∷ 0x01 ∷ 0x9E ∷ 0xF0 ∷ [], heard (Some (Exception 1 0xAB 1)) [])
    -- with a wrong CRC
    ∷ (0x01 ∷ 0xAB ∷ 0x01 ∷ 0x9E ∷ 0xF1 ∷ [], heard None [])
    ∷ []
