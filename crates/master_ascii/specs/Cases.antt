-- Document 01's case 7, from the master's end. Assumes nothing.
use Rattle.std.specs.Prelude.{List, [], ◌∷◌, ℕ, Some, None}
use Rattle.modbus.specs.Request.{label}
use Rattle.ascii.specs.Cases.{ask_0294, ask_070_c, reply_0001, reply_02, reply_02_with}
use Rattle.master_request.specs.declared.Ask.{Ask}
use Rattle.master_request.specs.declared.Ask.TheVariants.{Holding}
use Rattle.master_reply.specs.declared.Heard.{Heard}
use Rattle.master_reply.specs.declared.Reply.TheVariants.{Data, Exception}
use Rattle.master_reply.specs.Reply.{heard}

-- an address; what is asked; its message, or none where it cannot be said
abbrev pub requests : List (ℕ × Ask × List ℕ)
requests = (1, Holding (label 0x0294) 1, ask_0294) ∷ (1, Holding (label 0x070C) 1, ask_070_c) ∷ (0, Holding (label 0x02A4) 1, []) ∷ []

-- a text; what is heard. "Take a-f as well .. in replies the master side reads". `g` is no digit, and a request is no reply
abbrev pub replies : List (List ℕ × Heard)
replies =
    (reply_0001, heard (Some (Data 1 3 1)) (1 ∷ []))
    ∷ (reply_02, heard (Some (Exception 1 0x83 2)) [])
    ∷ (reply_02_with 0x61, heard (Some (Exception 1 0x83 2)) [])
    ∷ (reply_02_with 0x67, heard None [])
    ∷ (ask_0294, heard None [])
    ∷ []
