-- Document 01's cases, from the master's side: requests and their bytes, and what is read in bytes that come back. Assumes nothing.
use Rattle.std.specs.Prelude.{List, [], ◌∷◌, ℕ, Option, Some, None}
use Rattle.nfo.specs.Cases.{ask, accel_0064, accel_0093}
use Rattle.master_nfo.specs.Requests.{enquiry_of, select_of}
use Rattle.master_nfo.specs.declared.replies.Reply.{Reply}
use Rattle.master_nfo.specs.declared.replies.Reply.TheVariants.{Told, Acknowledged, Refused}

-- cases 2, 3 and 5: ENQUIRY Accel, SELECT Accel 0064h and 0093h
abbrev pub requests : List (List ℕ × List ℕ)
requests =
    (enquiry_of 1 0x001D, ask)
    ∷ (select_of 1 0x001D 0x0064, accel_0064)
    ∷ (select_of 1 0x001D 0x0093, accel_0093)
    ∷ []

-- case 2's REPLY, up to the last two digits of its value; then those, 03, and a BCC
abbrev pub accel_told : List ℕ → List ℕ
accel_told rest = 0x21 ∷ 0x02 ∷ 0x45 ∷ 0x30 ∷ 0x30 ∷ 0x31 ∷ 0x44 ∷ 0x3D ∷ 0x30 ∷ 0x30 ∷ rest

-- case 2's REPLY with the number `001d`, a prefix and a BCC
abbrev pub small_told : ℕ → ℕ → List ℕ
small_told prefix bcc = 0x21 ∷ 0x02 ∷ prefix ∷ 0x30 ∷ 0x30 ∷ 0x31 ∷ 0x64 ∷ 0x3D ∷ 0x30 ∷ 0x30 ∷ 0x33 ∷ 0x32 ∷ 0x03 ∷ bcc ∷ []

abbrev pub replies : List (List ℕ × Option Reply)
replies =
    -- case 2, and case 9: its BCC is 04
    (accel_told (0x33 ∷ 0x32 ∷ 0x03 ∷ 0x0F ∷ []), (Some (Told 1 (record { 0 = 0x001D }) 50)))
    ∷ (accel_told (0x39 ∷ 0x33 ∷ 0x03 ∷ 0x04 ∷ []), (Some (Told 1 (record { 0 = 0x001D }) 0x0093)))
    -- cases 1 and 3, and ADR 7Fh
    ∷ (0x21 ∷ 0x15 ∷ [], (Some (Refused 1)))
    ∷ (0x21 ∷ 0x06 ∷ [], (Some (Acknowledged 1)))
    ∷ (0x7F ∷ 0x06 ∷ [], (Some (Acknowledged 95)))
    -- "in replies the master side reads": small letters, with the BCC over those
    ∷ (accel_told (0x33 ∷ 0x61 ∷ 0x03 ∷ 0x5C ∷ []), (Some (Told 1 (record { 0 = 0x001D }) 0x003A)))
    ∷ (small_told 0x45 0x2F, (Some (Told 1 (record { 0 = 0x001D }) 50)))
    -- with the BCC over the capitals, and with the prefix `e`
    ∷ (small_told 0x45 0x0F, None)
    ∷ (small_told 0x65 0x0F, None)
    -- a wrong BCC, `g` with its right BCC, a byte too many and one too few, and a request
    ∷ (accel_told (0x33 ∷ 0x32 ∷ 0x03 ∷ 0x0E ∷ []), None)
    ∷ (accel_told (0x33 ∷ 0x67 ∷ 0x03 ∷ 0x5A ∷ []), None)
    ∷ (accel_told (0x33 ∷ 0x32 ∷ 0x03 ∷ 0x0F ∷ 0x00 ∷ []), None)
    ∷ (0x21 ∷ [], None)
    ∷ (ask, None)
    ∷ []
