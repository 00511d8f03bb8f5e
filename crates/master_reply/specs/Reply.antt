-- What the data unit of a reply tells a master: "a normal answer of the four functions .. or exception". Assumes nothing.
use Rattle.std.specs.Prelude.{Bool, List, [], ◌∷◌, ℕ, zero, suc, ◌+◌, ◌/◌, ◌%◌, leb, eqb, length, get_or, replicate, Option, Some, None}
use Rattle.base.specs.Choice.{pick, both}
use Rattle.base.specs.Buffers.{front}
use Rattle.base.specs.Order.{Line, when, first_of}
use Rattle.modbus_words.specs.Words.{word_at}
use Rattle.modbus.specs.Request.{label, between}
use Rattle.master_reply.specs.declared.Heard.{Heard}
use Rattle.master_reply.specs.declared.Reply.{Reply}
use Rattle.master_reply.specs.declared.Reply.TheVariants.{Data, One, Many, Exception}

-- document 01's numbers: a reply that was read well is 0, an exception too
abbrev pub reply_number : Option Reply → ℕ
reply_number (Some (Data address function count)) = 0
reply_number (Some (One address register word)) = 0
reply_number (Some (Many address first count)) = 0
reply_number (Some (Exception address function code)) = 0
reply_number None = 14

-- "a read: even byte count 2 to 250"
unfoldable pub read_count : (bytes : ℕ) → Bool
read_count bytes = both (eqb (bytes % 2) 0) (between 2 250 bytes)

-- 03 and 04:  function, byte count, register bytes
unfoldable pub tells_data : (size function bytes : ℕ) → Bool
tells_data size function bytes = both (between 3 4 function) (both (read_count bytes) (eqb size (bytes + 2)))

-- 06, 5 bytes:  06, register, word
unfoldable pub tells_one : (size function : ℕ) → Bool
tells_one size function = both (eqb function 6) (eqb size 5)

-- 16, 5 bytes:  16, register, count; "16: count 1 to 123"
unfoldable pub tells_many : (size function count : ℕ) → Bool
tells_many size function count = both (eqb function 16) (both (eqb size 5) (between 1 123 count))

-- 2 bytes: "exception 01 to 04 with any function byte from 80h up"
unfoldable pub tells_exception : (size function code : ℕ) → Bool
tells_exception size function code = both (leb 0x80 function) (both (eqb size 2) (between 1 4 code))

-- what a unit of that size tells, by its function, the byte behind it, and the words at its places 1 and 3
abbrev pub kinds : (address size function second register number : ℕ) → List (Line (Option Reply))
kinds address size function second register number =
    when (tells_data size function second) (Some (Data address function (second / 2)))
    ∷ when (tells_one size function) (Some (One address (label register) number))
    ∷ when (tells_many size function number) (Some (Many address (label register) number))
    ∷ when (tells_exception size function second) (Some (Exception address function second))
    ∷ []

unfoldable pub unit_tells : (address size function second register number : ℕ) → Option Reply
unit_tells address size function second register number = first_of (kinds address size function second register number) None

-- "for Modbus address 1 to 247 and a normal answer .. or exception .. Else 14, and only then"
unfoldable pub reply_of : ℕ → List ℕ → Option Reply
reply_of address unit = pick (between 1 247 address) (unit_tells address (length unit) (get_or unit 0 0) (get_or unit 1 0) (word_at unit 1) (word_at unit 3)) None

-- so many words, one after the other from a place on
unfoldable pub words_from : List ℕ → ℕ → ℕ → List ℕ
words_from unit at zero = []
words_from unit at (suc count) = word_at unit at ∷ words_from unit (at + 2) count

-- how many registers a reply brings: those of a read stand behind its byte count
abbrev pub registers_of : Option Reply → ℕ
registers_of (Some (Data address function count)) = count
registers_of (Some (One address register word)) = 0
registers_of (Some (Many address first count)) = 0
registers_of (Some (Exception address function code)) = 0
registers_of None = 0

-- a reply and words beside it, 0 past them
abbrev pub heard : Option Reply → List ℕ → Heard
heard reply words = record { words = front words (replicate 125 0); reply = reply }

unfoldable pub heard_of : ℕ → List ℕ → Heard
heard_of address unit = heard (reply_of address unit) (words_from unit 2 (registers_of (reply_of address unit)))
