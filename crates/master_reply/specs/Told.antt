-- Replies as bytes, and what the card answers, as a master is to hear it: each reply is read back as what was answered. Assumes nothing.
use Rattle.std.specs.Prelude.{◌⊎◌, ◌≡◌, List, [], ◌∷◌, ◌++◌, ℕ, ◌*◌, ◌/◌, ◌%◌, ◌≤◌, ◌<◌, eqb, take, Option, Some, None}
use Rattle.std.specs.Int.Bits.{bit_or}
use Rattle.base.specs.Choice.{pick}
use Rattle.base.specs.Bytes.{AllBelow}
use Rattle.modbus_words.specs.Words.{word_bytes}
use Rattle.modbus.specs.declared.replies.Answer.{Answer}
use Rattle.modbus.specs.declared.replies.Answer.TheVariants as answer
use Rattle.master_reply.specs.declared.Heard.{Heard}
use Rattle.master_reply.specs.declared.Reply.{Reply}
use Rattle.master_reply.specs.declared.Reply.TheVariants.{Data, One, Many, Exception}
use Rattle.master_reply.specs.Reply.{registers_of}

-- "Words go high byte first"
unfoldable pub words_bytes : List ℕ → List ℕ
words_bytes [] = []
words_bytes (w ∷ words) = word_bytes w ++ words_bytes words

-- the address of a reply, and its data unit with the words of a read
abbrev pub address_of : Option Reply → ℕ
address_of (Some (Data address function count)) = address
address_of (Some (One address register word)) = address
address_of (Some (Many address first count)) = address
address_of (Some (Exception address function code)) = address
address_of None = 0

unfoldable pub reply_unit : Option Reply → List ℕ → List ℕ
reply_unit (Some (Data address function count)) words = function ∷ 2 * count ∷ words_bytes words
reply_unit (Some (One address register word)) words = 6 ∷ word_bytes register.0 ++ word_bytes word
reply_unit (Some (Many address first count)) words = 16 ∷ word_bytes first.0 ++ word_bytes count
reply_unit (Some (Exception address function code)) words = function ∷ code ∷ []
reply_unit None words = []

-- the words that were heard of a read
abbrev pub words_heard : Heard → List ℕ
words_heard h = take (registers_of h.reply) h.words

-- "address 1 to 247 and a normal answer of the four functions (a read: even byte count 2 to 250; 16: count 1 to 123) or exception 01 to 04 with any
-- function byte from 80h up"
abbrev pub Within : ℕ → ℕ → ℕ → Type 0
Within low high n = (low ≤ n) × (n ≤ high)

abbrev pub IsReply : Option Reply → Type 0
IsReply (Some (Data address function count)) = Within 1 247 address × Within 3 4 function × Within 1 125 count
IsReply (Some (One address register word)) = Within 1 247 address
IsReply (Some (Many address first count)) = Within 1 247 address × Within 1 123 count
IsReply (Some (Exception address function code)) = Within 1 247 address × (0x80 ≤ function) × Within 1 4 code
IsReply None = ⊥

-- its other numbers are in their widths, as those of every `(Option Reply)` are
abbrev pub InWidth : Option Reply → List ℕ → Type 0
InWidth (Some (Data address function count)) words = AllBelow 65536 words
InWidth (Some (One address register word)) words = (register.0 < 65536) × (word < 65536)
InWidth (Some (Many address first count)) words = (first.0 < 65536) × (count < 65536)
InWidth (Some (Exception address function code)) words = function < 256
InWidth None words = ⊥

-- the bytes are the message of the reply that was heard, as its line makes messages of an address and a unit
abbrev pub IsMessage : (ℕ → List ℕ → List ℕ) → List ℕ → Heard → Type 0
IsMessage made bytes h = IsReply h.reply × (bytes ≡ made (address_of h.reply) (reply_unit h.reply (words_heard h)))

-- what a master is to hear of an answer, and the words of a read, "32-bit values low word first". "The master side doesn't speak" 43 and 17: their normal replies are none
abbrev pub reply_to : ℕ → Answer → Option Reply
reply_to address (answer.Word function word) = Some (Data address function 1)
reply_to address (answer.Long function value) = Some (Data address function 2)
reply_to address (answer.Echo function register number) = pick (eqb function 6) (Some (One address register number)) (Some (Many address register number))
reply_to address (answer.Identity part) = None
reply_to address (answer.Exception function code) = Some (Exception address (bit_or function 0x80) code)

abbrev pub words_told : Answer → List ℕ
words_told (answer.Word function word) = word ∷ []
words_told (answer.Long function value) = value % 65536 ∷ value / 65536 ∷ []
words_told (answer.Echo function register number) = []
words_told (answer.Identity part) = []
words_told (answer.Exception function code) = []

-- an answer of the four functions, a part of the identity, or one of the four exceptions
abbrev pub IsAnswer : Answer → Type 0
IsAnswer (answer.Word function word) = Within 3 4 function
IsAnswer (answer.Long function value) = Within 3 4 function
IsAnswer (answer.Echo function register number) = (function ≡ 6) ⊎ ((function ≡ 16) × Within 1 123 number)
IsAnswer (answer.Identity part) = Unit {0}
IsAnswer (answer.Exception function code) = Within 1 4 code
