-- What a Modbus master asks: what of it can be said, and its data unit, byte by byte. Assumes nothing.
use Rattle.std.specs.Prelude.{Bool, List, ◌∷◌, ◌++◌, ℕ, ◌/◌, ◌%◌, leb, eqb, length, replicate, Option, Some, None}
use Rattle.base.specs.Choice.{pick, both}
use Rattle.base.specs.Buffers.{front}
use Rattle.table.specs.declared.labels.Register.{Register}
use Rattle.modbus_words.specs.Words.{word_bytes}
use Rattle.modbus.specs.Request.{between}
use Rattle.master_request.specs.declared.Body.{Body}
use Rattle.master_request.specs.declared.Ask.{Ask}
use Rattle.master_request.specs.declared.Ask.TheVariants.{Holding, Input, One, Many}

-- "13 (addresses above .. 247, a broadcast read, counts outside the limits)"; "Addresses 1 to 247 .. 0 is broadcast"; "Counts 1 to 125 to read"
unfoldable pub read_sayable : (address count : ℕ) → Bool
read_sayable address count = both (between 1 247 address) (between 1 125 count)

-- "1 to 123 to write", by the number of register bytes: where that is odd, they are no registers
unfoldable pub many_sayable : (address bytes : ℕ) → Bool
many_sayable address bytes = both (leb address 247) (both (eqb (bytes % 2) 0) (between 1 123 (bytes / 2)))

unfoldable pub sayable : ℕ → Ask → ℕ → Bool
sayable address (Holding first count) bytes = read_sayable address count
sayable address (Input first count) bytes = read_sayable address count
sayable address (One register word) bytes = leb address 247
sayable address (Many first) bytes = many_sayable address bytes

-- 03, 04 and 06:  function, register, count or word
unfoldable pub head_of : ℕ → Register → ℕ → List ℕ
head_of function register number = function ∷ word_bytes register.0 ++ word_bytes number

-- 16:  16, register, count, byte count, register bytes; "in 16 the byte count is twice that"
unfoldable pub many_unit : Register → List ℕ → List ℕ
many_unit first registers = head_of 16 first (length registers / 2) ++ length registers ∷ registers

-- "Functions 03, 04 (same as 03; ours), 06, 16"
unfoldable pub request_unit : Ask → List ℕ → List ℕ
request_unit (Holding first count) registers = head_of 3 first count
request_unit (Input first count) registers = head_of 4 first count
request_unit (One register word) registers = head_of 6 register word
request_unit (Many first) registers = many_unit first registers

-- bytes in an array, 0 past them
abbrev pub body_with : List ℕ → Body
body_with bytes = record { bytes = front bytes (replicate 256 0); size = length bytes }

-- the address and the data unit; none where it cannot be said
unfoldable pub body_said : ℕ → Ask → List ℕ → Option Body
body_said address ask registers = pick (sayable address ask (length registers)) (Some (body_with (address ∷ request_unit ask registers))) None
