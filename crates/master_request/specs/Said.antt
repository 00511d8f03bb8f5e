-- What the card is to read of what a master asks: that same request. Assumes nothing.
use Rattle.std.specs.Prelude.{◌≡◌, ◌⊎◌, List, [], ℕ, ◌+◌, ◌/◌, ◌%◌, ◌<◌, length}
use Rattle.base.specs.Bytes.{Bytes}
use Rattle.modbus_words.specs.Words.{word_bytes}
use Rattle.modbus.specs.Request.{span}
use Rattle.modbus.specs.declared.requests.Request.{Request}
use Rattle.modbus.specs.declared.requests.Request.TheVariants.{Read, One, Many}
use Rattle.master_request.specs.declared.Ask.{Ask}
use Rattle.master_request.specs.declared.Ask.TheVariants as ask

-- the same function, label and number; the register bytes of a 16 from the unit's seventh byte on
abbrev pub request_said : Ask → List ℕ → Request
request_said (ask.Holding first count) registers = Read 3 first count
request_said (ask.Input first count) registers = Read 4 first count
request_said (ask.One register word) registers = One register word
request_said (ask.Many first) registers = Many first (length registers / 2) (span 6 (6 + length registers))

-- the register data of a 06 or 16
abbrev pub data_said : Ask → List ℕ → List ℕ
data_said (ask.Holding first count) registers = []
data_said (ask.Input first count) registers = []
data_said (ask.One register word) registers = word_bytes word
data_said (ask.Many first) registers = registers

-- its numbers are in their widths, as those of every `Ask` are
abbrev pub InWidth : Ask → List ℕ → Type 0
InWidth (ask.Holding first count) registers = (first.0 < 65536) × (count < 65536)
InWidth (ask.Input first count) registers = (first.0 < 65536) × (count < 65536)
InWidth (ask.One register word) registers = (register.0 < 65536) × (word < 65536)
InWidth (ask.Many first) registers = (first.0 < 65536) × Bytes registers

-- "13 (addresses above .. 247, a broadcast read, counts outside the limits)": what cannot be said. "Counts 1 to 125 to read, 1 to 123 to write"; an odd number of
-- register bytes is no count
abbrev pub Outside : ℕ → ℕ → ℕ → Type 0
Outside low high n = (n < low) ⊎ (high < n)

abbrev pub Unsayable : (address : ℕ) → Ask → (bytes : ℕ) → Type 0
Unsayable address (ask.Holding first count) bytes = (address ≡ 0) ⊎ ((247 < address) ⊎ Outside 1 125 count)
Unsayable address (ask.Input first count) bytes = (address ≡ 0) ⊎ ((247 < address) ⊎ Outside 1 125 count)
Unsayable address (ask.One register word) bytes = 247 < address
Unsayable address (ask.Many first) bytes = (247 < address) ⊎ ((bytes % 2 ≡ 1) ⊎ Outside 1 123 (bytes / 2))
