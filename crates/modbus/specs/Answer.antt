-- What the data unit of a reply answers, byte by byte. Assumes nothing.
use Rattle.std.specs.Prelude.{List, [], ◌∷◌, ◌++◌, ℕ}
use Rattle.std.specs.Int.Bits.{bit_or}
use Rattle.identity.specs.Identity as Identities
use Rattle.modbus_words.specs.Words.{word_bytes, long_bytes}
use Rattle.modbus.specs.declared.replies.Answer.{Answer}
use Rattle.modbus.specs.declared.replies.Answer.TheVariants.{Word, Long, Echo, Identity, Exception}

-- 03 and 04:  function, byte count, the row's one or two registers
-- 06 and 16:  the request's function, register and word or count
-- "An exception reply carries the function with its top bit set (MB)", and the exception's number
unfoldable pub short_of : Answer → List ℕ
short_of (Word function word) = function ∷ 2 ∷ word_bytes word
short_of (Long function value) = function ∷ 4 ∷ long_bytes value
short_of (Echo function register number) = function ∷ word_bytes register.0 ++ word_bytes number
short_of (Identity part) = []
short_of (Exception function code) = bit_or function 0x80 ∷ code ∷ []

-- 43 and 17:  the part of the card's identity that was asked for
unfoldable pub unit_of : Identities.Identity → Answer → List ℕ
unit_of i (Word function word) = short_of (Word function word)
unit_of i (Long function value) = short_of (Long function value)
unit_of i (Echo function register number) = short_of (Echo function register number)
unit_of i (Identity part) = Identities.part_unit i part
unit_of i (Exception function code) = short_of (Exception function code)
