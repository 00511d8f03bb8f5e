-- Modbus ASCII: what a well-formed message is, and what could still become one. Assumes nothing.
use Rattle.std.specs.Prelude.{ℕ, ◌-◌, ◌/◌, Bool, true, List, [], ◌∷◌, ◌++◌, length, take, drop, ◌==◌, nat_le, slice_index}
use Rattle.base.specs.Choice.{both, either}
use Rattle.base.specs.Bytes.{same}
use Rattle.stream.specs.Format.{Format}
use Rattle.hex_pairs.specs.Hex.{all_hex, digit_of, capital_of, capitals, hex_of, bytes_of}
use Rattle.checks.specs.Lrc.{adds_to_zero, lrc_of}

-- "`:`, k byte pairs in capital hex, CR LF": the message of k bytes, as it is written
unfoldable pub text_of : List ℕ → List ℕ
text_of bytes = 0x3A ∷ hex_of bytes ++ 0x0D ∷ 0x0A ∷ []

-- the bytes that a message's pairs spell: CR LF is no pair of hex digits, so they end there
unfoldable pub bytes_in : List ℕ → List ℕ
bytes_in m = bytes_of (drop 1 m)

-- "k from 3 to 255; all k bytes, LRC last, add to 0 modulo 256"
unfoldable pub counted : List ℕ → Bool
counted bytes = both (nat_le 3 (length bytes)) (nat_le (length bytes) 255)

unfoldable pub right : List ℕ → Bool
right bytes = both (counted bytes) (adds_to_zero bytes)

-- "Take a-f as well .. in Modbus ASCII pairs": a message is, in capitals, the text of its bytes, and these are right
unfoldable pub formed : List ℕ → Bool
formed m = both (same (capitals m) (text_of (bytes_in m))) (right (bytes_in m))

-- the hex digits d may be followed by more, or by CR: up to 508 freely, since the LRC is still to come
unfoldable pub free : List ℕ → Bool
free d = nat_le (length d) 508

-- the 509th is the LRC's high digit, in either letters
unfoldable pub lrc_begun : List ℕ → Bool
lrc_begun d = both (length d == 509) (capital_of (slice_index d 508) == digit_of (lrc_of (bytes_of d) / 16))

-- with the 510th all bytes add to 0
unfoldable pub full : List ℕ → Bool
full d = both (length d == 510) (adds_to_zero (bytes_of d))

unfoldable pub goes_on : List ℕ → Bool
goes_on d = either (free d) (either (lrc_begun d) (full d))

-- `:` and such digits
unfoldable pub begun : List ℕ → Bool
begun [] = true
begun (x ∷ d) = both (x == 0x3A) (both (all_hex d) (goes_on d))

-- the bytes "could still become one": by digits or CR, or, after CR, by LF
unfoldable pub viable : List ℕ → Bool
viable s = either (begun s) (formed (s ++ 0x0A ∷ []))

abbrev pub ascii : Format
ascii = record { start = 0x3A; formed = formed; viable = viable }

-- the message of an address and a data unit: these bytes, with their LRC last
abbrev pub with_lrc : List ℕ → List ℕ
with_lrc body = body ++ lrc_of body ∷ []

unfoldable pub ascii_of : ℕ → List ℕ → List ℕ
ascii_of address unit = text_of (with_lrc (address ∷ unit))

-- the address among a message's bytes, and its data unit: what is behind the address, without the LRC
abbrev pub address_among : List ℕ → ℕ
address_among bytes = slice_index bytes 0

unfoldable pub unit_among : List ℕ → List ℕ
unit_among bytes = drop 1 (take (length bytes - 1) bytes)
