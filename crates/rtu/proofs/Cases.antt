-- The worked frames are what the table says, by computation. Assumes nothing.
use mathlib.Core.Path.{◌≡◌, refl}
use mathlib.Core.Bool.{Bool}
use mathlib.Core.List.{List, map}
use Prim.Native.Nat.{ℕ}
use Rattle.checks.specs.Crc.{crc_bit, crc_byte, crc_of, crc_bytes, body_of, crc_told, crc_holds}
use Rattle.modbus_words.specs.Words.{word_bytes, long_bytes, word_at}
use Rattle.modbus.specs.Request.{reads, writes, asked, identifying, numbering, asked_of, request_of}
use Rattle.identity.specs.Identity.{Identity}
use Rattle.modbus.specs.Answer.{short_of, unit_of}
use Rattle.modbus.specs.declared.requests.Request.{Request}
use Rattle.modbus.specs.declared.replies.Answer.{Answer}
use Rattle.rtu.specs.Rtu.{frame_holds, unit_in, rtu_of, register_span, register_data}
use Rattle.rtu.specs.Cases.{requests, replies}

abbrev Case : Type 0
Case = List ℕ × Bool × Request × List ℕ

pub requests_read : map (λ (t : Case). (t.0, frame_holds t.0, request_of (unit_in t.0), register_data t.0)) requests ≡ requests
unfolding frame_holds unit_in register_span register_data asked_of request_of asked identifying numbering reads writes word_at crc_holds crc_told body_of crc_of crc_byte crc_bit
requests_read = refl

pub replies_written : (i : Identity) → map (λ (t : List ℕ × ℕ × Answer). rtu_of t.1 (unit_of i t.2)) replies ≡ map (λ (t : List ℕ × ℕ × Answer). t.0) replies
unfolding rtu_of unit_of short_of word_bytes long_bytes crc_bytes crc_of crc_byte crc_bit
replies_written i = refl
