-- The worked frames are what the table says, by computation. Assumes nothing.
use mathlib.Core.Path.{◌≡◌, refl}
use mathlib.Core.List.{List, map}
use Prim.Native.Nat.{ℕ}
use lib.ListN.{length}
use Rattle.base.specs.Buffers.{front, fitting}
use Rattle.checks.specs.Crc.{crc_bit, crc_byte, crc_of, crc_bytes, body_of, crc_told, crc_holds}
use Rattle.modbus_words.specs.Words.{word_bytes, word_at}
use Rattle.rtu.specs.Rtu.{frame_holds, address_in, unit_in, rtu_of}
use Rattle.master.specs.Sent.{bytes_sent}
use Rattle.master_request.specs.declared.Ask.{Ask}
use Rattle.master_request.specs.Ask.{read_sayable, many_sayable, head_of, many_unit, sayable, request_unit}
use Rattle.master_reply.specs.declared.Heard.{Heard}
use Rattle.master_reply.specs.Reply.{read_count, tells_data, tells_one, tells_many, tells_exception, unit_tells, reply_of, words_from, heard_of}
use Rattle.master_rtu.specs.Heard.{rtu_heard}
use Rattle.master_rtu.specs.Cases.{requests, replies}

abbrev Asked : Type 0
Asked = ℕ × Ask × List ℕ × List ℕ

pub requests_written : map (λ (t : Asked). (t.0, t.1, t.2, bytes_sent (sayable t.0 t.1 (length t.2)) (rtu_of t.0 (request_unit t.1 t.2)) 256)) requests ≡ requests
unfolding bytes_sent fitting sayable read_sayable many_sayable request_unit head_of many_unit word_bytes rtu_of crc_bytes crc_of crc_byte crc_bit
requests_written = refl

pub replies_read : map (λ (t : List ℕ × Heard). (t.0, rtu_heard t.0)) replies ≡ replies
unfolding rtu_heard frame_holds crc_holds crc_told body_of crc_of crc_byte crc_bit address_in unit_in heard_of reply_of unit_tells tells_data read_count tells_one tells_many tells_exception words_from word_at front
replies_read = refl
