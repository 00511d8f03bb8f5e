-- Case 7 is what the table says, by computation. Assumes nothing.
use mathlib.Core.Path.{◌≡◌, refl}
use mathlib.Core.List.{List, [], map}
use Prim.Native.Nat.{ℕ}
use Rattle.base.specs.Bytes.{same}
use Rattle.base.specs.Buffers.{front, fitting}
use Rattle.hex_pairs.specs.Hex.{digit_of, capital_of, capitals, digit_value, pair_value, hex_of, bytes_of}
use Rattle.checks.specs.Lrc.{sum_of, adds_to_zero, lrc_of}
use Rattle.modbus_words.specs.Words.{word_bytes, word_at}
use Rattle.ascii.specs.Ascii.{text_of, bytes_in, counted, right, formed, ascii_of, unit_among}
use Rattle.master.specs.Sent.{bytes_sent}
use Rattle.master_request.specs.declared.Ask.{Ask}
use Rattle.master_request.specs.Ask.{read_sayable, head_of, sayable, request_unit}
use Rattle.master_reply.specs.declared.Heard.{Heard}
use Rattle.master_reply.specs.Reply.{read_count, tells_data, tells_one, tells_many, tells_exception, unit_tells, reply_of, words_from, heard_of}
use Rattle.master_ascii.specs.Heard.{ascii_heard}
use Rattle.master_ascii.specs.Cases.{requests, replies}

abbrev Asked : Type 0
Asked = ℕ × Ask × List ℕ

pub requests_written : map (λ (t : Asked). (t.0, t.1, bytes_sent (sayable t.0 t.1 0) (ascii_of t.0 (request_unit t.1 [])) 17)) requests ≡ requests
unfolding bytes_sent fitting sayable read_sayable request_unit head_of word_bytes ascii_of text_of hex_of digit_of lrc_of sum_of
requests_written = refl

pub replies_read : map (λ (t : List ℕ × Heard). (t.0, ascii_heard t.0)) replies ≡ replies
unfolding ascii_heard formed same capitals capital_of right counted adds_to_zero sum_of bytes_in text_of hex_of digit_of bytes_of pair_value digit_value unit_among heard_of reply_of unit_tells tells_data read_count tells_one tells_many tells_exception words_from word_at front
replies_read = refl
