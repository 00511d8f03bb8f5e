-- Case 7's messages, and the streams, are read and written as the tables say, by computation. Assumes nothing.
use Rattle.std.proofs.Common.{◌≡◌, ℕ, true, List, [], ◌∷◌, ◌++◌, map, refl}
use Rattle.base.specs.Bytes.{same}
use Rattle.stream.specs.Reading.{Yield}
use Rattle.stream.specs.Automaton.{feed, feed_all}
use Rattle.hex_pairs.specs.Hex.{is_hex, all_hex, digit_value, digit_of, capital_of, capitals, pair_value, hex_of, bytes_of}
use Rattle.checks.specs.Lrc.{sum_of, adds_to_zero, lrc_of}
use Rattle.modbus_words.specs.Words.{word_bytes, word_at}
use Rattle.modbus.specs.Request.{reads, asked, asked_of, request_of}
use Rattle.identity.specs.Identity.{Identity}
use Rattle.modbus.specs.Answer.{short_of, unit_of}
use Rattle.modbus.specs.declared.requests.Request.{Request}
use Rattle.modbus.specs.declared.replies.Answer.{Answer}
use Rattle.ascii.specs.Ascii.{text_of, bytes_in, counted, right, formed, free, lrc_begun, full, goes_on, begun, viable, ascii, ascii_of, address_among, unit_among}
use Rattle.ascii.specs.Cases.{requests, replies, streams}

pub all_formed : map formed (map (λ (t : List ℕ × ℕ × Request). t.0) requests ++ map (λ (t : List ℕ × ℕ × Answer). t.0) replies) ≡ true ∷ true ∷ true ∷ true ∷ true ∷ true ∷ []
unfolding formed same text_of capitals capital_of bytes_in counted right bytes_of pair_value digit_value hex_of digit_of adds_to_zero sum_of
all_formed = refl

pub requests_read : map (λ (t : List ℕ × ℕ × Request). (t.0, address_among (bytes_in t.0), request_of (unit_among (bytes_in t.0)))) requests ≡ requests
unfolding unit_among bytes_in bytes_of pair_value digit_value asked_of request_of asked reads word_at
requests_read = refl

pub replies_written : (i : Identity) → map (λ (t : List ℕ × ℕ × Answer). ascii_of t.1 (unit_of i t.2)) replies ≡ map (λ (t : List ℕ × ℕ × Answer). t.0) replies
unfolding ascii_of text_of hex_of digit_of lrc_of sum_of unit_of short_of word_bytes
replies_written i = refl

pub streams_fed : map (λ (t : List ℕ × Yield). feed_all ascii 0 [] t.0) streams ≡ map (λ (t : List ℕ × Yield). t.1) streams
unfolding feed_all feed formed viable begun goes_on free lrc_begun full same text_of capitals capital_of bytes_in counted right is_hex all_hex bytes_of pair_value digit_value hex_of digit_of adds_to_zero sum_of lrc_of
streams_fed = refl
