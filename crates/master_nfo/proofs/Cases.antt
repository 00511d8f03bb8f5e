-- Document 01's cases come out as it says, by computation. Assumes nothing.
use Rattle.std.proofs.Common.{Option}
use mathlib.Core.Path.{◌≡◌, refl}
use mathlib.Core.List.{List, map}
use Prim.Native.Nat.{ℕ}
use Rattle.hex_pairs.specs.Hex.{digit_value, digit_of, pair_value, hex_of}
use Rattle.checks.specs.Bcc.{bcc_of}
use Rattle.nfo.specs.Shape.{whole}
use Rattle.nfo_parts.specs.Parts.{value_at, parameter_at}
use Rattle.nfo_parts.specs.Replies.{digits_of}
use Rattle.master_nfo.specs.declared.replies.Reply.{Reply}
use Rattle.master_nfo.specs.Requests.{enquiry_of, select_of}
use Rattle.master_nfo.specs.Replies.{reply, ack, nak, checked, replied, read_of}
use Rattle.master_nfo.specs.Cases.{requests, replies}

pub requests_written : map (λ (t : List ℕ × List ℕ). t.0) requests ≡ map (λ (t : List ℕ × List ℕ). t.1) requests
unfolding enquiry_of select_of digits_of hex_of digit_of bcc_of
requests_written = refl

pub replies_read : map (λ (t : List ℕ × Option Reply). read_of t.0) replies ≡ map (λ (t : List ℕ × Option Reply). t.1) replies
unfolding read_of reply ack nak checked replied whole bcc_of value_at parameter_at pair_value digit_value
replies_read = refl
