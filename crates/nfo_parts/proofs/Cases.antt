-- Document 01's cases come out as it says, by computation. Assumes nothing.
use mathlib.Core.Path.{◌≡◌, refl}
use mathlib.Core.List.{List, map}
use Prim.Native.Nat.{ℕ}
use Rattle.hex_pairs.specs.Hex.{digit_of, hex_of}
use Rattle.checks.specs.Bcc.{bcc_of}
use Rattle.nfo_parts.specs.Replies.{digits_of, body_of, reply_of, ack_of, nak_of}
use Rattle.nfo_parts.specs.Cases.{replies}

pub replies_written : map (λ (t : List ℕ × List ℕ). t.0) replies ≡ map (λ (t : List ℕ × List ℕ). t.1) replies
unfolding reply_of body_of digits_of hex_of digit_of bcc_of ack_of nak_of
replies_written = refl
