-- How long a REPLY is. Assumes nothing.
use mathlib.Core.Path.{◌≡◌, refl}
use Prim.Native.Nat.{ℕ}
use lib.ListN.{length}
use Rattle.hex_pairs.specs.Hex.{hex_of}
use Rattle.nfo_parts.specs.Replies.{digits_of, body_of, reply_of}

-- "REPLY, 14 bytes"
pub reply_length : (adr e w : ℕ) → length (reply_of adr e w) ≡ 14
unfolding reply_of body_of digits_of hex_of
reply_length adr e w = refl
