-- What the code stores of a reply: the body, with its CRC behind it. Assumes nothing.
use mathlib.Core.Path.{◌≡◌, sym, ap, ap₂, ◌∙◌}
use mathlib.Core.List.{List, [], ◌∷◌}
use Prim.Native.Nat.{ℕ, suc, ◌+◌, ◌/◌, ◌%◌, ◌≤◌, ◌<◌}
use native.Mathlib.Omega.{arith}
use lib.ListN.{length, take, get_or, set, length-append}
use lib.Seq.{sets, length-sets}
use Rattle.base.specs.Buffers.{front, rtu_least}
use Rattle.base.proofs.Sets.{take_sets, sets_append, sets_front}
use Rattle.checks.specs.Crc.{crc_of, crc_bytes}
use Rattle.identity.specs.Identity.{Identity}
use Rattle.modbus.specs.Answer.{unit_of}
use Rattle.modbus.specs.Reply.{reply_in}
use Rattle.rtu.specs.Rtu.{rtu_of}
use Rattle.modbus.specs.declared.replies.Answer.{Answer}
use Rattle.modbus.proofs.Units.{unit_short}
use Rattle.modbus.proofs.Buffers.{reply_all}

pub rtu_length : (a : ℕ) (u : List ℕ) → length (rtu_of a u) ≡ length u + 3
unfolding rtu_of crc_bytes
rtu_length a u = omega (arith, length-append (a ∷ u) (crc_bytes (a ∷ u)))

-- ---- the CRC goes behind the n bytes of a body, in a buffer l with room for it
module _ (n : ℕ) (l : List ℕ) (room : n + 2 ≤ length l) where
  pub sealed : (x : ℕ) (b : List ℕ) → x ≡ crc_of (take n l) → x < 65536 → b ≡ x % 256 ∷ x / 256 % 256 ∷ []
      → set (set l n (get_or b 0 0)) (n + 1) (get_or b 1 0) ≡ sets l n (crc_bytes (take n l))
  unfolding crc_bytes
  sealed x b e h is =
      let next : n + 1 ≡ suc n = omega arith in
      let high : x / 256 % 256 ≡ x / 256 = omega arith in
      rw (is, next, high, e)

-- ---- the body, of n bytes, is stored from the start of the buffer r, which is now l; what is made of it by its CRC is the reply
module _ (a : ℕ) (i : Identity) (answer : Answer) (n : ℕ) (r l : List ℕ) (big : rtu_least ≤ length r) (count : n ≡ length (a ∷ unit_of i answer)) (lent : l ≡ sets r 0 (a ∷ unit_of i answer)) where
  pub room_behind : n + 2 ≤ length l
  room_behind = omega (arith, ap length lent ∙ length-sets r 0 (a ∷ unit_of i answer), unit_short i answer)

  pub rtu_count : (k : ℕ) → k ≡ n + 2 → k ≡ length (reply_in rtu_least (length r) (rtu_of a (unit_of i answer)))
  rtu_count k e = rw (reply_all rtu_least (length r) (rtu_of a (unit_of i answer)) big) (omega (arith, rtu_length a (unit_of i answer)))

  pub rtu_lent : (now : List ℕ) → now ≡ sets l n (crc_bytes (take n l)) → now ≡ front (reply_in rtu_least (length r) (rtu_of a (unit_of i answer))) r
  unfolding rtu_of
  rtu_lent now e =
      let body : List ℕ = a ∷ unit_of i answer in
      let is : take n l ≡ body = ap₂ take count lent ∙ take_sets body r (omega (arith, unit_short i answer)) in
      let at : n ≡ 0 + length body = omega arith in
      rw (reply_all rtu_least (length r) (rtu_of a (unit_of i answer)) big)
      (e
      ∙ (λ j. sets (lent j) (at j) (crc_bytes (is j)))
      ∙ sym (sets_append body (crc_bytes body) r 0)
      ∙ sets_front (rtu_of a (unit_of i answer)) r (omega (arith, rtu_length a (unit_of i answer), unit_short i answer)))
