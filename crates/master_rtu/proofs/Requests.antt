-- What the code makes of a request: behind the address and the unit, in an array of 256 bytes, goes their CRC, and that frame is sent. Assumes nothing.
use Rattle.std.proofs.Common.{Result, Some}
use mathlib.Core.Path.{◌≡◌, ap, ap₂, ◌∙◌}
use mathlib.Core.Bool.{true}
use mathlib.Core.List.{List, [], ◌∷◌, ◌++◌}
use Prim.Native.Nat.{ℕ, ◌+◌, ◌/◌, ◌%◌, ◌≤◌, ◌<◌}
use native.Mathlib.Omega.{arith}
use lib.ListN.{length, take, get_or, set, length-set}
use lib.Seq.{sets}
use Rattle.base.specs.Buffers.{front}
use Rattle.base.proofs.Sets.{tailed, take_sets}
use Rattle.checks.specs.Crc.{crc_of, crc_bytes}
use Rattle.rtu.specs.Rtu.{rtu_of}
use Rattle.rtu.proofs.Replies.{rtu_length}
use Rattle.master.specs.Sent.{sent_of, bytes_sent}
use Rattle.master.proofs.Sends.{said_sent, said_lent}
use Rattle.master_request.specs.declared.Body.{Body}
use Rattle.master_request.specs.declared.Ask.{Ask}
use Rattle.master_request.specs.Ask.{sayable, request_unit, body_said}
use Rattle.master_request.proofs.Bodies.{room}
use Rattle.master_request.proofs.Made.{said, body_end, second_within, body_stored, array_length, body_taken}
use Rattle.master.specs.declared.Unsent.{Unsent}

module _ (a : ℕ) (ask : Ask) (s : List ℕ) (b : Body) (made : Some b ≡ body_said a ask s) where
  pub all_within : (x y : ℕ) → b.size + 2 ≤ length (set (set b.bytes b.size x) (b.size + 1) y)
  all_within x y =
      omega (
        arith,
        length-set (set b.bytes b.size x) (b.size + 1) y,
        length-set b.bytes b.size x,
        array_length a ask s b made,
        second_within a ask s b made,
      )

  module _ (x : ℕ) (two : List ℕ) (h : x ≡ crc_of (take b.size b.bytes)) (l : x < 65536) (apart : two ≡ x % 256 ∷ x / 256 % 256 ∷ []) where
    low : get_or two 0 0 ≡ x % 256
    low = rw apart

    high : get_or two 1 0 ≡ x / 256
    high = rw apart (omega arith)

    frame : take (b.size + 2) (set (set b.bytes b.size (get_or two 0 0)) (b.size + 1) (get_or two 1 0)) ≡ rtu_of a (request_unit ask s)
    unfolding rtu_of crc_bytes
    frame =
        let is : x ≡ crc_of (a ∷ request_unit ask s) = h ∙ ap crc_of (body_taken a ask s b made) in
        let n : b.size ≡ length (a ∷ request_unit ask s) = body_end a ask s b made in
        let m : b.size + 2 ≡ length (rtu_of a (request_unit ask s)) = omega (arith, rtu_length a (request_unit ask s)) in
        rw (low, high)
        (ap₂ take m
        (tailed room (a ∷ request_unit ask s) b.bytes b.size (x % 256) (x / 256) (body_stored a ask s b made) n
        ∙ ap (λ (y : ℕ). sets room 0 ((a ∷ request_unit ask s) ++ (y % 256 ∷ y / 256 ∷ []))) is)
        ∙ take_sets (rtu_of a (request_unit ask s)) room (omega (arith, m, second_within a ask s b made)))

    pub frame_sent : (n : ℕ) (r : Result ℕ Unsent) → r ≡ sent_of true (take (b.size + 2) (set (set b.bytes b.size (get_or two 0 0)) (b.size + 1) (get_or two 1 0))) n
        → r ≡ sent_of (sayable a ask (length s)) (rtu_of a (request_unit ask s)) n
    frame_sent n r q =
        said_sent (sayable a ask (length s)) (rtu_of a (request_unit ask s)) [] (said a ask s b made) n r (q ∙ ap (λ (m : List ℕ). sent_of true m n) frame)

    pub frame_lent : (n : ℕ) (buf now : List ℕ)
        → now ≡ front (bytes_sent true (take (b.size + 2) (set (set b.bytes b.size (get_or two 0 0)) (b.size + 1) (get_or two 1 0))) n) buf
        → now ≡ front (bytes_sent (sayable a ask (length s)) (rtu_of a (request_unit ask s)) n) buf
    frame_lent n buf now q =
        said_lent (sayable a ask (length s)) (rtu_of a (request_unit ask s)) buf (said a ask s b made) n now (q ∙ ap (λ (m : List ℕ). front (bytes_sent true m n) buf) frame)
