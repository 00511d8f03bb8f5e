-- What a reply buffer is given, and that sums at the end of a body do not wrap. Assumes nothing.
use mathlib.Core.Path.{◌≡◌}
use mathlib.Core.List.{List, [], ◌∷◌}
use Prim.Native.Nat.{ℕ, ◌+◌, ◌≤◌, ◌<◌}
use native.Mathlib.Omega.{arith}
use borrow.Author.Tests.{lt-ltb, le-ltb}
use lib.ListN.{length}
use mir.Syntax.{w64}
use mir.Val.{Fits}
use Rattle.base.specs.Buffers.{front}
use Rattle.identity.specs.Identity.{Identity}
use Rattle.modbus.specs.Answer.{unit_of}
use Rattle.modbus.specs.Reply.{reply_in}
use Rattle.modbus.specs.declared.replies.Answer.{Answer}
use Rattle.modbus.proofs.Units.{unit_short}

-- ---- a buffer shorter than the least gets nothing, any other gets the reply
pub reply_none : (least size : ℕ) (reply : List ℕ) → size < least → reply_in least size reply ≡ []
unfolding reply_in
reply_none least size reply h = rw (lt-ltb size least h)

pub reply_all : (least size : ℕ) (reply : List ℕ) → least ≤ size → reply_in least size reply ≡ reply
unfolding reply_in
reply_all least size reply h = rw (le-ltb size least h)

pub none_count : (least size : ℕ) (reply : List ℕ) → size < least → 0 ≡ length (reply_in least size reply)
none_count least size reply h = rw (reply_none least size reply h)

pub none_lent : (least : ℕ) (reply before : List ℕ) → length before < least → before ≡ front (reply_in least (length before) reply) before
unfolding front
none_lent least reply before h = rw (reply_none least (length before) reply h)

-- ---- a sum at the end of a body does not wrap
pub end_fits : (a : ℕ) (i : Identity) (answer : Answer) (n k : ℕ) → n ≡ length (a ∷ unit_of i answer) → k ≤ 2 → Fits w64 (n + k)
end_fits a i answer n k e h = omega (arith, unit_short i answer)
