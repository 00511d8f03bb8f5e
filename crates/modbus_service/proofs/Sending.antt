-- A reply is put into a buffer that is long enough, where there is a reply, whatever messages the line makes. Assumes nothing.
use Rattle.std.proofs.Common.{Option, Some, None}
use mathlib.Core.Path.{◌≡◌, refl, sym}
use mathlib.Core.List.{List}
use Prim.Native.Nat.{ℕ, ◌≤◌}
use lib.ListN.{length}
use Rattle.base.specs.Buffers.{front}
use Rattle.base.proofs.Sets.{front_none}
use Rattle.identity.specs.Identity.{Identity}
use Rattle.modbus.specs.Answer.{unit_of}
use Rattle.modbus.specs.Reply.{reply_in}
use Rattle.modbus.specs.declared.replies.Answer.{Answer}
use Rattle.modbus.proofs.Buffers.{reply_all}
use Rattle.modbus_service.specs.Reply.{sent_by}

module _ (made : ℕ → List ℕ → List ℕ) (i : Identity) (address : ℕ) (said : Option Answer) (before : List ℕ) where
  -- so many bytes were put, and the buffer is this then
  abbrev Puts : ℕ → List ℕ → List ℕ → Type 0
  Puts n out bytes = (n ≡ length bytes) × (out ≡ front bytes before)

  pub put_none : said ≡ None → Puts 0 before (sent_by made i address said)
  put_none is = rw is (refl, sym (front_none before))

  pub put_unit : (least n : ℕ) (answer : Answer) (out : List ℕ) → least ≤ length before → said ≡ Some answer
      → Puts n out (reply_in least (length before) (made address (unit_of i answer))) → Puts n out (sent_by made i address said)
  put_unit least n answer out room is puts = rw is (rw (reply_all least (length before) (made address (unit_of i answer)) room) at puts)
