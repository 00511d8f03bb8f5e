-- A call on bytes of NFO serial: how long a reply is, and what a caller may count on. Assumes nothing.
use mathlib.Core.Path.{◌≡◌}
use mathlib.Core.List.{List}
use Prim.Native.Nat.{ℕ, ◌%◌, ◌≤◌, ◌<◌}
use native.Mathlib.Omega.{arith}
use lib.Dec.{eqb}
use lib.ListN.{length}
use Rattle.base.specs.Buffers.{front, nfo_least}
use Rattle.base.proofs.Tests.{pick_both}
use Rattle.identity.specs.Identity.{Identity}
use Rattle.nfo_parts.specs.declared.message.Message.{Message}
use Rattle.nfo_parts.specs.Replies.{ack_of, nak_of}
use Rattle.nfo_parts.proofs.Written.{reply_length}
use Rattle.nfo_service.specs.Reply.{adr_in, parameter_in, e_number_in, replied_by, replied}
use Rattle.answers.specs.declared.Answer.{Answer}
use Rattle.answers.specs.declared.Answer.TheVariants.{Told, Written, Identified, NotOurs, Refused}
use Rattle.card.specs.declared.state.Card.{Card}
use Rattle.turn.specs.Turn.{Received, turn_of}
use Rattle.turn.specs.declared.Turn.{Turn}
use Rattle.turn.proofs.Laws.{Does, streamed_used, streamed_uses, streamed_short}
use Rattle.nfo_port.specs.Receive.{nfo_stream, nfo_received}

-- ---- a reply has 14 bytes at most
by_short : (adr e : ℕ) (a : Answer) → length (replied_by adr e a) ≤ 14
unfolding replied_by ack_of nak_of
by_short adr e (Told row word) = omega (arith, reply_length adr e (word % 65536))
by_short adr e (Written change) = omega arith
by_short adr e (Identified part) = omega arith
by_short adr e NotOurs = omega arith
by_short adr e (Refused refusal) = omega arith

pub reply_short : (m : Message) (a : Answer) → length (replied m a) ≤ 14
unfolding replied
reply_short m a = pick_both (λ (b : List ℕ). length b ≤ 14) (eqb (adr_in m) 0x7F) (λ _. omega arith) (λ _. by_short (adr_in m) (e_number_in (parameter_in m)) a)

-- ---- whatever the identity is: a call's two promises, together
module _ (turn : Identity → Turn) (r : Identity → Received) (out before : List ℕ) where
  abbrev Apart : Type 0
  Apart = ((i : Identity) → turn i ≡ turn_of (r i)) × ((i : Identity) → out ≡ front (r i).reply before)

  pub together : Apart → (i : Identity) → Does (turn i) out (r i) before
  together d i = (d.0 i, d.1 i)

-- ---- what a caller may count on: the bytes used are there, one at least is used, and a reply has 14 bytes at most
module _ (c : Card) (bytes : List ℕ) (room : ℕ) where
  pub nfo_used : (nfo_received c bytes room).used ≤ length bytes
  unfolding nfo_received
  nfo_used = streamed_used nfo_stream c bytes room

  pub nfo_uses : nfo_least ≤ room → 0 < length bytes → 0 < (nfo_received c bytes room).used
  unfolding nfo_received
  nfo_uses = streamed_uses nfo_stream c bytes room

  pub nfo_short : length (nfo_received c bytes room).reply ≤ 14
  unfolding nfo_received
  nfo_short = streamed_short nfo_stream c bytes room 14 (λ scan. reply_short _ _)
