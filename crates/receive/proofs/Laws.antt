-- A call by the port's protocol, and what a caller may count on. Assumes nothing.
use mathlib.Core.Path.{◌≡◌, subst}
use mathlib.Core.Bool.{Bool, true, false}
use mathlib.Core.List.{List}
use Prim.Native.Nat.{ℕ, ◌≤◌, ◌<◌}
use native.Mathlib.Omega.{arith}
use borrow.Author.Tests.{ne_eqb}
use lib.Dec.{eqb}
use lib.ListN.{length}
use Rattle.base.specs.Choice.{pick}
use Rattle.base.specs.Buffers.{nfo_least, rtu_least, ascii_least, reply_least}
use Rattle.base.proofs.Tests.{pick_both}
use Rattle.card.specs.State.{protocol_of}
use Rattle.card.specs.declared.state.Card.{Card}
use Rattle.turn.specs.Turn.{Received}
use Rattle.turn.specs.declared.Turn.{Turn}
use Rattle.turn.proofs.Laws.{Does}
use Rattle.nfo_port.specs.Receive.{nfo_received}
use Rattle.nfo_port.proofs.Laws.{nfo_used, nfo_uses, nfo_short}
use Rattle.rtu_port.specs.Receive.{rtu_received}
use Rattle.rtu_port.proofs.Laws.{rtu_used, rtu_uses, rtu_short}
use Rattle.ascii_port.specs.Receive.{ascii_received}
use Rattle.ascii_port.proofs.Laws.{ascii_used, ascii_uses, ascii_short}
use Rattle.receive.specs.Receive.{received}
use Rattle.receive.specs.Calls.{LongEnough}

module _ (c : Card) (bytes : List ℕ) (room : ℕ) where
  -- ---- by the number in the port
  pub by_rtu : protocol_of c ≡ 1 → received c bytes room ≡ rtu_received c bytes room
  unfolding received
  by_rtu p = rw p

  pub by_ascii : protocol_of c ≡ 2 → received c bytes room ≡ ascii_received c bytes room
  unfolding received
  by_ascii p = rw p

  pub by_nfo : (protocol_of c ≡ 1 → ⊥) → (protocol_of c ≡ 2 → ⊥) → received c bytes room ≡ nfo_received c bytes room
  unfolding received
  by_nfo p q = simp (ne_eqb _ _ p, ne_eqb _ _ q)

  -- what holds of each protocol's call
  of_each : (Q : Received → Type 0) → Q (rtu_received c bytes room) → Q (ascii_received c bytes room) → Q (nfo_received c bytes room) → Q (received c bytes room)
  unfolding received
  of_each Q r a n = pick_both Q (eqb (protocol_of c) 1) (λ e. r) (λ e. pick_both Q (eqb (protocol_of c) 2) (λ e. a) (λ e. n))

  -- ---- the bytes used are there, one at least is used where there is one and the buffer is long enough, and a reply has no more bytes than the least buffer
  pub received_used : (received c bytes room).used ≤ length bytes
  received_used = of_each (λ (r : Received). r.used ≤ length bytes) (rtu_used c bytes room) (ascii_used c bytes room) (nfo_used c bytes room)

  pub received_uses : reply_least (protocol_of c) ≤ room → 0 < length bytes → 0 < (received c bytes room).used
  unfolding received reply_least
  received_uses h l = go (eqb (protocol_of c) 1) (eqb (protocol_of c) 2) h
    where
      go : (t s : Bool) → pick t rtu_least (pick s ascii_least nfo_least) ≤ room
          → 0 < (pick t (rtu_received c bytes room) (pick s (ascii_received c bytes room) (nfo_received c bytes room))).used
      go true s k = rtu_uses c bytes room k l
      go false true k = ascii_uses c bytes room k l
      go false false k = nfo_uses c bytes room k l

  pub received_most : length (received c bytes room).reply ≤ 151
  received_most =
      of_each (λ (r : Received). length r.reply ≤ 151) (omega (arith, rtu_short c bytes room)) (ascii_short c bytes room) (omega (arith, nfo_short c bytes room))

  pub received_short : length (received c bytes room).reply ≤ reply_least (protocol_of c)
  unfolding received reply_least
  received_short = go (eqb (protocol_of c) 1) (eqb (protocol_of c) 2)
    where
      go : (t s : Bool) → length (pick t (rtu_received c bytes room) (pick s (ascii_received c bytes room) (nfo_received c bytes room))).reply ≤ pick t rtu_least (pick s ascii_least nfo_least)
      go true s = omega (arith, rtu_short c bytes room)
      go false true = omega (arith, ascii_short c bytes room)
      go false false = omega (arith, nfo_short c bytes room)

-- a buffer that is long enough has its protocol's least
enough : (n : ℕ) (c : Card) (room : ℕ) → protocol_of c ≡ n → LongEnough c room → reply_least n ≤ room
enough n c room p h = subst (λ (k : ℕ). reply_least k ≤ room) p h

pub enough_nfo : (c : Card) (room : ℕ) → protocol_of c ≡ 0 → LongEnough c room → nfo_least ≤ room
unfolding reply_least
enough_nfo = enough 0

pub enough_rtu : (c : Card) (room : ℕ) → protocol_of c ≡ 1 → LongEnough c room → rtu_least ≤ room
unfolding reply_least
enough_rtu = enough 1

pub enough_ascii : (c : Card) (room : ℕ) → protocol_of c ≡ 2 → LongEnough c room → ascii_least ≤ room
unfolding reply_least
enough_ascii = enough 2

-- no protocol's least buffer is longer than that of Modbus ASCII
pub least_most : (protocol : ℕ) → reply_least protocol ≤ ascii_least
unfolding reply_least
least_most protocol =
    pick_both (λ (n : ℕ). n ≤ ascii_least) (eqb protocol 1) (λ _. omega arith) (λ _. pick_both (λ (n : ℕ). n ≤ ascii_least) (eqb protocol 2) (λ _. omega arith) (λ _. omega arith))

-- the call of a protocol is the call
pub does : (r : Turn) (out before : List ℕ) (k l : Received) → k ≡ l → Does r out l before → Does r out k before
does r out before k l e d = rw e d
