-- A call on a frame of Modbus RTU, case by case. Assumes nothing.
use Rattle.std.proofs.Common.{Option, Some, None}
use mathlib.Core.Path.{◌≡◌}
use mathlib.Core.Bool.{Bool, true, false}
use mathlib.Core.List.{List}
use Prim.Native.Nat.{ℕ, ◌≤◌, ◌<◌}
use native.Mathlib.Omega.{arith}
use borrow.Author.Tests.{lt-ltb, le-ltb}
use lib.Dec.{ltb}
use lib.ListN.{length}
use Rattle.base.specs.Buffers.{front, rtu_least}
use Rattle.base.proofs.Sets.{front_none}
use Rattle.base.proofs.Tests.{pick_both}
use Rattle.identity.specs.Identity.{Identity}
use Rattle.modbus.specs.Answer.{unit_of}
use Rattle.modbus.proofs.Units.{unit_short}
use Rattle.rtu.specs.Rtu.{frame_holds, address_in, unit_in}
use Rattle.rtu.proofs.Replies.{rtu_length}
use Rattle.pending.specs.Held.{emptied}
use Rattle.port.specs.Port.{Numbers}
use Rattle.drive.specs.Plant.{Plant}
use Rattle.modbus_service.specs.Reply.{exchanged_in, exchanged}
use Rattle.modbus_service.specs.declared.Exchange.{Exchange}
use Rattle.card.specs.State.{card_of}
use Rattle.card.specs.declared.state.Card.{Card}
use Rattle.card.specs.declared.outcome.Outcome.TheVariants as Outcomes
use Rattle.turn.specs.Turn.{Received, turn_of, port_after, card_after}
use Rattle.turn.specs.Turned.{turn_in, short_in}
use Rattle.turn.specs.declared.Turn.{Turn}
use Rattle.turn.specs.declared.Turned.{Turned}
use Rattle.turn.proofs.Laws.{after_in}
use Rattle.rtu_port.specs.Receive.{exchange_on, frame_of, spoilt_in, taken, rtu_received}
use Rattle.modbus.specs.declared.replies.Answer as Units

-- ---- a frame is taken: the plant and the port are `p'` and `q'` once it is served, and the port `q''` then
module _ (held : List ℕ) (q q' q'' : Numbers) (p p' : Plant) (i : Identity) (frame unit : List ℕ) (address : ℕ) (e : Exchange)
    (from : address ≡ address_in frame) (has : unit ≡ unit_in frame) (serves : exchanged_in p' q' e ≡ exchanged p q address unit) where
  pub takes_turn : (n : ℕ) → q'' ≡ port_after e.answer q' → n ≡ length (frame_of i address e.reply)
      → turn_in held q'' p' i (record { pending = 0; outcome = Outcomes.Served e.answer; used = length frame; len = n }) ≡ turn_of (taken (card_of held 0 q p i) frame)
  takes_turn n leaves count = rw (← has, ← from, ← serves, count, after_in i held 0 q'' (exchanged_in p' q' e).served leaves)

  pub takes_lent : (out before : List ℕ) → out ≡ front (frame_of i address e.reply) before → out ≡ front (taken (card_of held 0 q p i) frame).reply before
  takes_lent out before lent = rw (← has, ← from, ← serves) lent

-- ---- the whole call
module _ (held : List ℕ) (len : ℕ) (q : Numbers) (p : Plant) (i : Identity) (frame before : List ℕ) where
  abbrev call : Received
  call = rtu_received (card_of held len q p i) frame (length before)

  module _ (short : length before < rtu_least) where
    pub short_turn : (r : Turned) → r ≡ short_in len → turn_in held q p i r ≡ turn_of call
    unfolding rtu_received
    short_turn r e = simp (lt-ltb (length before) rtu_least short, e)

    pub short_lent : before ≡ front call.reply before
    unfolding rtu_received
    short_lent = simp (lt-ltb (length before) rtu_least short, front_none)

  module _ (holds : Bool) (h : rtu_least ≤ length before) (d : holds ≡ frame_holds frame) where
    module _ (t : holds ≡ false) where
      pub spoils_turn : (r : Turned) → r ≡ spoilt_in len (length frame) → turn_in held q p i r ≡ turn_of call
      unfolding rtu_received
      spoils_turn r e = simp (le-ltb (length before) rtu_least h, ← d, t, e)

      pub spoils_lent : before ≡ front call.reply before
      unfolding rtu_received
      spoils_lent = simp (le-ltb (length before) rtu_least h, ← d, t, front_none)

    -- what was pending does not matter to a frame that is taken
    module _ (t : holds ≡ true) where
      pub holds_turn : (r : Turn) → r ≡ turn_of (taken (card_of held 0 q p i) frame) → r ≡ turn_of call
      unfolding rtu_received card_after emptied
      holds_turn r e = simp (le-ltb (length before) rtu_least h, ← d, t) e

      pub holds_lent : (out : List ℕ) → out ≡ front (taken (card_of held 0 q p i) frame).reply before → out ≡ front call.reply before
      unfolding rtu_received card_after emptied
      holds_lent out e = simp (le-ltb (length before) rtu_least h, ← d, t) e

-- ---- what a caller may count on: the bytes used are there, one at least is used, and a reply has 75 bytes at most
frame_short : (i : Identity) (address : ℕ) (said : Option Units.Answer) → length (frame_of i address said) ≤ 75
frame_short i address None = omega arith
frame_short i address (Some answer) = omega (arith, rtu_length address (unit_of i answer), unit_short i answer)

module _ (c : Card) (frame : List ℕ) (room : ℕ) where
  pub rtu_used : (rtu_received c frame room).used ≤ length frame
  unfolding rtu_received
  rtu_used =
      pick_both (λ (r : Received). r.used ≤ length frame) (ltb room rtu_least) (λ e. omega arith)
      (λ e. pick_both (λ (r : Received). r.used ≤ length frame) (frame_holds frame) (λ k. omega arith) (λ k. omega arith))

  pub rtu_uses : rtu_least ≤ room → 0 < length frame → 0 < (rtu_received c frame room).used
  unfolding rtu_received
  rtu_uses h l = simp (le-ltb room rtu_least h) (pick_both (λ (r : Received). 0 < r.used) (frame_holds frame) (λ k. l) (λ k. l))

  pub rtu_short : length (rtu_received c frame room).reply ≤ 75
  unfolding rtu_received
  rtu_short =
      pick_both (λ (r : Received). length r.reply ≤ 75) (ltb room rtu_least) (λ e. omega arith)
      (λ e. pick_both (λ (r : Received). length r.reply ≤ 75) (frame_holds frame) (λ k. frame_short c.identity (address_in frame) (exchange_on c frame).reply) (λ k. omega arith))
