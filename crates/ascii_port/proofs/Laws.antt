-- A call on bytes of Modbus ASCII, case by case. Assumes nothing.
use Rattle.std.proofs.Common.{Option, Some, None}
use mathlib.Core.Path.{◌≡◌, refl, ap, ◌∙◌}
use mathlib.Core.Bool.{true, false, not}
use mathlib.Core.List.{List}
use Prim.Native.Nat.{ℕ, ◌≤◌, ◌<◌}
use native.Mathlib.Omega.{arith}
use lib.ListN.{length, take, drop, length-append}
use Rattle.base.specs.Buffers.{front, ascii_least}
use Rattle.base.proofs.Sets.{take_front}
use Rattle.identity.specs.Identity.{Identity}
use Rattle.pending.specs.Scanning.{scan_from, scan_in}
use Rattle.ascii_scan.specs.Scan.{feeding}
use Rattle.pending.specs.declared.Scanned.{Scanned}
use Rattle.pending.specs.Held.{held}
use Rattle.ascii.specs.Ascii.{bytes_in, address_among, unit_among}
use Rattle.ascii.proofs.Replies as Replies
use Rattle.port.specs.Port.{Numbers}
use Rattle.drive.specs.Plant.{Plant}
use Rattle.modbus_service.specs.Reply.{exchanged_in, exchanged}
use Rattle.modbus_service.specs.declared.Exchange.{Exchange}
use Rattle.card.specs.State.{card_of}
use Rattle.card.specs.declared.state.Card.{Card}
use Rattle.card.specs.declared.outcome.Outcome.TheVariants as Outcomes
use Rattle.turn.specs.Turn.{Received, turn_of, port_after}
use Rattle.turn.specs.Turned.{turn_in, short_in, waiting_in}
use Rattle.turn.specs.Stream.{taken}
use Rattle.turn.specs.declared.Turn.{Turn}
use Rattle.turn.specs.declared.Turned.{Turned}
use Rattle.turn.proofs.Laws as Calls
use Rattle.turn.proofs.Laws.{after_in, streamed_used, streamed_uses, streamed_short}
use Rattle.ascii_port.specs.Receive.{exchange_on, reply_text, answered_by, ascii_stream, ascii_received}
use Rattle.modbus.specs.declared.replies.Answer as Units

-- ---- a message's bytes are served: the plant and the port are `p'` and `q'` then, and the port `q''` after the message
module _ (held : List ℕ) (q q' q'' : Numbers) (p p' : Plant) (i : Identity) (scan : Scanned) (message unit : List ℕ) (address : ℕ) (e : Exchange)
    (from : address ≡ address_among message) (has : unit ≡ unit_among message) (serves : exchanged_in p' q' e ≡ exchanged p q address unit) where
  pub answers_turn : (n : ℕ) → q'' ≡ port_after e.answer q' → n ≡ length (reply_text i address e.reply)
      → turn_in held q'' p' i (record { pending = 0; outcome = Outcomes.Served e.answer; used = scan.used; len = n })
      ≡ turn_of (answered_by (card_of held scan.len q p i) (scan_in held scan) message)
  answers_turn n leaves count = rw (← has, ← from, ← serves, count, after_in i held scan.len q'' (exchanged_in p' q' e).served leaves)

  pub answers_lent : (out before : List ℕ) → out ≡ front (reply_text i address e.reply) before
      → out ≡ front (answered_by (card_of held scan.len q p i) (scan_in held scan) message).reply before
  answers_lent out before lent = rw (← has, ← from, ← serves) lent

-- ---- they are decoded from the text that is held
module _ (text : List ℕ) (n : ℕ) (m before : List ℕ) (count : n ≡ length (bytes_in text)) (lent : m ≡ front (bytes_in text) before) where
  pub within : n ≤ length m
  unfolding front
  within = omega (arith, count, ap length lent ∙ length-append (bytes_in text) (drop (length (bytes_in text)) before))

  pub decoded : take n m ≡ bytes_in text
  decoded = rw (count, lent) (take_front (bytes_in text) before)

-- a message is taken
module _ (array : List ℕ) (q : Numbers) (p : Plant) (i : Identity) (scan : Scanned) (message : List ℕ) (e : message ≡ bytes_in (take scan.len array)) where
  pub takes_turn : (r : Turn) → r ≡ turn_of (answered_by (card_of array scan.len q p i) (scan_in array scan) message)
      → r ≡ turn_of (taken ascii_stream (card_of array scan.len q p i) (scan_in array scan))
  unfolding held
  takes_turn r d = rw (← e) d

  pub takes_lent : (out before : List ℕ) → out ≡ front (answered_by (card_of array scan.len q p i) (scan_in array scan) message).reply before
      → out ≡ front (taken ascii_stream (card_of array scan.len q p i) (scan_in array scan)).reply before
  unfolding held
  takes_lent out before d = rw (← e) d

-- ---- the whole call
module _ (array : List ℕ) (len : ℕ) (q : Numbers) (p : Plant) (i : Identity) (bytes before : List ℕ) where
  abbrev call : Received
  call = ascii_received (card_of array len q p i) bytes (length before)

  pub short_turn : (r : Turned) → length before < ascii_least → r ≡ short_in len → turn_in array q p i r ≡ turn_of call
  unfolding ascii_received
  short_turn r h e = (Calls.short ascii_stream array len q p i bytes before r h e).0

  pub short_lent : length before < ascii_least → before ≡ front call.reply before
  unfolding ascii_received
  short_lent h = (Calls.short ascii_stream array len q p i bytes before (short_in len) h refl).1

  -- what the scan leaves in the array
  module _ (left : List ℕ) (scan : Scanned) (h : ascii_least ≤ length before) (d : scan_in left scan ≡ scan_from feeding (record { bytes = array; len = len }) 0 bytes) where
    pub waits_turn : (r : Turned) → not scan.taken ≡ true → r ≡ waiting_in scan → turn_in left q p i r ≡ turn_of call
    unfolding ascii_received
    waits_turn r t e = (Calls.waits ascii_stream array len q p i bytes before left scan h d r t e).0

    pub waits_lent : not scan.taken ≡ true → before ≡ front call.reply before
    unfolding ascii_received
    waits_lent t = (Calls.waits ascii_stream array len q p i bytes before left scan h d (waiting_in scan) t refl).1

    module _ (t : not scan.taken ≡ false) where
      pub whole_turn : (r : Turn) → r ≡ turn_of (taken ascii_stream (card_of array len q p i) (scan_in left scan)) → r ≡ turn_of call
      unfolding ascii_received
      whole_turn r e = (Calls.takes ascii_stream array len q p i bytes before left scan h d r (front (taken ascii_stream (card_of array len q p i) (scan_in left scan)).reply before) t (e, refl)).0

      pub whole_lent : (out : List ℕ) → out ≡ front (taken ascii_stream (card_of array len q p i) (scan_in left scan)).reply before → out ≡ front call.reply before
      unfolding ascii_received
      whole_lent out e = (Calls.takes ascii_stream array len q p i bytes before left scan h d (turn_of (taken ascii_stream (card_of array len q p i) (scan_in left scan))) out t (refl, e)).1

-- ---- what a caller may count on: the bytes used are there, one at least is used, and a reply has 151 bytes at most
text_short : (i : Identity) (address : ℕ) (said : Option Units.Answer) → length (reply_text i address said) ≤ 151
text_short i address None = omega arith
text_short i address (Some answer) = Replies.ascii_short address i answer

module _ (c : Card) (bytes : List ℕ) (room : ℕ) where
  pub ascii_used : (ascii_received c bytes room).used ≤ length bytes
  unfolding ascii_received
  ascii_used = streamed_used ascii_stream c bytes room

  pub ascii_uses : ascii_least ≤ room → 0 < length bytes → 0 < (ascii_received c bytes room).used
  unfolding ascii_received
  ascii_uses = streamed_uses ascii_stream c bytes room

  pub ascii_short : length (ascii_received c bytes room).reply ≤ 151
  unfolding ascii_received
  ascii_short = streamed_short ascii_stream c bytes room 151 (λ scan. text_short c.identity (address_among (bytes_in (held scan.pending))) (exchange_on c (bytes_in (held scan.pending))).reply)
