-- A stream call: "uses bytes up to the end of the first message taken, or all; it tells how many, and the outcome". Assumes nothing.
use Rattle.std.specs.Prelude.{List, ℕ, ltb}
use Rattle.base.specs.Choice.{pick}
use Rattle.pending.specs.declared.Pending.{Pending}
use Rattle.pending.specs.Scanning.{Scan, Feeding, scan_from}
use Rattle.service.specs.Serving.{Served}
use Rattle.card.specs.declared.state.Card.{Card}
use Rattle.turn.specs.Turn.{Received, too_short, waiting, answered}

-- a protocol that comes as a stream: its least reply buffer, what a byte does to what is pending, and how the message that is held is served and answered
pub record Stream : Type 0 where
  pub least : ℕ
  pub feeding : Feeding
  pub served : Card → Pending → Served
  pub reply : Card → Pending → List ℕ

-- the first message is taken: it is held
abbrev pub taken : Stream → Card → Scan → Received
taken S c scan = answered c.identity scan.pending scan.used (S.served c scan.pending) (S.reply c scan.pending)

abbrev pub by_scan : Stream → Card → Scan → Received
by_scan S c scan = pick scan.taken (taken S c scan) (waiting c scan)

-- "Order: 10 first, in every reply call"
abbrev pub streamed : Stream → Card → List ℕ → ℕ → Received
streamed S c bytes room = pick (ltb room S.least) (too_short c) (by_scan S c (scan_from S.feeding c.port.pending 0 bytes))
