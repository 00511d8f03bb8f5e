-- A stream call, case by case, for any protocol that comes as a stream. Assumes nothing.
use mathlib.Core.Path.{◌≡◌, refl, sym, ap}
use mathlib.Core.Bool.{Bool, true, false, not}
use mathlib.Core.List.{List, []}
use Prim.Native.Nat.{ℕ, ◌≤◌, ◌<◌}
use native.Mathlib.Omega.{arith}
use borrow.Author.Tests.{lt-ltb, le-ltb, ltb-false, not-true, not-false}
use lib.Dec.{ltb}
use lib.ListN.{length}
use Rattle.base.specs.Buffers.{front}
use Rattle.base.proofs.Sets.{front_none}
use Rattle.base.proofs.Tests.{pick_both}
use Rattle.pending.specs.Held.{emptied}
use Rattle.pending.specs.Scanning.{Scan, scan_from, scan_in}
use Rattle.pending.specs.declared.Scanned.{Scanned}
use Rattle.pending.proofs.Scans.{scan_used, scan_uses}
use Rattle.identity.specs.Identity.{Identity}
use Rattle.port.specs.Port.{Numbers}
use Rattle.drive.specs.Plant.{Plant}
use Rattle.service.specs.Serving.{Served}
use Rattle.card.specs.State.{card_of}
use Rattle.card.specs.declared.state.Card.{Card}
use Rattle.turn.specs.Turn.{Received, turn_of, too_short, waiting, port_after, card_after}
use Rattle.turn.specs.Turned.{turn_in, short_in, waiting_in}
use Rattle.turn.specs.Stream.{Stream, taken, streamed}
use Rattle.turn.specs.declared.Turn.{Turn}
use Rattle.turn.specs.declared.Turned.{Turned}

-- what a call hands back, and the reply buffer after it, are those of r
abbrev pub Does : Turn → List ℕ → Received → List ℕ → Type 0
Does turn out r before = (turn ≡ turn_of r) × (out ≡ front r.reply before)

-- a call without a reply leaves the buffer as it is
pub silent : (turn : Turn) (r : Received) (before : List ℕ) → r.reply ≡ [] → turn ≡ turn_of r → Does turn before r before
silent turn r before n e = (e, rw n (sym (front_none before)))

-- ---- a card whose parts are lent: each kind of turn is the one of the whole card
module _ (S : Stream) (held : List ℕ) (len : ℕ) (q : Numbers) (p : Plant) (i : Identity) (bytes before : List ℕ) where
  abbrev call : Received
  call = streamed S (card_of held len q p i) bytes (length before)

  -- "A reply buffer under .. is 10, with no byte used"
  pub short : (r : Turned) → length before < S.least → r ≡ short_in len → Does (turn_in held q p i r) before call before
  short r h e = simp (lt-ltb (length before) S.least h) (silent (turn_in held q p i r) (too_short (card_of held len q p i)) before refl (ap (turn_in held q p i) e))

  -- what the scan leaves in the array
  module _ (left : List ℕ) (scan : Scanned) (h : S.least ≤ length before)
      (d : scan_in left scan ≡ scan_from S.feeding (record { bytes = held; len = len }) 0 bytes) where
    pub waits : (r : Turned) → not scan.taken ≡ true → r ≡ waiting_in scan → Does (turn_in left q p i r) before call before
    unfolding waiting
    waits r t e =
        simp (le-ltb (length before) S.least h, ← d, not-true scan.taken t)
        (silent (turn_in left q p i r) (waiting (card_of held len q p i) (scan_in left scan)) before refl (ap (turn_in left q p i) e))

    pub takes : (r : Turn) (out : List ℕ) → not scan.taken ≡ false → Does r out (taken S (card_of held len q p i) (scan_in left scan)) before → Does r out call before
    takes r out t e = simp (le-ltb (length before) S.least h, ← d, not-false scan.taken t) e

-- a message was served: the parts of the card then, with nothing pending, are the card then
pub after_in : (i : Identity) (held : List ℕ) (n : ℕ) (q : Numbers) (s : Served) → q ≡ port_after s.answer s.port → card_of held 0 q s.plant i ≡ card_after i (record { bytes = held; len = n }) s
unfolding card_after emptied
after_in i held n q s e = rw e

-- ---- the bytes used
module _ (S : Stream) (c : Card) (bytes : List ℕ) (room : ℕ) where
  -- "up to the end of the first message taken, or all": so many as the scan passed, whether it took a message or not
  pub streamed_ends : S.least ≤ room → (streamed S c bytes room).used ≡ (scan_from S.feeding c.port.pending 0 bytes).used
  unfolding waiting
  streamed_ends h =
      let scan : Scan = scan_from S.feeding c.port.pending 0 bytes in
      simp (le-ltb room S.least h) (pick_both (λ (r : Received). r.used ≡ scan.used) scan.taken (λ k. refl) (λ k. refl))

  -- none that is not there, and one at least where there is one and the buffer is no shorter than the least
  pub streamed_used : (streamed S c bytes room).used ≤ length bytes
  streamed_used = go (ltb room S.least) refl
    where
      go : (t : Bool) → ltb room S.least ≡ t → (streamed S c bytes room).used ≤ length bytes
      go true e = simp e (omega arith)
      go false e = omega (arith, streamed_ends (ltb-false room S.least e), (scan_used S.feeding bytes c.port.pending 0).1)

  pub streamed_uses : S.least ≤ room → 0 < length bytes → 0 < (streamed S c bytes room).used
  streamed_uses h l = omega (arith, streamed_ends h, scan_uses S.feeding bytes c.port.pending 0 l)

  -- a reply is no longer than the protocol's are
  pub streamed_short : (most : ℕ) → ((scan : Scan) → length (S.reply c scan.pending) ≤ most) → length (streamed S c bytes room).reply ≤ most
  unfolding waiting
  streamed_short most all =
      pick_both (λ (r : Received). length r.reply ≤ most) (ltb room S.least) (λ e. omega arith)
      (λ e. pick_both (λ (r : Received). length r.reply ≤ most) (scan_from S.feeding c.port.pending 0 bytes).taken (λ k. all (scan_from S.feeding c.port.pending 0 bytes)) (λ k. omega arith))
