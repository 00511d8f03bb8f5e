-- What comes of a stream, byte by byte, for any protocol that comes as one: it does not depend on the calls. Assumes nothing.
use mathlib.Core.Path.{◌≡◌, refl, sym, ap, ◌∙◌}
use mathlib.Core.Bool.{Bool, true, false}
use mathlib.Core.List.{List, [], ◌∷◌, ◌++◌}
use Prim.Native.Nat.{ℕ, suc, ◌+◌, ◌≤◌}
use native.Mathlib.Omega.{arith}
use borrow.Author.Tests.{le-ltb}
use lib.ListN.{drop}
use Rattle.base.specs.Choice.{pick}
use Rattle.base.proofs.Tests.{pick_both}
use Rattle.pending.specs.declared.Pending.{Pending}
use Rattle.pending.specs.Scanning.{Scan, scan_from}
use Rattle.pending.proofs.Scans.{scan_after}
use Rattle.port.specs.Port.{protocol}
use Rattle.card.specs.declared.state.Card.{Card}
use Rattle.card.specs.State.{protocol_of, with_pending}
use Rattle.turn.specs.Turn.{Received, waiting, card_after, answered}
use Rattle.turn.specs.Stream.{Stream, by_scan, streamed}
use Rattle.receive.specs.Receive.{received}
use Rattle.demands.specs.Calls.{LongEnough, Wire, Course, Calls, over, call, Speaks, adding, ended}
use Rattle.demands.proofs.Serving.{after_speaks}

module _ (S : Stream) where
  -- what the card makes of the message that q holds
  abbrev pub one : Card → Pending → Received
  one c q = answered c.identity q 0 (S.served c q) (S.reply c q)

  -- one byte after the other
  unfoldable pub course : Card → List ℕ → Course
  course c [] = ended c
  course c (b ∷ s) =
      pick (S.feeding.ends c.port.pending b)
      (adding (one c (S.feeding.next c.port.pending b)) (course (one c (S.feeding.next c.port.pending b)).card s))
      (course (with_pending (S.feeding.next c.port.pending b) c) s)

  -- a call, with a buffer that is not too short
  abbrev pub scan_of : Card → List ℕ → Received
  scan_of c x = by_scan S c (scan_from S.feeding c.port.pending 0 x)

  module _ (same : (c : Card) (q r : Pending) → (S.served (with_pending q c) r ≡ S.served c r) × (S.reply (with_pending q c) r ≡ S.reply c r)) where
    -- a scan is the same from a card that has other bytes pending
    scan_same : (c : Card) (q : Pending) (scan : Scan) → by_scan S (with_pending q c) scan ≡ by_scan S c scan
    unfolding waiting card_after
    scan_same c q scan =
        let e = same c q scan.pending in
        pick_same _ _ _ scan.taken (rw (e.0, e.1))
      where
        pick_same : (x y z : Received) (t : Bool) → x ≡ y → pick t x z ≡ pick t y z
        pick_same x y z true e = e
        pick_same x y z false e = refl

    -- a scan after one byte more
    later : (c : Card) (scan : Scan) (b : ℕ) (x y : List ℕ)
        → let r : Received = by_scan S c (record { pending = scan.pending; used = 1 + scan.used; taken = scan.taken }) in
        let l : Received = by_scan S c scan in
        adding r (course r.card (drop r.used (b ∷ x) ++ y)) ≡ adding l (course l.card (drop l.used x ++ y))
    unfolding waiting
    later c scan b x y = go scan.taken
      where
        more : 1 + scan.used ≡ suc scan.used
        more = omega arith

        after : (t : Bool) → Scan
        after t = record { pending = scan.pending; used = scan.used; taken = t }

        go : (t : Bool)
            → let r : Received = by_scan S c (record { pending = scan.pending; used = 1 + scan.used; taken = t }) in
            let l : Received = by_scan S c (after t) in
            adding r (course r.card (drop r.used (b ∷ x) ++ y)) ≡ adding l (course l.card (drop l.used x ++ y))
        go true = ap (λ (n : ℕ). adding (one c scan.pending) (course (one c scan.pending).card (drop n (b ∷ x) ++ y))) more
        go false = ap (λ (n : ℕ). adding (waiting c scan) (course (with_pending scan.pending c) (drop n (b ∷ x) ++ y))) more

    -- what a call on z handed back, and then the rest
    abbrev rest : List ℕ → Received → List ℕ → Course
    rest y r z = adding r (course r.card (drop r.used z ++ y))

    -- a call on x, and then the rest, is all
    pub course_call : (x y : List ℕ) (c : Card) → course c (x ++ y) ≡ adding (scan_of c x) (course (scan_of c x).card (drop (scan_of c x).used x ++ y))
    unfolding course scan_from waiting
    course_call [] y c = refl
    course_call (b ∷ x) y c = by (S.feeding.ends c.port.pending b) (course_call x y (with_pending q c))
      where
        q : Pending
        q = S.feeding.next c.port.pending b

        by : (t : Bool) → course (with_pending q c) (x ++ y) ≡ rest y (scan_of (with_pending q c) x) x
            → pick t (adding (one c q) (course (one c q).card (x ++ y))) (course (with_pending q c) (x ++ y))
            ≡ rest y (by_scan S c (pick t (record { pending = q; used = 1; taken = true }) (scan_from S.feeding q 1 x))) (b ∷ x)
        by true ih = refl
        by false ih =
            ih ∙ ap (λ (r : Received). rest y r x) (scan_same c q (scan_from S.feeding q 0 x)) ∙ sym (later c (scan_from S.feeding q 0 x) b x y)
            ∙ ap (λ (z : Scan). rest y (by_scan S c z) (b ∷ x)) (sym (scan_after S.feeding x q 1 0))

    -- ---- THE CALLS: whatever they are, what comes of the stream is its course
    module _ (P : Wire) (calls : (c : Card) (x : List ℕ) (room : ℕ) → Speaks P c → received c x room ≡ streamed S c x room)
        (enough : (c : Card) (room : ℕ) → Speaks P c → LongEnough c room → S.least ≤ room) (speaks : (c : Card) (q : Pending) → protocol (S.served c q).port ≡ protocol_of c) where
      called : (c : Card) (x : List ℕ) (room : ℕ) → Speaks P c → LongEnough c room → received c x room ≡ scan_of c x
      called c x room p h = calls c x room p ∙ simp (le-ltb room S.least (enough c room p h))

      -- a call leaves the port's protocol as it is
      keeps : (c : Card) (scan : Scan) → protocol_of (by_scan S c scan).card ≡ protocol_of c
      unfolding waiting card_after
      keeps c scan =
          let s = S.served c scan.pending in
          pick_both (λ (r : Received). protocol_of r.card ≡ protocol_of c) scan.taken (λ e. after_speaks s.answer s.port ∙ speaks c scan.pending) (λ e. refl)

      still : (c : Card) (x : List ℕ) (room : ℕ) → Speaks P c → LongEnough c room → Speaks P (received c x room).card
      still c x room p h = ap (λ (r : Received). protocol_of r.card) (called c x room p h) ∙ keeps c (scan_from S.feeding c.port.pending 0 x) ∙ p

      pub calls_course : {c : Card} {s : List ℕ} {k : Course} → Speaks P c → Calls c s k → k ≡ course c s
      unfolding course
      calls_course p over = refl
      calls_course {c} p (call x y room h r) =
          ap (adding (received c x room)) (calls_course (still c x room p h) r) ∙ ap (λ (z : Received). rest y z x) (called c x room p h) ∙ sym (course_call x y c)
