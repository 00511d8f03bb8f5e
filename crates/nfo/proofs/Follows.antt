-- THE SCAN IS THE STREAM CALL: its feeding follows the format, so where a beginning is pending it does document 01's stream call.
-- Assumes nothing.
use mathlib.Core.Path.{◌≡◌, refl, sym, ap, subst, ◌∙◌}
use mathlib.Core.Logic.{⊎_elim}
use mathlib.Core.Bool.{Bool, true, false, true≢false, false≢true}
use mathlib.Core.List.{List, [], ◌∷◌, ◌++◌}
use Prim.Native.Nat.{ℕ, ◌<◌}
use native.Mathlib.Omega.{arith}
use borrow.Author.Tests.{ltb-true}
use lib.Dec.{eqb, ltb}
use lib.ListN.{length, get_or, take, drop, take-append-drop}
use Rattle.base.specs.Choice.{pick}
use Rattle.base.proofs.Tests.{either_out, both_true, either_same, pick_both}
use Rattle.stream.specs.Automaton.{turn, feed}
use Rattle.stream.specs.Scanned.{scanned}
use Rattle.stream.proofs.Scanned.{further_none}
use Rattle.pending.specs.declared.Pending.{Pending}
use Rattle.pending.specs.Held.{held, Sized, emptied, began_with}
use Rattle.pending.specs.Scanning.{scan_from, seen_in, Follows}
use Rattle.pending.proofs.Laws.{sized_emptied, sized_pushed, sized_began_with, held_emptied, held_pushed, held_began_with, held_length, held_at}
use Rattle.pending.proofs.Scans.{scan_follows}
use Rattle.nfo.specs.Shape.{part}
use Rattle.nfo.specs.Message.{enquiry, select, bcc_in, formed, viable, nfo}
use Rattle.nfo.specs.Scan.{step_in, step_of, again, ends_by, next_by, step_after, ends, fed, feeding}
use Rattle.nfo.specs.declared.scanning.Step.{Step}
use Rattle.nfo.specs.declared.scanning.Step.TheVariants.{Keeps, Ends, Checks, Spoils}
use Rattle.nfo.proofs.Shape.{part_length}
use Rattle.nfo.proofs.Narrow.{bcc_body}
use Rattle.nfo.proofs.Lawful.{nfo_lawful}
use Rattle.nfo.proofs.Beginning.{Does, does_keep, does_end, does_check, does_spoil, step_does}

-- ---- what is pending, in the array
-- a beginning is short
pub viable_length : (s : List ℕ) → viable s ≡ true → length s < 15
unfolding viable enquiry select
viable_length s v = ⊎_elim (λ h. omega (arith, part_length enquiry s h)) (λ h. part_length select s h) (either_out (part enquiry s) (part select s) v)

same_third : (x : Bool) (t u b : ℕ) → (x ≡ true → t ≡ u) → pick x t b ≡ pick x u b
same_third true t u b h = h refl
same_third false t u b h = refl

module _ (p : Pending) (size : Sized p) (v : viable (held p) ≡ true) where
  len : length (held p) ≡ p.len
  len = held_length p size (omega (arith, viable_length (held p) v))

  room : p.len < 512
  room = omega (arith, len, viable_length (held p) v)

  -- the step by the array is the step by the bytes pending
  step_held : (b : ℕ) → step_after p b ≡ step_of (length (held p)) (get_or (held p) 2 0) b
  unfolding step_of
  step_held b =
      rw len (ap (λ (y : ℕ). pick (eqb y 0x02) (step_in select Checks p.len b) (step_in enquiry Ends p.len b))
      (same_third (ltb 2 p.len) (get_or p.bytes 2 0) (get_or (held p) 2 0) b (λ e. sym (held_at p 2 (ltb-true 2 p.len e)))))

  bcc_held : length (held p) ≡ 14 → bcc_in p.bytes ≡ bcc_in (held p)
  unfolding held
  bcc_held l = ap bcc_in (sym (take-append-drop p.len p.bytes)) ∙ bcc_body (take p.len p.bytes) (drop p.len p.bytes) l

  held_does : (b : ℕ) → Does (held p) b (step_after p b)
  held_does b = subst (Does (held p) b) (sym (step_held b)) (step_does (held p) b v)

-- ---- one byte, by what it does
-- a byte alone is a beginning if it is 04
viable_start : (b : ℕ) → viable (b ∷ []) ≡ eqb b 0x04
unfolding viable part enquiry select
viable_start b = rw both_true (either_same (eqb b 0x04))

held_again : (p : Pending) (s : List ℕ) (b : ℕ) → Sized p → held (again p b) ≡ (turn false false (viable (b ∷ [])) 0 s b).pending
unfolding again
held_again p s b size = rw (viable_start b) (go (eqb b 0x04))
  where
    go : (t : Bool) → held (pick t (began_with p b) (emptied p)) ≡ (turn false false t 0 s b).pending
    go true = held_began_with p b size
    go false = held_emptied p

module _ (p : Pending) (b : ℕ) (size : Sized p) (room : p.len < 512) (right : Bool) where
  ends_formed : (t : Step) → Does (held p) b t → (length (held p) ≡ 14 → right ≡ eqb b (bcc_in (held p))) → ends_by t right ≡ formed (held p ++ b ∷ [])
  ends_formed Keeps (does_keep w v) r = sym w
  ends_formed Ends (does_end w) r = sym w
  ends_formed Checks (does_check l w v) r = r l ∙ sym w
  ends_formed Spoils (does_spoil w v) r = sym w

  next_message : (t : Step) → ends_by t right ≡ true → held (next_by t right p b) ≡ held p ++ b ∷ []
  next_message Keeps e = absurd (false≢true e)
  next_message Ends e = held_pushed p b size room
  next_message Checks e = rw e (held_pushed p b size room)
  next_message Spoils e = absurd (false≢true e)

  next_waits : (t : Step) → Does (held p) b t → formed (held p ++ b ∷ []) ≡ false → ends_by t right ≡ false → held (next_by t right p b) ≡ (feed nfo 0 (held p) b).pending
  unfolding feed
  next_waits Keeps (does_keep w v) f e = rw (f, v) (held_pushed p b size room)
  next_waits Ends (does_end w) f e = absurd (true≢false e)
  next_waits Checks (does_check l w v) f e = rw (e, f, v) (held_again p (held p) b size)
  next_waits Spoils (does_spoil w v) f e = rw (f, v) (held_again p (held p) b size)

-- ---- the feeding follows the format
again_sized : (p : Pending) (b : ℕ) → Sized p → Sized (again p b)
unfolding again
again_sized p b h = pick_both Sized (eqb b 0x04) (λ e. sized_began_with p b h) (λ e. sized_emptied p h)

next_sized : (p : Pending) (b : ℕ) (right : Bool) → Sized p → (t : Step) → Sized (next_by t right p b)
next_sized p b right h Keeps = sized_pushed p b h
next_sized p b right h Ends = sized_pushed p b h
next_sized p b right h Checks = pick_both Sized right (λ e. sized_pushed p b h) (λ e. again_sized p b h)
next_sized p b right h Spoils = again_sized p b h

fed_sized : (p : Pending) (b : ℕ) → Sized p → Sized (fed p b)
unfolding fed
fed_sized p b h = next_sized p b (eqb b (bcc_in p.bytes)) h (step_after p b)

module _ (p : Pending) (b : ℕ) (size : Sized p) (v : viable (held p) ≡ true) where
  fed_formed : ends p b ≡ formed (held p ++ b ∷ [])
  unfolding ends
  fed_formed = ends_formed p b size (room p size v) (eqb b (bcc_in p.bytes)) (step_after p b) (held_does p size v b) (λ l. ap (eqb b) (bcc_held p size v l))

  fed_message : ends p b ≡ true → held (fed p b) ≡ held p ++ b ∷ []
  unfolding ends fed
  fed_message e = next_message p b size (room p size v) (eqb b (bcc_in p.bytes)) (step_after p b) e

  fed_waits : ends p b ≡ false → held (fed p b) ≡ (feed nfo 0 (held p) b).pending
  unfolding ends fed
  fed_waits e = next_waits p b size (room p size v) (eqb b (bcc_in p.bytes)) (step_after p b) (held_does p size v b) (sym fed_formed ∙ e) e

pub nfo_follows : Follows nfo feeding
nfo_follows = record { sized = fed_sized; formed = fed_formed; message = fed_message; waits = fed_waits }

-- THE SCAN of the bytes s is document 01's stream call on them, where a beginning is pending: the bytes used, the message, the bytes pending
pub scan_is : (p : Pending) (s : List ℕ) → Sized p → viable (held p) ≡ true → seen_in feeding (scan_from feeding p 0 s) ≡ scanned nfo (held p) s
scan_is p s size v = scan_follows nfo nfo_lawful feeding nfo_follows s p 0 size v ∙ further_none (scanned nfo (held p) s)
