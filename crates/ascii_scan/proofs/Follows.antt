-- THE SCAN IS THE STREAM CALL: its feeding follows the format, so where a beginning is pending it does document 01's stream call.
-- Assumes nothing.
use Rattle.std.proofs.Common.{◌≡◌, ℕ, ◌<◌, Bool, true, false, eqb, List, [], ◌∷◌, ◌++◌, sym, refl, ◌∙◌, arith, length-append, eqb-true}
use borrow.Author.Tests.{eqb-false}
use Rattle.base.specs.Choice.{pick, both}
use Rattle.base.proofs.Tests.{both_out, both_false, pick_both}
use Rattle.stream.specs.Automaton.{turn, feed}
use Rattle.stream.specs.Scanned.{scanned}
use Rattle.stream.proofs.Scanned.{further_none}
use Rattle.hex_pairs.specs.Hex.{is_hex}
use Rattle.pending.specs.declared.Pending.{Pending}
use Rattle.pending.specs.Held.{held, Sized, emptied, pushed, began_with}
use Rattle.pending.specs.Scanning.{scan_from, seen_in, Follows}
use Rattle.pending.proofs.Laws.{sized_emptied, sized_pushed, sized_began_with, held_emptied, held_pushed, held_began_with}
use Rattle.pending.proofs.Scans.{scan_follows}
use Rattle.ascii.specs.Ascii.{bytes_in, formed, viable, ascii}
use Rattle.ascii.proofs.Lawful.{ascii_lawful}
use Rattle.ascii.proofs.Step.{ends_in_cr, still_begun, viable_length, ended_formed, ended_viable, begun_formed, first_viable}
use Rattle.ascii_scan.specs.Scan.{ended, digit_fits, goes_on, again, ends, fed, message_in, feeding}
use Rattle.ascii_scan.proofs.Summed.{cr_under}
use Rattle.ascii_scan.proofs.Beginning.{held_count, ended_held, goes_viable}

-- ---- the array keeps its length
again_sized : (p : Pending) (b : ℕ) → Sized p → Sized (again p b)
unfolding again
again_sized p b h = pick_both Sized (eqb b 0x3A) (λ e. sized_began_with p b h) (λ e. sized_emptied p h)

fed_sized : (p : Pending) (b : ℕ) → Sized p → Sized (fed p b)
unfolding fed
fed_sized p b h =
    pick_both Sized (ended p)
    (λ e. pick_both Sized (eqb b 0x0A) (λ q. h) (λ q. again_sized p b h))
    (λ e. pick_both Sized (goes_on p b) (λ q. sized_pushed p b h) (λ q. again_sized p b h))

-- ---- a byte that spoils what is pending
held_again : (p : Pending) (s : List ℕ) (b : ℕ) → Sized p → held (again p b) ≡ (turn false false (viable (b ∷ [])) 0 s b).pending
unfolding again
held_again p s b size = rw (first_viable b) (go (eqb b 0x3A))
  where
    go : (t : Bool) → held (pick t (began_with p b) (emptied p)) ≡ (turn false false t 0 s b).pending
    go true = held_began_with p b size
    go false = held_emptied p

-- behind nothing, a byte is looked at as a beginning of its own
none_goes : (p : Pending) (b : ℕ) → p.len ≡ 0 → goes_on p b ≡ false
unfolding goes_on digit_fits
none_goes p b e =
    pick_both (λ (t : Bool). t ≡ false) (is_hex b)
    (λ h. rw e)
    (λ h. rw (sym (cr_under p.len (bytes_in (held p)) (omega arith))) (both_false (eqb b 0x0D)))

held_none : (p : Pending) → p.len ≡ 0 → held p ≡ []
unfolding held
held_none p e = rw e

alone : (t : Bool) (b : ℕ) → (turn false false t 0 [] b).pending ≡ (turn false t t 0 [] b).pending
alone true b = refl
alone false b = refl

-- ---- the feeding follows the format
module _ (p : Pending) (b : ℕ) (size : Sized p) (v : viable (held p) ≡ true) where
  is_ended : ended p ≡ true → ends_in_cr (held p) ≡ true
  is_ended e = sym (ended_held p size) ∙ e

  is_open : ended p ≡ false → ends_in_cr (held p) ≡ false
  is_open e = sym (ended_held p size) ∙ e

  open_formed : ended p ≡ false → formed (held p ++ b ∷ []) ≡ false
  open_formed e = begun_formed (held p) b (still_begun (held p) v (is_open e))

  fed_formed : ends p b ≡ formed (held p ++ b ∷ [])
  unfolding ends
  fed_formed = go (ended p) refl
    where
      go : (t : Bool) → ended p ≡ t → both t (eqb b 0x0A) ≡ formed (held p ++ b ∷ [])
      go true e = sym (ended_formed (held p) b v (is_ended e))
      go false e = sym (open_formed e)

  fed_message : ends p b ≡ true → message_in (fed p b) ≡ held p ++ b ∷ []
  unfolding ends fed message_in
  fed_message e =
      let h = both_out (ended p) (eqb b 0x0A) e in
      rw (h.0, h.1, eqb-true b 0x0A h.1)

  -- a byte that goes on has room
  room : viable (held p ++ b ∷ []) ≡ true → p.len < 512
  room e = omega (arith, viable_length (held p ++ b ∷ []) e, length-append (held p) (b ∷ []), held_count p size)

  -- before CR
  open_waits : ended p ≡ false → held (pick (goes_on p b) (pushed p b) (again p b)) ≡ (feed ascii 0 (held p) b).pending
  unfolding feed
  open_waits e = rw (open_formed e) (go (eqb p.len 0) refl)
    where
      by : (t : Bool) → viable (held p ++ b ∷ []) ≡ t → held (pick t (pushed p b) (again p b)) ≡ (turn false t (viable (b ∷ [])) 0 (held p) b).pending
      by true q = held_pushed p b size (room q)
      by false q = held_again p (held p) b size

      go : (t : Bool) → eqb p.len 0 ≡ t → held (pick (goes_on p b) (pushed p b) (again p b)) ≡ (turn false (viable (held p ++ b ∷ [])) (viable (b ∷ [])) 0 (held p) b).pending
      go true q =
          let z : p.len ≡ 0 = eqb-true p.len 0 q in
          rw (none_goes p b z, held_none p z) (held_again p [] b size ∙ alone (viable (b ∷ [])) b)
      go false q =
          let some : p.len ≡ 0 → ⊥ = eqb-false p.len 0 q in
          rw (goes_viable p b size v (is_open e) (omega arith)) (by (viable (held p ++ b ∷ [])) refl)

  fed_waits : ends p b ≡ false → held (fed p b) ≡ (feed ascii 0 (held p) b).pending
  unfolding ends fed feed
  fed_waits e = go (ended p) refl e
    where
      go : (t : Bool) → ended p ≡ t → both t (eqb b 0x0A) ≡ false
          → held (pick t (pick (eqb b 0x0A) p (again p b)) (pick (goes_on p b) (pushed p b) (again p b))) ≡ (feed ascii 0 (held p) b).pending
      go true q l = rw (l, ended_formed (held p) b v (is_ended q) ∙ l, ended_viable (held p) b v (is_ended q)) (held_again p (held p) b size)
      go false q l = open_waits q

pub ascii_follows : Follows ascii feeding
ascii_follows = record { sized = fed_sized; formed = fed_formed; message = fed_message; waits = fed_waits }

-- THE SCAN of the bytes s is document 01's stream call on them, where a beginning is pending: the bytes used, the message, the bytes pending
pub scan_is : (p : Pending) (s : List ℕ) → Sized p → viable (held p) ≡ true → seen_in feeding (scan_from feeding p 0 s) ≡ scanned ascii (held p) s
scan_is p s size v = scan_follows ascii ascii_lawful feeding ascii_follows s p 0 size v ∙ further_none (scanned ascii (held p) s)
