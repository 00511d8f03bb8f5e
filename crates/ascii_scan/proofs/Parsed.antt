-- The message held, and what the code decodes of it: its bytes, its address and its data unit. Assumes nothing.
use Rattle.std.proofs.Common.{◌≡◌, ℕ, ◌≤◌, true, List, [], ◌∷◌, ◌++◌, length, get_or, drop, sym, ap, ◌∙◌, arith}
use lib.ListN.{get_or-append}
use lib.Seq.{append_snoc}
use Rattle.base.specs.Bytes.{Bytes}
use Rattle.base.specs.Buffers.{front}
use Rattle.hex_pairs.specs.Hex.{bytes_of}
use Rattle.hex_pairs.proofs.RoundTrip.{bytes_below}
use Rattle.pending.specs.declared.Pending.{Pending}
use Rattle.pending.specs.Held.{held, Sized}
use Rattle.pending.specs.Scanning.{scan_from}
use Rattle.pending.proofs.Scans.{scan_leaves}
use Rattle.ascii.specs.Ascii.{bytes_in, formed, viable, ascii, address_among, unit_among}
use Rattle.ascii.proofs.Message.{cr_none, whole_bytes, message_right}
use Rattle.ascii.proofs.Lawful.{ascii_lawful}
use Rattle.ascii.proofs.Step.{message_ends}
use Rattle.ascii_scan.specs.Scan.{message_in, feeding}
use Rattle.ascii_scan.proofs.Follows.{ascii_follows}

-- a message's bytes end at its CR, so the LF adds nothing
without_lf : (p : List ℕ) (b : ℕ) → formed (p ++ b ∷ []) ≡ true → bytes_in p ≡ bytes_in (p ++ b ∷ [])
unfolding bytes_in
without_lf p b e =
    let m = message_ends p b e in
    let d : List ℕ = m.digits in
    let ends : (z : List ℕ) → bytes_of (d ++ 0x0D ∷ z) ≡ bytes_of d = λ z. whole_bytes d (0x0D ∷ z) m.whole (cr_none z) in
    rw m.text (ends [] ∙ sym (ends (b ∷ [])) ∙ ap bytes_of (sym (append_snoc d 0x0D (b ∷ []))))

-- ---- a message is held
module _ (p : Pending) (e : formed (message_in p) ≡ true) where
  -- the LF, which is not held, adds nothing
  pub message_held : bytes_in (held p) ≡ bytes_in (message_in p)
  unfolding message_in
  message_held = without_lf (held p) 0x0A e

  -- "k from 3 to 255"
  pub message_count : (3 ≤ length (bytes_in (held p))) × (length (bytes_in (held p)) ≤ 255)
  message_count =
      let r = message_right (message_in p) e in
      (omega (arith, ap length message_held, r.0), omega (arith, ap length message_held, r.1))

  pub unit_held : unit_among (bytes_in (held p)) ≡ unit_among (bytes_in (message_in p))
  unit_held = ap unit_among message_held

  -- the address is the first byte that was put into the array o
  pub address_held : (o : List ℕ) → get_or (front (bytes_in (held p)) o) 0 0 ≡ address_among (bytes_in (message_in p))
  unfolding front
  address_held o =
      get_or-append (bytes_in (held p)) (drop (length (bytes_in (held p))) o) 0 0 (omega (arith, message_count.0))
      ∙ ap address_among message_held

-- what is decoded is bytes, whatever is held
pub decoded_below : (m : List ℕ) → Bytes (bytes_in m)
unfolding bytes_in
decoded_below m = bytes_below (drop 1 m)

-- what a scan took is a message
pub scan_formed : (p : Pending) (s : List ℕ) → Sized p → viable (held p) ≡ true → (scan_from feeding p 0 s).taken ≡ true
    → formed (message_in (scan_from feeding p 0 s).pending) ≡ true
scan_formed p s size v t = (scan_leaves ascii ascii_lawful feeding ascii_follows s p 0 size v).0 t
