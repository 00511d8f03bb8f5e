-- One byte more: of bytes that are a beginning, only the new byte, the length and, at the end of a SELECT, the BCC are to be looked at.
-- Assumes nothing.
use mathlib.Core.Path.{◌≡◌, refl, ap}
use mathlib.Core.Bool.{Bool, true, false}
use mathlib.Core.List.{List, [], ◌∷◌, ◌++◌}
use Prim.Native.Nat.{ℕ, suc}
use borrow.Author.Tests.{eqb-true}
use native.Mathlib.Omega.{arith}
use lib.Dec.{eqb, ltb}
use lib.ListN.{length, get_or}
use lib.Seq.{get_or_at}
use Rattle.base.specs.Choice.{both, either}
use Rattle.base.proofs.Tests.{both_out}
use Rattle.nfo.specs.Shape.{any, fits, part}
use Rattle.nfo.specs.Message.{enquiry, select, bcc_in, formed, viable}
use Rattle.nfo.proofs.Shape.{part_step, whole_step}
use Rattle.nfo.proofs.Narrow.{bcc_body}

module _ (s : List ℕ) (b : ℕ) where
  pub viable_step : viable (s ++ b ∷ [])
      ≡ either
      (both (part enquiry s) (both (fits (get_or enquiry (length s) any) b) (ltb (suc (length s)) (length enquiry))))
      (both (part select s) (both (fits (get_or select (length s) any) b) (ltb (suc (length s)) (length select))))
  unfolding viable
  viable_step = rw (part_step enquiry s b, part_step select s b)

  -- if these are a SELECT so far, and all of it, then b is its last byte
  last_byte : (t : Bool) → (t ≡ true → length s ≡ 14) → both t (eqb (get_or (s ++ b ∷ []) 14 0) (bcc_in (s ++ b ∷ []))) ≡ both t (eqb b (bcc_in s))
  last_byte true h = rw (get_or_at s b [] 0 14 (h refl), bcc_body s (b ∷ []) (h refl))
  last_byte false h = refl

  pub formed_step : formed (s ++ b ∷ [])
      ≡ either
      (both (part enquiry s) (both (fits (get_or enquiry (length s) any) b) (eqb (suc (length s)) (length enquiry))))
      (both (both (part select s) (both (fits (get_or select (length s) any) b) (eqb (suc (length s)) (length select)))) (eqb b (bcc_in s)))
  unfolding formed select
  formed_step =
      rw (whole_step enquiry s b, whole_step select s b) (ap (either (both (part enquiry s) (both (fits (get_or enquiry (length s) any) b) (eqb (suc (length s)) (length enquiry))))) (last_byte _ ends))
    where
      ends : both (part select s) (both (fits (get_or select (length s) any) b) (eqb (suc (length s)) (length select))) ≡ true → length s ≡ 14
      ends e =
          let h = both_out (fits (get_or select (length s) any) b) (eqb (suc (length s)) 15) (both_out (part select s) _ e).1 in
          omega (arith, eqb-true (suc (length s)) 15 h.1)
