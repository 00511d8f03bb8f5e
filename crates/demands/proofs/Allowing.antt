-- What the rows SiAdr, MbAdr, MODE and SCMD allow to be written. Assumes nothing.
use mathlib.Core.Path.{◌≡◌, sym, ◌∙◌}
use mathlib.Core.Logic.{◌⊎◌, inl, inr}
use mathlib.Core.Bool.{Bool, true, false, false≢true}
use mathlib.Core.List.{[], ◌∷◌}
use Prim.Native.Nat.{ℕ, suc, ◌+◌, ◌-◌}
use native.Mathlib.Omega.{arith}
use borrow.Author.Tests.{eqb-true, leb-true}
use lib.Dec.{eqb, ltb}
use lib.IntN.{pos, negsuc}
use lib.Signed.{le_z}
use Rattle.base.specs.Choice.{pick, both, either}
use Rattle.base.proofs.Tests.{both_out, either_out, either_false}
use Rattle.table.specs.Table.{rows, line_at}
use Rattle.table.specs.Names.{SiAdr, MbAdr, MODE, SCMD}
use Rattle.allowed.specs.Allowed.{twos, within, member, allows, allowed_at}
use Rattle.drive.specs.Plant.{Plant}
use Rattle.permit.specs.Refusals.{allowed}
use Rattle.master_reply.specs.Told.{Within}
use Rattle.demands.specs.Kept.{Command, OwnAddress}

-- ---- "SiAdr | 1..94" and "MbAdr | 1..247"
-- a word in such limits is that number: a word past 16 bits has none, and one from 8000h on a negative one
narrow : (top w : ℕ) (a b : Bool)
    → pick a (both (le_z (pos 1) (pick b (pos w) (negsuc (0x8000 + 0x8000 - suc w)))) (le_z (pick b (pos w) (negsuc (0x8000 + 0x8000 - suc w))) (pos top))) false ≡ true → Within 1 top w
narrow top w false b h = absurd (false≢true h)
narrow top w true false h = absurd (false≢true h)
narrow top w true true h = let r = both_out (le_z (pos 1) (pos w)) (le_z (pos w) (pos top)) h in (leb-true 1 w r.0, leb-true w top r.1)

pub si_adr_lem : (p : Plant) (w : ℕ) → allowed p SiAdr w ≡ true → OwnAddress w
unfolding allowed allowed_at line_at rows allows within twos
si_adr_lem p w h = narrow 94 w (ltb w 0x10000) (ltb w 0x8000) h

pub mb_adr : (p : Plant) (w : ℕ) → allowed p MbAdr w ≡ true → Within 1 247 w
unfolding allowed allowed_at line_at rows allows within twos
mb_adr p w h = narrow 247 w (ltb w 0x10000) (ltb w 0x8000) h

-- ---- "MODE | 1, 2, 3" and "SCMD | 0, 129, 257"
-- a list of three, the last of which is repeated
one_of : (w a b c : ℕ) → either (eqb w a) (either (eqb w b) (either (eqb w c) (either (eqb w c) false))) ≡ true → (w ≡ a) ⊎ ((w ≡ b) ⊎ (w ≡ c))
one_of w a b c h = go (either_out (eqb w a) _ h)
  where
    last : (eqb w c ≡ true) ⊎ (either (eqb w c) false ≡ true) → w ≡ c
    last (inl e) = eqb-true w c e
    last (inr e) = eqb-true w c (sym (either_false (eqb w c)) ∙ e)

    next : (eqb w b ≡ true) ⊎ (either (eqb w c) (either (eqb w c) false) ≡ true) → (w ≡ b) ⊎ (w ≡ c)
    next (inl e) = inl (eqb-true w b e)
    next (inr e) = inr (last (either_out (eqb w c) (either (eqb w c) false) e))

    go : (eqb w a ≡ true) ⊎ (either (eqb w b) (either (eqb w c) (either (eqb w c) false)) ≡ true) → (w ≡ a) ⊎ ((w ≡ b) ⊎ (w ≡ c))
    go (inl e) = inl (eqb-true w a e)
    go (inr e) = inr (next (either_out (eqb w b) (either (eqb w c) (either (eqb w c) false)) e))

-- a word whose number is in the list is that number
listed : (w a b c : ℕ) (x y : Bool)
    → pick x (member (pick y (pos w) (negsuc (0x8000 + 0x8000 - suc w))) (pos a ∷ pos b ∷ pos c ∷ pos c ∷ [])) false ≡ true → (w ≡ a) ⊎ ((w ≡ b) ⊎ (w ≡ c))
unfolding member
listed w a b c false y h = absurd (false≢true h)
listed w a b c true false h = absurd (false≢true h)
listed w a b c true true h = one_of w a b c h

pub mode_one : (p : Plant) (w : ℕ) → allowed p MODE w ≡ true → Within 1 3 w
unfolding allowed allowed_at line_at rows allows twos
mode_one p w h = go (listed w 1 2 3 (ltb w 0x10000) (ltb w 0x8000) h)
  where
    go : (w ≡ 1) ⊎ ((w ≡ 2) ⊎ (w ≡ 3)) → Within 1 3 w
    go (inl e) = (omega (arith, e), omega (arith, e))
    go (inr (inl e)) = (omega (arith, e), omega (arith, e))
    go (inr (inr e)) = (omega (arith, e), omega (arith, e))

pub scmd_one : (p : Plant) (w : ℕ) → allowed p SCMD w ≡ true → Command w
unfolding allowed allowed_at line_at rows allows twos
scmd_one p w h = listed w 0 129 257 (ltb w 0x10000) (ltb w 0x8000) h
