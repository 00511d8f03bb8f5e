-- "The prefix E stays a capital": what has another names no parameter. Assumes nothing.
use Rattle.std.proofs.Common.{None}
use mathlib.Core.Path.{◌≡◌}
use mathlib.Core.List.{List}
use Prim.Native.Nat.{ℕ}
use borrow.Author.Tests.{ne_eqb}
use lib.ListN.{get_or}
use Rattle.nfo_parts.specs.Parts.{parameter_at}

pub parameter_other : (m : List ℕ) (i : ℕ) → (get_or m i 0 ≡ 0x45 → ⊥) → None ≡ parameter_at i m
unfolding parameter_at
parameter_other m i h = simp (ne_eqb (get_or m i 0) 0x45 h)
