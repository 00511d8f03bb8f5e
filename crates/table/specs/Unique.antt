-- No two rows share a label. Assumes nothing.
use Rattle.std.specs.Prelude.{Bool, List, [], ◌∷◌, ℕ, ◌+◌, ◌≤◌, leb, ltb}
use Rattle.base.specs.Choice.{pick, both}
use Rattle.table.specs.Table.{Entry, rows}
use Rattle.table.specs.Address.{first_register}
use Rattle.table.specs.Find.{has_e, has_adi}

-- how many rows of the list pass the test
unfoldable pub passing : (Entry → Bool) → List Entry → ℕ
passing test [] = 0
passing test (x ∷ xs) = pick (test x) 1 0 + passing test xs

-- the register is one of the row's own
unfoldable pub covers : ℕ → Entry → Bool
covers r x = both (leb (first_register x.place) r) (ltb r (first_register x.place + x.line.registers))

-- each label is that of one row at most: an E number, an ADI number, a register
pub record Unique : Type 0 where
  pub e_number : (e : ℕ) → passing (λ (x : Entry). has_e e x.parameter) rows ≤ 1
  pub adi_number : (n : ℕ) → passing (λ (x : Entry). has_adi n x.place) rows ≤ 1
  pub register : (r : ℕ) → passing (covers r) rows ≤ 1
