-- The address rule. Assumes nothing.
use Rattle.std.specs.Prelude.{ℕ, ◌+◌, ◌-◌, ◌*◌, ◌/◌, ◌%◌, ltb, eqb, Option, Some, None}
use Rattle.base.specs.Choice.{pick}
use Rattle.table.specs.Table.{Place, ADI, register}
use Rattle.table.specs.declared.labels.AdiNumber.{AdiNumber}

-- "Register = 528 + 4 × (ADI − 1)"
unfoldable pub address : ℕ → ℕ
address n = 528 + 4 * (n - 1)

-- where a row's registers begin
unfoldable pub first_register : Place → ℕ
first_register (ADI n) = address n
first_register (register r) = r

-- the ADI number whose address a register is
unfoldable pub adi_of : ℕ → Option AdiNumber
adi_of r = pick (ltb r 528) None (pick (eqb ((r - 528) % 4) 0) (Some (record { 0 = (r - 528) / 4 + 1 })) None)
