-- The numbers of a port besides its bytes pending, each at its name. Assumes nothing.
use Rattle.std.specs.Prelude.{List, [], ◌∷◌, ℕ, get_or, set}

abbrev pub Numbers : Type 0
Numbers = List ℕ

-- ---- the names
abbrev pub ProtocolAt : ℕ
ProtocolAt = 0

abbrev pub Sum : ℕ
Sum = 1

abbrev pub Sioerr : ℕ
Sioerr = 2

-- ---- "SioErr (ours): bit 0 time-out, bit 1 parity fault told by the host", each as its mask
abbrev pub TimeOut : ℕ
TimeOut = 1

abbrev pub Parity : ℕ
Parity = 2

-- ---- a number of the port
abbrev pub protocol : Numbers → ℕ
protocol q = get_or q ProtocolAt 0

abbrev pub sum : Numbers → ℕ
sum q = get_or q Sum 0

abbrev pub sioerr : Numbers → ℕ
sioerr q = get_or q Sioerr 0

-- ---- the port with one number changed, and all else as it was
abbrev pub with_sum : ℕ → Numbers → Numbers
with_sum x q = set q Sum x

abbrev pub with_sioerr : ℕ → Numbers → Numbers
with_sioerr x q = set q Sioerr x

-- a fresh port: "The protocol of a port is chosen at start"; time sum and SioErr are 0
abbrev pub fresh : ℕ → Numbers
fresh number = number ∷ 0 ∷ 0 ∷ []
