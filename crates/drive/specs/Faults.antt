-- The fault flags. Assumes nothing.
use Rattle.std.specs.Prelude.{Bool, ℕ, eqb}
use Rattle.std.specs.Int.Bits.{bit_or, bit_and}
use Rattle.base.specs.Choice.{pick}
use Rattle.drive.specs.Plant.{Plant, causes, flags, with_scmd, with_flags}
use Rattle.drive.specs.Flags.{only, all_but}
use Rattle.drive.specs.Status.{righted}

-- these flags stand, and no other; where they did before, nothing changes
unfoldable pub reflagged : ℕ → Plant → Plant
reflagged x p = pick (eqb (flags p) x) p (righted (with_flags x p))

-- these flags stand, and SCMD is 0
unfoldable pub halted : ℕ → Plant → Plant
halted x p = righted (with_scmd 0 (with_flags x p))

-- "SCMD becomes 0 when .. a fault flag is raised"
unfoldable pub flag_raised : ℕ → Plant → Plant
flag_raised mask p = halted (bit_or (flags p) mask) p

-- "clears flags whose cause has ended, but not 14": what stays is flagged, and its cause stands or it is 14
unfoldable pub acknowledged : Plant → Plant
acknowledged p = reflagged (bit_and (flags p) (bit_or (causes p) (only 14))) p

-- "zeroes .. flag 14"
unfoldable pub without14 : Plant → Plant
without14 p = reflagged (bit_and (flags p) (all_but 14)) p

-- "while 14 is the only flag"
unfoldable pub only14 : Plant → Bool
only14 p = eqb (flags p) (only 14)

-- "clears 14": the broadcast stop leaves SCMD 0
unfoldable pub stopped : Plant → Plant
stopped p = halted (bit_and (flags p) (all_but 14)) p
