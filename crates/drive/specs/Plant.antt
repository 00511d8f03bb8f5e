-- The plant: one list of words. Each row's word stands at its line in the table, under the row's name; behind the rows stand the numbers that are no rows. The
-- lines of Inv St, which is worked out, and of SioErr, which is the port's, hold nothing. Assumes nothing.
use Rattle.std.specs.Prelude.{◌≡◌, List, [], ◌∷◌, ◌++◌, ℕ, ◌+◌, length, get_or, set}
use Rattle.table.specs.Names.{SiAdr, MbAdr, MODE, SCMD, Drive-Status, row_count}
use Rattle.table.specs.Table.{start_words}

abbrev pub Plant : Type 0
Plant = List ℕ

-- ---- the names of the numbers that are no rows
abbrev pub DIN1 : ℕ
DIN1 = row_count

abbrev pub Causes : ℕ
Causes = row_count + 1

abbrev pub Flags : ℕ
Flags = row_count + 2

-- our own address: "what MbAdr held at the last start or restart"
abbrev pub Station : ℕ
Station = row_count + 3

-- the array's length, which its type tells
abbrev pub Sized : Plant → Type 0
Sized p = length p ≡ row_count + 4

-- ---- a number of the plant
abbrev pub si_adr : Plant → ℕ
si_adr p = get_or p SiAdr 0

abbrev pub mode : Plant → ℕ
mode p = get_or p MODE 0

abbrev pub scmd : Plant → ℕ
scmd p = get_or p SCMD 0

-- the word that stands for Drive Status
abbrev pub drive_status : Plant → ℕ
drive_status p = get_or p Drive-Status 0

abbrev pub din1 : Plant → ℕ
din1 p = get_or p DIN1 0

abbrev pub causes : Plant → ℕ
causes p = get_or p Causes 0

abbrev pub flags : Plant → ℕ
flags p = get_or p Flags 0

abbrev pub station : Plant → ℕ
station p = get_or p Station 0

-- ---- the plant with one number changed, and all else as it was
abbrev pub with_si_adr : ℕ → Plant → Plant
with_si_adr x p = set p SiAdr x

abbrev pub with_mode : ℕ → Plant → Plant
with_mode x p = set p MODE x

abbrev pub with_scmd : ℕ → Plant → Plant
with_scmd x p = set p SCMD x

abbrev pub with_drive_status : ℕ → Plant → Plant
with_drive_status x p = set p Drive-Status x

abbrev pub with_din1 : ℕ → Plant → Plant
with_din1 x p = set p DIN1 x

abbrev pub with_causes : ℕ → Plant → Plant
with_causes x p = set p Causes x

abbrev pub with_flags : ℕ → Plant → Plant
with_flags x p = set p Flags x

abbrev pub with_station : ℕ → Plant → Plant
with_station x p = set p Station x

-- ---- the column Start; "At start DIN1 is inactive and no cause stands"
unfoldable pub started : Plant
started = start_words ++ (0 ∷ 0 ∷ 0 ∷ get_or start_words MbAdr 0 ∷ [])
