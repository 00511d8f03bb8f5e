-- The settings table of document 01, a line for a line, and the rows that document 02 adds. Assumes nothing.
use Rattle.std.specs.Prelude.{◌≡◌, refl, List, [], ◌∷◌, map, ℕ, length, get_or, ℤ, pos, neg_ℤ}
use Rattle.table.specs.Names.{P-Nom, U-Nom, f-Nom, N-Nom, cosφ, I-magn, I-limt, Accel, Retard, Mode, Fr-Min, Fr-Max, R-fix1, RegAmp, SiBaud, SiProt, SiAdr, SioTot, MbAdr, SpdScl-num, SpdScl-den, Setpoint, MODE, SCMD, Inv-St-ack, Inv-St, SioErr, FrqAct, I-rms, OpTime, Drive-Status, row_count}
use Rattle.table.specs.declared.lines.Allowed.{Allowed}
use Rattle.table.specs.declared.lines.Allowed.TheVariants.{Between, OneOf, BelowLimt, AboveMagn, ByMode, Nothing}
use Rattle.table.specs.declared.lines.Class.{Class}
use Rattle.table.specs.declared.lines.Class.TheVariants.{Init, Run, OnlyRead}

-- ---- the columns
-- E: an E number, or `-`
pub data Parameter : Type 0 where
  E : ℕ → Parameter
  no_e : Parameter

-- ADI: an ADI number, or the register itself
pub data Place : Type 0 where
  ADI : ℕ → Place
  register : ℕ → Place

-- Allowed, where numbers stand in it: `lo..hi`, `−m..m`, and a list of up to four numbers, of which the code repeats the last
abbrev pub between : ℕ → ℕ → Allowed
between lo hi = Between (pos lo) (pos hi)

abbrev pub about_0 : ℕ → Allowed
about_0 m = Between (neg_ℤ (pos m)) (pos m)

abbrev pub these : List ℤ → Allowed
these [] = Nothing
these (a ∷ []) = OneOf a a a a
these (a ∷ b ∷ []) = OneOf a b b b
these (a ∷ b ∷ c ∷ []) = OneOf a b c c
these (a ∷ b ∷ c ∷ d ∷ []) = OneOf a b c d
these (a ∷ b ∷ c ∷ d ∷ e ∷ more) = Nothing

-- Start: a word, or `-`
pub data Start : Type 0 where
  Word : ℕ → Start
  NoWord : Start

-- what a line says of its row: "Rows 320, 321, 120 and 39 are 32 bits, two registers"
pub record Line : Type 0 where
  pub registers : ℕ
  pub allowed : Allowed
  pub class : Class
  pub start : Start

-- a line with its name and its labels
pub record Entry : Type 0 where
  pub name : ℕ
  pub parameter : Parameter
  pub place : Place
  pub line : Line

abbrev pub row : ℕ → Parameter → Place → ℕ → Allowed → Class → Start → Entry
row name e place registers allowed class start =
    record { name = name; parameter = e; place = place; line = record { registers = registers; allowed = allowed; class = class; start = start } }

-- |Name|E|ADI|registers|Allowed|Class|Start|. The last row is document 02's: "Add the read-only row ADI 19, register 0258h"; "It has no E number". It starts with bit 6, for
-- DIN1 is inactive then
unfoldable pub rows : List Entry
rows =
    row P-Nom (E 0x0008) (ADI 301) 1 (between 1 10000) Init (Word 150)
    ∷ row U-Nom (E 0x0009) (ADI 302) 1 (between 1 1000) Init (Word 400)
    ∷ row f-Nom (E 0x000F) (ADI 303) 1 (between 1 500) Init (Word 50)
    ∷ row N-Nom (E 0x0010) (ADI 304) 1 (between 5 32765) Init (Word 1500)
    ∷ row cosφ (E 0x0015) (ADI 305) 1 (between 1 100) Init (Word 80)
    ∷ row I-magn (E 0x0005) (ADI 306) 1 BelowLimt Init (Word 100)
    ∷ row I-limt (E 0x0018) (ADI 307) 1 (AboveMagn (pos 3000)) Init (Word 1000)
    ∷ row Accel (E 0x001D) (ADI 308) 1 (between 2 5000) Run (Word 50)
    ∷ row Retard (E 0x001C) (ADI 309) 1 (between 2 5000) Run (Word 50)
    ∷ row Mode (E 0x0030) (ADI 310) 1 (between 0 3) Init (Word 0)
    ∷ row Fr-Min (E 0x000D) (ADI 311) 1 (between 0 1500) Run (Word 0)
    ∷ row Fr-Max (E 0x000B) (ADI 312) 1 (between 0 1500) Run (Word 500)
    ∷ row R-fix1 (E 0x0039) (ADI 313) 1 (about_0 20000) Run (Word 0)
    ∷ row RegAmp (E 0x0052) (ADI 314) 1 (these (pos 1 ∷ neg_ℤ (pos 1) ∷ [])) Run (Word 1)
    ∷ row SiBaud (E 0x00A8) (ADI 315) 1 (these (pos 16 ∷ pos 32 ∷ pos 64 ∷ pos 128 ∷ [])) Run (Word 128)
    ∷ row SiProt (E 0x00AA) (ADI 316) 1 (these (pos 0 ∷ pos 1 ∷ [])) Run (Word 0)
    ∷ row SiAdr (E 0x00A9) (ADI 317) 1 (between 1 94) Run (Word 1)
    ∷ row SioTot (E 0x00AB) (ADI 318) 1 (between 0 250) Run (Word 50)
    ∷ row MbAdr no_e (ADI 319) 1 (between 1 247) Run (Word 1)
    ∷ row SpdScl-num no_e (ADI 320) 2 (between 1 1000000) Run (Word 1)
    ∷ row SpdScl-den no_e (ADI 321) 2 (between 1 1000000) Run (Word 1)
    ∷ row Setpoint (E 0x001E) (ADI 322) 1 ByMode Run (Word 0)
    ∷ row MODE (E 0x0029) (ADI 34) 1 (these (pos 1 ∷ pos 2 ∷ pos 3 ∷ [])) Run (Word 1)
    ∷ row SCMD (E 0x00AD) (ADI 35) 1 (these (pos 0 ∷ pos 129 ∷ pos 257 ∷ [])) Run (Word 0)
    ∷ row Inv-St-ack (E 0x00E8) (ADI 38) 1 Nothing OnlyRead NoWord
    ∷ row Inv-St (E 0x00E9) (register 0x02A5) 1 Nothing OnlyRead NoWord
    ∷ row SioErr (E 0x00AC) (ADI 323) 1 Nothing OnlyRead (Word 0)
    ∷ row FrqAct (E 0x00B6) (ADI 125) 1 Nothing OnlyRead (Word 0)
    ∷ row I-rms no_e (ADI 120) 2 Nothing OnlyRead (Word 0)
    ∷ row OpTime no_e (ADI 39) 2 Nothing OnlyRead (Word 0)
    ∷ row Drive-Status no_e (ADI 19) 1 Nothing OnlyRead (Word 64)
    ∷ []

-- a name is the line's place in the table
pub names : map (λ (r : Entry). r.name) rows ≡ 0 ∷ 1 ∷ 2 ∷ 3 ∷ 4 ∷ 5 ∷ 6 ∷ 7 ∷ 8 ∷ 9 ∷ 10 ∷ 11 ∷ 12 ∷ 13 ∷ 14 ∷ 15 ∷ 16 ∷ 17 ∷ 18 ∷ 19 ∷ 20 ∷ 21 ∷ 22 ∷ 23 ∷ 24 ∷ 25 ∷ 26 ∷ 27 ∷ 28 ∷ 29 ∷ 30 ∷ []
unfolding rows
names = refl

-- and there are as many as `row_count` says
pub row_count_lem : length rows ≡ row_count
unfolding rows
row_count_lem = refl

-- past the table: no register, and nothing is allowed
abbrev pub no_line : Line
no_line = record { registers = 0; allowed = Nothing; class = OnlyRead; start = NoWord }

-- the line of a row, its labels left out
unfoldable pub line_at : ℕ → Line
line_at n = get_or (map (λ (r : Entry). r.line) rows) n no_line

abbrev pub word : Start → ℕ
word (Word w) = w
word NoWord = 0

-- the column Start, a word for each row; where there is none, 0 stands
unfoldable pub start_words : List ℕ
start_words = map (λ (r : Entry). word r.line.start) rows
