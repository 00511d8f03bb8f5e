-- The rows by the papers' names. A name is the row's line in the table, counted from 0. Assumes nothing.
use Rattle.std.specs.Prelude.{ℕ}

abbrev pub P-Nom : ℕ
P-Nom = 0

abbrev pub U-Nom : ℕ
U-Nom = 1

abbrev pub f-Nom : ℕ
f-Nom = 2

abbrev pub N-Nom : ℕ
N-Nom = 3

abbrev pub cosφ : ℕ
cosφ = 4

abbrev pub I-magn : ℕ
I-magn = 5

abbrev pub I-limt : ℕ
I-limt = 6

abbrev pub Accel : ℕ
Accel = 7

abbrev pub Retard : ℕ
Retard = 8

abbrev pub Mode : ℕ
Mode = 9

abbrev pub Fr-Min : ℕ
Fr-Min = 10

abbrev pub Fr-Max : ℕ
Fr-Max = 11

abbrev pub R-fix1 : ℕ
R-fix1 = 12

abbrev pub RegAmp : ℕ
RegAmp = 13

abbrev pub SiBaud : ℕ
SiBaud = 14

abbrev pub SiProt : ℕ
SiProt = 15

abbrev pub SiAdr : ℕ
SiAdr = 16

abbrev pub SioTot : ℕ
SioTot = 17

abbrev pub MbAdr : ℕ
MbAdr = 18

abbrev pub SpdScl-num : ℕ
SpdScl-num = 19

abbrev pub SpdScl-den : ℕ
SpdScl-den = 20

abbrev pub Setpoint : ℕ
Setpoint = 21

abbrev pub MODE : ℕ
MODE = 22

abbrev pub SCMD : ℕ
SCMD = 23

abbrev pub Inv-St-ack : ℕ
Inv-St-ack = 24

abbrev pub Inv-St : ℕ
Inv-St = 25

abbrev pub SioErr : ℕ
SioErr = 26

abbrev pub FrqAct : ℕ
FrqAct = 27

abbrev pub I-rms : ℕ
I-rms = 28

abbrev pub OpTime : ℕ
OpTime = 29

abbrev pub Drive-Status : ℕ
Drive-Status = 30

-- how many rows there are
abbrev pub row_count : ℕ
row_count = 31
