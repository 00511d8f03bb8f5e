-- The state line: "36 words: 34 decimal numbers, the pending bytes in HEX or `-`, and a decimal number" (docs/BENCH.md). Assumes nothing.
use Rattle.std.specs.Prelude.{Bool, List, [], ◌∷◌, ◌++◌, ℕ, suc, ◌%◌, leb, eqb}
use Rattle.base.specs.Choice.{pick, both, either}
use Rattle.bench_lines.specs.Answer.{decimal_of, signed_of, shown}

-- "2 to 23: rows 301 to 322, signed", of which 320 and 321 are 32 bits; "27, 28, 29: FrqAct (signed), I-rms (signed), OpTime"
unfoldable pub is_short : ℕ → Bool
is_short k = either (eqb k 23) (either (eqb k 27) (both (leb 2 k) (leb k 20)))

unfoldable pub is_long : ℕ → Bool
is_long k = either (eqb k 21) (either (eqb k 22) (eqb k 28))

-- the number of column k, counted from 1
unfoldable pub column_of : ℕ → ℕ → List ℕ
column_of k word = pick (is_short k) (signed_of 0x10000 (word % 0x10000)) (pick (is_long k) (signed_of 0x100000000 word) (decimal_of word))

-- the numbers of columns k and on, a space after each
unfoldable pub columns_of : ℕ → List ℕ → List ℕ
columns_of k [] = []
columns_of k (w ∷ ws) = column_of k w ++ (0x20 ∷ columns_of (suc k) ws)

-- "1: protocol", "2 to 23", "24, 25, 26" and on, "35: pending bytes", "36: the stored status word"
unfoldable pub state_of : ℕ → List ℕ → List ℕ → List ℕ → ℕ → List ℕ
state_of protocol rows others pending status =
    columns_of 1 (protocol ∷ []) ++ (columns_of 2 rows ++ (columns_of 24 others ++ (shown pending ++ (0x20 ∷ decimal_of status))))
