-- Worked cases, in one statement: which words a row allows at start. Assumes nothing.
use Rattle.std.specs.Prelude.{◌≡◌, refl, Bool, true, false, List, [], ◌∷◌, map, ℕ}
use Rattle.table.specs.Names.{P-Nom, I-magn, I-limt, R-fix1, RegAmp, SiAdr, SpdScl-num, Setpoint, SCMD, Inv-St}
use Rattle.table.specs.Table.{rows, line_at}
use Rattle.allowed.specs.Allowed.{twos, integer_of, within, member, below_limt, above_magn, at_mode, setpoint_allows, allows, allowed_at}
use Rattle.allowed.specs.declared.Bounds.{Bounds}

-- a row, a word, and whether it is allowed while I-magn is 100, I-limt 1000 and Mode 0
pub record Tried : Type 0 where
  pub row : ℕ
  pub word : ℕ
  pub right : Bool

abbrev pub tried : ℕ → ℕ → Bool → Tried
tried row word right = record { row = row; word = word; right = right }

unfoldable pub words : List Tried
words =
    tried P-Nom 0 false
    ∷ tried P-Nom 10000 true
    ∷ tried R-fix1 0xB1E0 true
    ∷ tried R-fix1 0xB1DF false
    ∷ tried RegAmp 0xFFFF true
    ∷ tried RegAmp 0 false
    ∷ tried I-magn 999 true
    ∷ tried I-magn 1000 false
    ∷ tried I-limt 100 false
    ∷ tried I-limt 101 true
    -- "its text, rightly, says 1 to 94. That becomes the allowed range"
    ∷ tried SiAdr 0 false
    ∷ tried SiAdr 1 true
    ∷ tried SiAdr 94 true
    ∷ tried SiAdr 95 false
    ∷ tried SpdScl-num 1000000 true
    ∷ tried SpdScl-num 0xFFFFFFFF false
    ∷ tried Setpoint 0xFA24 true
    ∷ tried Setpoint 1501 false
    ∷ tried SCMD 129 true
    ∷ tried SCMD 130 false
    ∷ tried Inv-St 0 false
    ∷ []

abbrev at_start : Bounds
at_start = record { magn = 100; limt = 1000; mode = 0 }

pub words_tried : map (λ (t : Tried). allowed_at t.row at_start t.word) words ≡ map (λ (t : Tried). t.right) words
unfolding words allowed_at line_at rows allows within member below_limt above_magn setpoint_allows at_mode integer_of twos
words_tried = refl
