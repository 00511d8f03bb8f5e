-- What the data unit of a request asks: "Functions 03, 04 (same as 03; ours), 06, 16", "function 43, type 14", "and function 17". Assumes nothing.
use Rattle.std.specs.Prelude.{Bool, not, List, ℕ, ◌+◌, ◌*◌, leb, eqb, length, get_or}
use Rattle.base.specs.Choice.{pick, both, either}
use Rattle.table.specs.declared.labels.Register.{Register}
use Rattle.modbus_words.specs.Words.{word_at}
use Rattle.modbus.specs.declared.requests.Span.{Span}
use Rattle.modbus.specs.declared.requests.Request.{Request}
use Rattle.modbus.specs.declared.requests.Request.TheVariants.{Read, One, Many, Identify, Serial, Malformed, Unknown}

abbrev pub label : ℕ → Register
label n = record { 0 = n }

abbrev pub span : ℕ → ℕ → Span
span from to = record { from = from; to = to }

abbrev pub between : ℕ → ℕ → ℕ → Bool
between low high n = both (leb low n) (leb n high)

-- 03 and 04, 5 bytes:  function, register, count; "Counts 1 to 125 to read"
unfoldable pub reads : (size count : ℕ) → Bool
reads size count = both (eqb size 5) (between 1 125 count)

-- 16, 6 bytes and the register bytes:  16, register, count, byte count, register bytes; "1 to 123 to write; in 16 the byte count is twice that"
unfoldable pub writes : (size count bytes : ℕ) → Bool
writes size count bytes = both (between 1 123 count) (both (eqb bytes (2 * count)) (eqb size (6 + 2 * count)))

-- 06, 5 bytes:  06, register, word. "Any other length or count is refusal 8"
-- place:  0 function, 1 register, 3 count or word, 5 byte count, 6 register bytes
unfoldable pub asked : (size function register number bytes : ℕ) → Request
asked size function register number bytes =
    pick (either (eqb function 3) (eqb function 4)) (pick (reads size number) (Read function (label register) number) (Malformed function))
    (pick (eqb function 6) (pick (eqb size 5) (One (label register) number) (Malformed 6))
    (pick (eqb function 16) (pick (writes size number bytes) (Many (label register) number (span 6 (6 + 2 * number))) (Malformed 16))
    (Unknown function)))

-- 43, 4 bytes:  43, type 14, identification code, object; "codes 01, 02 and 04". "Refusals: a type other than 14 is 9; wrong length (no type byte too) or identification
-- code is 8"
unfoldable pub identifying : (size kind code object : ℕ) → Request
identifying size kind code object =
    pick (both (leb 2 size) (not (eqb kind 14))) (Unknown 43)
    (pick (both (eqb size 4) (either (eqb code 1) (either (eqb code 2) (eqb code 4)))) (Identify code object) (Malformed 43))

-- 17, 1 byte:  17
unfoldable pub numbering : (size : ℕ) → Request
numbering size = pick (eqb size 1) Serial (Malformed 17)

-- what the four functions ask, by what stands at these places; any other is unknown. Of no bytes at all, which no line brings, the function is 0
unfoldable pub asked_of : List ℕ → Request
asked_of unit = asked (length unit) (get_or unit 0 0) (word_at unit 1) (word_at unit 3) (get_or unit 5 0)

-- what a unit asks: 43 and 17 by their own layouts, any other function among the four
unfoldable pub request_of : List ℕ → Request
request_of unit =
    pick (eqb (get_or unit 0 0) 43) (identifying (length unit) (get_or unit 1 0) (get_or unit 2 0) (get_or unit 3 0))
    (pick (eqb (get_or unit 0 0) 17) (numbering (length unit)) (asked_of unit))
