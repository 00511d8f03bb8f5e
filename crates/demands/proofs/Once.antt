-- Of Modbus ASCII each well-formed message is taken exactly once, without exception: a message ends with LF and begins with `:`, so no message's first byte is
-- the last byte of another. Assumes nothing.
use mathlib.Core.Path.{◌≡◌, sym, ap, ◌∙◌}
use mathlib.Core.Logic.{⊎_elim}
use mathlib.Core.Bool.{true}
use mathlib.Core.List.{List, [], ◌∷◌, ◌++◌, append_assoc}
use Prim.Native.Nat.{ℕ, ◌+◌}
use native.Mathlib.Omega.{arith}
use lib.ListN.{length, get_or, length-append}
use lib.Seq.{get_or-append_seam, get_or-append-add}
use Rattle.stream.specs.Reading.{Yield, Reads}
use Rattle.stream.specs.Once.{Once, LastOf}
use Rattle.ascii.specs.Ascii.{ascii}
use Rattle.ascii.proofs.Message.{message_out}
use Rattle.ascii.proofs.Lawful.{ascii_lawful, ascii_stream_lem}

-- a message's first byte is `:`, wherever it stands
first_byte : (u m v : List ℕ) → ascii.formed m ≡ true → get_or (u ++ (m ++ v)) (length u) 0 ≡ 0x3A
first_byte u m v e = let (b, more, h) = ascii_lawful.begins m e in rw h (get_or-append_seam u 0x3A (b ∷ more ++ v) 0)

-- and its last is LF
ends : (m : List ℕ) → ascii.formed m ≡ true → (w : List ℕ) × (m ≡ w ++ 0x0A ∷ [])
ends m e = let p = message_out m e in ((0x3A ∷ p.digits) ++ 0x0D ∷ [], p.text ∙ sym (append_assoc (0x3A ∷ p.digits) (0x0D ∷ []) (0x0A ∷ [])))

last_byte : (u w v : List ℕ) → get_or (u ++ ((w ++ 0x0A ∷ []) ++ v)) (length u + length w) 0 ≡ 0x0A
last_byte u w v = get_or-append-add u ((w ++ 0x0A ∷ []) ++ v) (length w) 0 ∙ rw (append_assoc w (0x0A ∷ []) v) (get_or-append_seam w 0x0A v 0)

-- so where one message ends another does not begin
no_overlap : (s u m v a t b : List ℕ) → s ≡ u ++ (m ++ v) → ascii.formed m ≡ true → s ≡ a ++ (t ++ b) → ascii.formed t ≡ true → length a + length t ≡ length u + 1 → ⊥
no_overlap s u m v a t b split e there f behind = let (w, whole) = ends t f in go w whole
  where
    colon : get_or s (length u) 0 ≡ 0x3A
    colon = rw split (first_byte u m v e)

    go : (w : List ℕ) → t ≡ w ++ 0x0A ∷ [] → ⊥
    go w whole =
        let at : length a + length w ≡ length u = omega (arith, ap length whole, length-append w (0x0A ∷ [])) in
        let lf : get_or s (length a + length w) 0 ≡ 0x0A = ap (λ (l : List ℕ). get_or l (length a + length w) 0) (there ∙ ap (λ (l : List ℕ). a ++ (l ++ b)) whole) ∙ last_byte a w b in
        omega (arith, lf, colon, ap (λ (n : ℕ). get_or s n 0) at)

pub ascii_once : (i : ℕ) (s : List ℕ) (y : Yield) → Reads ascii i s y → (u m v : List ℕ) → s ≡ u ++ (m ++ v) → ascii.formed m ≡ true → Once (i + length u) m y.taken
ascii_once i s y r u m v split e = ⊎_elim (λ o. o) (λ l. absurd (no_last l)) (ascii_stream_lem.taken_once i s y r u m v split e)
  where
    no_last : LastOf (i + length u) y.taken → ⊥
    no_last (t, among, behind) =
        let (f, (a, b, there, place)) = ascii_stream_lem.taken_there i s y r t among in
        no_overlap s u m v a t.bytes b split e there f (omega (arith, behind, place))
