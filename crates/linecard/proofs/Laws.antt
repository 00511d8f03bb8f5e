-- Where register data lies in a frame. Assumes nothing.
use mathlib.Core.Path.{◌≡◌, ap, sym, ◌∙◌}
use mathlib.Core.List.{List, [], ◌∷◌}
use Prim.Native.Nat.{ℕ, ◌-◌, ◌≤◌}
use native.Mathlib.Omega.{arith}
use lib.ListN.{length, take, drop, length-drop}
use lib.Seq.{length-take-le}
use Rattle.modbus.specs.declared.requests.Span.{Span}
use Rattle.rtu.specs.Rtu.{register_span, register_data}
use Rattle.rtu.proofs.Frames.{Within, told_within, data_told}
use Rattle.linecard.specs.Told.{place_of}

pub length_told : (f : List ℕ) (s : Span) → s ≡ register_span f → s.from ≤ s.to
length_told f s e = (told_within f s e).0

part_length : (f : List ℕ) (s : Span) → Within (length f) s → length (take (s.to - s.from) (drop s.from f)) ≡ s.to - s.from
part_length f s w = length-take-le (s.to - s.from) (drop s.from f) (omega (arith, length-drop s.from f, w.0, w.1))

pub place_told : (f : List ℕ) (s : Span) → s ≡ register_span f → s.from ∷ (s.to - s.from) ∷ [] ≡ place_of f
place_told f s e =
    ap (λ (n : ℕ). s.from ∷ n ∷ []) (sym (part_length f s (told_within f s e)) ∙ ap length (data_told f s e))
    ∙ ap (λ (t : Span). t.from ∷ length (register_data f) ∷ []) e

pub part_told : (f : List ℕ) (s : Span) → s ≡ register_span f → take (s.to - s.from) (drop s.from f) ≡ register_data f
part_told f s e = data_told f s e
