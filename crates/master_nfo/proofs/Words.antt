-- Lists by their places; and four characters that are read as a word spell it. Assumes nothing.
use Rattle.std.proofs.Common.{Option, Some, None}
use mathlib.Core.Path.{◌≡◌, refl, ap, ◌∙◌}
use mathlib.Core.List.{List, [], ◌∷◌}
use Prim.Native.Nat.{ℕ, zero, suc, ◌+◌, ◌*◌, ◌/◌, ◌%◌, ◌<◌}
use native.Mathlib.Omega.{arith}
use lib.ListN.{length, get_or}
use Rattle.hex_pairs.specs.Hex.{capitals, pair_value, hex_of}
use Rattle.hex_pairs.proofs.RoundTrip.{digits_pair, pair_below}
use Rattle.nfo_parts.specs.Parts.{word_in, value_at}
use Rattle.nfo_parts.specs.Replies.{digits_of, Spells}

-- what follows where two constructors would be equal, of which `cc` makes 0 ≡ 1
pub never : {A : Type 0} → ◌≡◌ {A = ℕ} 0 1 → A
never z = absurd (omega arith)

-- ---- a list by its places
abbrev pub places : ℕ → (ℕ → ℕ) → List ℕ
places zero f = []
places (suc n) f = f 0 ∷ places n (λ (i : ℕ). f (suc i))

by_places : (s : List ℕ) → s ≡ places (length s) (λ (i : ℕ). get_or s i 0)
by_places [] = refl
by_places (x ∷ s) = ap (λ (t : List ℕ). x ∷ t) (by_places s)

pub placed : (s : List ℕ) (n : ℕ) → length s ≡ n → s ≡ places n (λ (i : ℕ). get_or s i 0)
placed s n l = by_places s ∙ ap (λ (k : ℕ). places k (λ (i : ℕ). get_or s i 0)) l

-- ---- words
-- the four characters from a place on
abbrev pub characters_at : ℕ → List ℕ → List ℕ
characters_at i s = get_or s i 0 ∷ get_or s (i + 1) 0 ∷ get_or s (i + 2) 0 ∷ get_or s (i + 3) 0 ∷ []

pub value_spelt : (s : List ℕ) (i w : ℕ) → value_at i s ≡ Some w → (w < 65536) × Spells (characters_at i s) w
unfolding value_at digits_of hex_of capitals
value_spelt s i w = go (pair_value (get_or s i 0) (get_or s (i + 1) 0)) (pair_value (get_or s (i + 2) 0) (get_or s (i + 3) 0)) refl refl
  where
    go : (x y : Option ℕ) → pair_value (get_or s i 0) (get_or s (i + 1) 0) ≡ x → pair_value (get_or s (i + 2) 0) (get_or s (i + 3) 0) ≡ y → word_in x y ≡ Some w
        → (w < 65536) × Spells (characters_at i s) w
    go (Some h) (Some l) p q e =
        let k : 256 * h + l ≡ w = cc in
        let a = pair_below (get_or s i 0) (get_or s (i + 1) 0) h p in
        let b = pair_below (get_or s (i + 2) 0) (get_or s (i + 3) 0) l q in
        let high : h ≡ w / 256 = omega arith in
        let low : l ≡ w % 256 = omega arith in
        let m = digits_pair (get_or s i 0) (get_or s (i + 1) 0) h p in
        let n = digits_pair (get_or s (i + 2) 0) (get_or s (i + 3) 0) l q in
        (omega arith, cc)
    go (Some h) None p q e = never (cc)
    go None y p q e = never (cc)
