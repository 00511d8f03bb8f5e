-- What a word spells, by the tests that the code makes. Assumes nothing.
use Rattle.std.proofs.Common.{◌≡◌, ℕ, ◌*◌, ◌<◌, ◌≤◌, Bool, true, false, eqb, List, [], ◌∷◌, length, sym, refl, ◌∙◌, arith, eq-eqb, le-ltb, lt-ltb, Some, None}
use Rattle.std.specs.List.{list_all}
use borrow.Author.Tests.{ne_eqb}
use lib.Pointwise.{pointwise}
use mathlib.Core.Bool.{◌&&◌}
use Rattle.base.specs.Choice.{both}
use Rattle.base.specs.Bytes.{same}
use Rattle.hex_pairs.specs.Hex.{capital_of, capitals, bytes_of}
use Rattle.bench_words.specs.Spelling.{in_capitals, bytes_spelt, spelling_of}

-- the code's `==` tells whether two lists are the same
pointwise_same : (s t : List ℕ) → pointwise eqb s t ≡ same s t
unfolding same
pointwise_same [] [] = refl
pointwise_same [] (y ∷ t) = refl
pointwise_same (x ∷ s) [] = refl
pointwise_same (x ∷ s) (y ∷ t) = go (eqb x y) (pointwise_same s t)
  where
    go : (b : Bool) → pointwise eqb s t ≡ same s t → (b && pointwise eqb s t) ≡ both b (same s t)
    go true e = e
    go false e = refl

-- its `all`
pub all_capitals : (word : List ℕ) → list_all (λ c. eqb (capital_of c) c) word ≡ in_capitals word
unfolding in_capitals same capitals
all_capitals [] = refl
all_capitals (c ∷ t) = go (eqb (capital_of c) c) (all_capitals t)
  where
    go : (b : Bool) → list_all (λ x. eqb (capital_of x) x) t ≡ same (capitals t) t → (b && list_all (λ x. eqb (capital_of x) x) t) ≡ both b (same (capitals t) t)
    go true e = e
    go false e = refl

-- ---- `-`
module _ (word : List ℕ) (yes : pointwise eqb word (0x2D ∷ []) ≡ true) where
  dash : same word (0x2D ∷ []) ≡ true
  dash = sym (pointwise_same word (0x2D ∷ [])) ∙ yes

  pub dash_number : (room : ℕ) → spelling_of word room ≡ Some 0
  unfolding spelling_of
  dash_number room = simp dash

  pub dash_bytes : bytes_spelt word ≡ []
  unfolding bytes_spelt
  dash_bytes = simp dash

-- ---- any other word
module _ (word : List ℕ) (no : pointwise eqb word (0x2D ∷ []) ≡ false) where
  other : same word (0x2D ∷ []) ≡ false
  other = sym (pointwise_same word (0x2D ∷ [])) ∙ no

  pub small_number : (room : ℕ) → in_capitals word ≡ false → spelling_of word room ≡ None
  unfolding spelling_of
  small_number room small = simp (other, small)

  pub small_bytes : in_capitals word ≡ false → bytes_spelt word ≡ []
  unfolding bytes_spelt
  small_bytes small = simp (other, small)

  pub capital_bytes : in_capitals word ≡ true → bytes_spelt word ≡ bytes_of word
  unfolding bytes_spelt
  capital_bytes capital = simp (other, capital)

  pub none_number : (room : ℕ) → in_capitals word ≡ true → length (bytes_of word) ≡ 0 → spelling_of word room ≡ None
  unfolding spelling_of
  none_number room capital z = simp (other, capital, z)

  pub many_number : (room : ℕ) → in_capitals word ≡ true → room < length (bytes_of word) → spelling_of word room ≡ None
  unfolding spelling_of
  many_number room capital h = simp (other, capital, ne_eqb (length (bytes_of word)) 0 (λ z. absurd (omega arith)), lt-ltb room (length (bytes_of word)) h)

  module _ (room : ℕ) (capital : in_capitals word ≡ true) (some : 0 < length (bytes_of word)) (fits : length (bytes_of word) ≤ room) where
    pub spoilt_number : (2 * length (bytes_of word) ≡ length word → ⊥) → spelling_of word room ≡ None
    unfolding spelling_of
    spoilt_number odd =
        simp (
          other,
          capital,
          ne_eqb (length (bytes_of word)) 0 (λ z. absurd (omega arith)),
          le-ltb room (length (bytes_of word)) fits,
          ne_eqb (2 * length (bytes_of word)) (length word) odd,
        )

    pub whole_number : 2 * length (bytes_of word) ≡ length word → spelling_of word room ≡ Some (length (bytes_of word))
    unfolding spelling_of
    whole_number even =
        simp (
          other,
          capital,
          ne_eqb (length (bytes_of word)) 0 (λ z. absurd (omega arith)),
          le-ltb room (length (bytes_of word)) fits,
          eq-eqb (2 * length (bytes_of word)) (length word) even,
        )

-- what the tests of `spelt` show
pub ruleset spells = (dash_number, dash_bytes, small_number, small_bytes, capital_bytes, none_number, many_number, spoilt_number, whole_number)
