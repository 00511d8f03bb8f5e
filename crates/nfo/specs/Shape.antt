-- Messages of fixed shape: a kind of byte for each place. Assumes nothing.
use Rattle.std.specs.Prelude.{Bool, true, false, List, [], ◌∷◌, ℕ, eqb, leb}
use Rattle.base.specs.Choice.{both}

-- a place holds this byte; or any of 20h to 7Fh; or anything
pub data Kind : Type 0 where
  byte : ℕ → Kind
  text : Kind
  any : Kind

-- x is of the kind
abbrev pub fits : Kind → ℕ → Bool
fits (byte c) x = eqb x c
fits text x = both (leb 0x20 x) (leb x 0x7F)
fits any x = true

-- the bytes have the shape
unfoldable pub whole : List Kind → List ℕ → Bool
whole [] [] = true
whole [] (x ∷ xs) = false
whole (k ∷ ks) [] = false
whole (k ∷ ks) (x ∷ xs) = both (fits k x) (whole ks xs)

-- the bytes are fewer, and have the shape so far
unfoldable pub part : List Kind → List ℕ → Bool
part [] xs = false
part (k ∷ ks) [] = true
part (k ∷ ks) (x ∷ xs) = both (fits k x) (part ks xs)
