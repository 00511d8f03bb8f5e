-- A card's objects: how many are asked for, how long they are as bytes, and that these are bytes. Assumes nothing.
use mathlib.Core.Path.{◌≡◌, refl, sym, ap, ◌∙◌}
use mathlib.Core.Bool.{Bool, true, false}
use mathlib.Core.List.{List, [], ◌∷◌, ◌++◌, append_assoc}
use Prim.Native.Nat.{ℕ, zero, suc, ◌+◌, ◌-◌, ◌≤◌, ◌<◌, min, max}
use native.Mathlib.Omega.{arith}
use borrow.Author.Tests.{leb-true, leb-false}
use lib.Dec.{leb}
use lib.ListN.{length, take, drop, get_or, length-append, length-take}
use Rattle.base.specs.Choice.{pick, both}
use Rattle.base.specs.Bytes.{AllBelow, Bytes}
use Rattle.base.proofs.Lists.{below_append, below_take, below_drop}
use Rattle.identity.specs.Identity.{Identity, Object, object, objects, revision, model, within, chosen, written, listed}

-- the bytes of those that are asked for
abbrev pub told : (first last : ℕ) → List Object → List ℕ
told first last os = listed (chosen first last os)

-- ---- one after the other
listed_append : (os ps : List Object) → listed (os ++ ps) ≡ listed os ++ listed ps
unfolding listed
listed_append [] ps = refl
listed_append (o ∷ os) ps = ap (λ (l : List ℕ). written o ++ l) (listed_append os ps) ∙ sym (append_assoc (written o) (listed os) (listed ps))

chosen_append : (first last : ℕ) (os ps : List Object) → chosen first last (os ++ ps) ≡ chosen first last os ++ chosen first last ps
unfolding chosen
chosen_append first last [] ps = refl
chosen_append first last (o ∷ os) ps = go (within first last o) (chosen first last os) (chosen first last ps) (chosen_append first last os ps)
  where
    go : (t : Bool) (v w : List Object) {x : List Object} → x ≡ v ++ w → pick t (o ∷ x) x ≡ pick t (o ∷ v) v ++ w
    go true v w e = ap (λ (l : List Object). o ∷ l) e
    go false v w e = e

pub told_append : (first last : ℕ) (os ps : List Object) → told first last (os ++ ps) ≡ told first last os ++ told first last ps
told_append first last os ps = ap listed (chosen_append first last os ps) ∙ listed_append (chosen first last os) (chosen first last ps)

-- ---- how many
-- numbered one by one from k on
abbrev Numbered : ℕ → List Object → Type 0
Numbered k [] = Unit {0}
Numbered k (o ∷ os) = (o.number ≡ k) × Numbered (suc k) os

chosen_count : (first last k : ℕ) (os : List Object) → Numbered k os → length (chosen first last os) ≡ min (suc last) (k + length os) - max first k
unfolding chosen
chosen_count first last k [] h = omega arith
chosen_count first last k (o ∷ os) h = go (leb first o.number) refl (leb o.number last) refl (chosen_count first last (suc k) os h.1)
  where
    go : (s : Bool) → leb first o.number ≡ s → (t : Bool) → leb o.number last ≡ t → length (chosen first last os) ≡ min (suc last) (suc k + length os) - max first (suc k)
        → length (pick (both s t) (o ∷ chosen first last os) (chosen first last os)) ≡ min (suc last) (k + suc (length os)) - max first k
    go false e t g ih = omega (arith, leb-false first o.number e, h.0)
    go true e false g ih = omega (arith, leb-false o.number last g, h.0)
    go true e true g ih = omega (arith, leb-true first o.number e, leb-true o.number last g, h.0)

pub objects_count : (first last : ℕ) (i : Identity) → length (chosen first last (objects i)) ≡ min (suc last) 7 - first
objects_count first last i = omega (arith, chosen_count first last 0 (objects i) (refl, (refl, (refl, (refl, (refl, (refl, (refl, tt))))))))

-- the number at a place
numbered_at : (k j : ℕ) (os : List Object) (d : Object) → Numbered k os → j < length os → (get_or os j d).number ≡ k + j
numbered_at k j [] d n h = absurd (omega arith)
numbered_at k zero (o ∷ os) d n h = omega (arith, n.0)
numbered_at k (suc j) (o ∷ os) d n h = omega (arith, numbered_at (suc k) j os d n.1 (omega arith))

pub object_number : (k : ℕ) (i : Identity) (d : Object) → k < 7 → (get_or (objects i) k d).number ≡ k
object_number k i d h = omega (arith, numbered_at 0 k (objects i) d (refl, (refl, (refl, (refl, (refl, (refl, (refl, tt))))))) h)

-- ---- how long
-- two bytes for each, and its text
abbrev lengths : List Object → ℕ
lengths [] = 0
lengths (o ∷ os) = 2 + length o.text + lengths os

listed_length : (os : List Object) → length (listed os) ≡ lengths os
unfolding listed
listed_length [] = refl
listed_length (o ∷ os) = omega (arith, length-append o.text (listed os), listed_length os)

-- those that are asked for are no longer than all
chosen_less : (first last : ℕ) (os : List Object) → lengths (chosen first last os) ≤ lengths os
unfolding chosen
chosen_less first last [] = omega arith
chosen_less first last (o ∷ os) = go (within first last o) (chosen_less first last os)
  where
    go : (t : Bool) → lengths (chosen first last os) ≤ lengths os → lengths (pick t (o ∷ chosen first last os) (chosen first last os)) ≤ lengths (o ∷ os)
    go true h = omega arith
    go false h = omega arith

told_less : (first last : ℕ) (os : List Object) → length (told first last os) ≤ lengths os
told_less first last os = omega (arith, listed_length (chosen first last os), chosen_less first last os)

-- "the revision 17 characters, the model 8": 17, 17, 9 and 8 of text
objects_short : (i : Identity) → lengths (objects i) ≤ 65
unfolding revision model
objects_short i = omega (arith, length-take 17 i, length-take 8 (drop 17 i))

pub told_short : (first last : ℕ) (i : Identity) → length (told first last (objects i)) ≤ 65
told_short first last i = omega (arith, told_less first last (objects i), objects_short i)

-- those before a place, and the one there
lengths_step : (os : List Object) (k : ℕ) (d : Object) → k < length os → lengths (take k os) + 2 + length (get_or os k d).text ≤ lengths os
lengths_step [] k d h = absurd (omega arith)
lengths_step (o ∷ os) zero d h = omega arith
lengths_step (o ∷ os) (suc k) d h = let ih : lengths (take k os) + 2 + length (get_or os k d).text ≤ lengths os = lengths_step os k d (omega arith) in omega (arith, ih)

pub told_room : (first last k : ℕ) (i : Identity) (d : Object) → k < 7 → length (told first last (take k (objects i))) + 2 + length (get_or (objects i) k d).text ≤ 65
told_room first last k i d h = omega (arith, told_less first last (take k (objects i)), lengths_step (objects i) k d h, objects_short i)

-- ---- bytes
-- an object whose number and length are bytes, as its text is
abbrev InByte : Object → Type 0
InByte o = (o.number < 256) × (length o.text < 256) × Bytes o.text

abbrev InBytes : List Object → Type 0
InBytes [] = Unit {0}
InBytes (o ∷ os) = InByte o × InBytes os

listed_below : (os : List Object) → InBytes os → Bytes (listed os)
unfolding listed AllBelow
listed_below [] h = tt
listed_below (o ∷ os) h = (h.0.0, (h.0.1, below_append 256 o.text (listed os) h.0.2 (listed_below os h.1)))

chosen_below : (first last : ℕ) (os : List Object) → InBytes os → InBytes (chosen first last os)
unfolding chosen
chosen_below first last [] h = tt
chosen_below first last (o ∷ os) h = go (within first last o) (chosen_below first last os h.1)
  where
    go : (t : Bool) → InBytes (chosen first last os) → InBytes (pick t (o ∷ chosen first last os) (chosen first last os))
    go true k = (h.0, k)
    go false k = k

objects_below : (i : Identity) → Bytes i → InBytes (objects i)
unfolding revision model AllBelow
objects_below i h =
    let revision-in : InByte (object 0x02 (revision i)) = (omega arith, omega (arith, length-take 17 i), below_take 256 17 i h) in
    let model_in : InByte (object 0x05 (model i)) = (omega arith, omega (arith, length-take 8 (drop 17 i)), below_take 256 8 (drop 17 i) (below_drop 256 17 i h)) in
    (omega arith, (omega arith, (revision-in, (omega arith, (omega arith, (model_in, (omega arith, tt)))))))

pub told_below : (first last : ℕ) (i : Identity) → Bytes i → Bytes (told first last (objects i))
told_below first last i h = listed_below (chosen first last (objects i)) (chosen_below first last (objects i) (objects_below i h))
