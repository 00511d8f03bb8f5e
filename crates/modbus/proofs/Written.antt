-- What the writer of a card's identity stores: each object that is asked for, one after the other, and the parts that are told. Assumes nothing.
use mathlib.Core.Path.{◌≡◌, refl, sym, ap, ap₂, ◌∙◌}
use mathlib.Core.Logic.{◌⊎◌, inl, inr}
use mathlib.Core.List.{List, [], ◌∷◌, ◌++◌, append-nil, map}
use Prim.Native.Nat.{ℕ, ◌+◌, ◌≤◌, ◌<◌}
use native.Mathlib.Numerals.{add-one}
use native.Mathlib.Omega.{arith}
use denote.Bor.{Bor}
use borrow.Author.Tests.{lt-leb, le-leb}
use lib.ListN.{length, take, drop, get_or, get_or-map, length-append}
use lib.Seq.{sets, take-suc, take_all}
use Rattle.base.proofs.Sets.{sets_append}
use Rattle.identity.specs.Identity.{Identity, Object, object, objects, serial, chosen, listed, objects_unit, part_unit}
use Rattle.identity.specs.declared.Part.{Part}
use Rattle.identity.specs.declared.Part.TheVariants.{Objects, Serial}
use Rattle.modbus.proofs.Objects.{told, told_append, told_room, object_number}
use Rattle.modbus.proofs.Copying.{case_count, case_stores}

-- ---- one object, or nothing of it
module _ (first last n : ℕ) (text : List ℕ) where
  abbrev pub Outside : Type 0
  Outside = (n < first) ⊎ ((first ≤ n) × (last < n))

  outside : Outside → told first last (object n text ∷ []) ≡ []
  unfolding chosen listed
  outside (inl h) = simp (lt-leb first n h)
  outside (inr h) = simp (le-leb first n h.0, lt-leb n last h.1)

  here : first ≤ n → n ≤ last → told first last (object n text ∷ []) ≡ n ∷ length text ∷ text
  unfolding chosen listed
  here h k = simp (le-leb first n h, le-leb n last k, append-nil)

  pub outside_behind : (at : ℕ) → Outside → at ≡ at + length (told first last (object n text ∷ []))
  outside_behind at h = rw (outside h) (omega arith)

  pub outside_lent : (out : List ℕ) (at : ℕ) → Outside → out ≡ sets out at (told first last (object n text ∷ []))
  outside_lent out at h = rw (outside h)

  pub here_behind : (at body r : ℕ) → first ≤ n → n ≤ last → body ≡ at + 2 → r ≡ body + length text → r ≡ at + length (told first last (object n text ∷ []))
  here_behind at body r h k e g = rw (here h k) (omega arith)

  pub here_lent : (out one two : List ℕ) (at body : ℕ) → first ≤ n → n ≤ last → body ≡ at + 2 → one ≡ sets out at (n ∷ length text ∷ []) → two ≡ sets one body text
      → two ≡ sets out at (told first last (object n text ∷ []))
  here_lent out one two at body h k p e g = rw (here h k, g, p, e) (sym (sets_append (n ∷ length text ∷ []) text out at))

-- ---- one after the other, behind the seven bytes
none : Object
none = object 0 []

-- those before k stand there
pub record Listing (first last : ℕ) (i : Identity) (out₀ out : List ℕ) (at k : ℕ) : Type 0 where
  pub passed : k ≤ 7
  pub behind : at ≡ 7 + length (told first last (take k (objects i)))
  pub stored : out ≡ sets out₀ 7 (told first last (take k (objects i)))

pub list_starts : (first last : ℕ) (i : Identity) (out : List ℕ) (at : ℕ) → at ≡ 7 → Listing first last i out out at 0
unfolding chosen listed
list_starts first last i out at h = record { passed = omega arith; behind = h; stored = refl }

-- the texts are the objects' own, in their order
abbrev pub Texts : List (Bor (List ℕ)) → Identity → Type 0
Texts texts i = map (λ (t : Bor (List ℕ)). t.now) texts ≡ map (λ (o : Object). o.text) (objects i)

module _ (first last k : ℕ) (i : Identity) (texts : List (Bor (List ℕ))) (empty : Bor (List ℕ)) (same : Texts texts i) (e : empty.now ≡ []) (h : k < 7) where
  abbrev pub text : List ℕ
  text = (get_or texts k empty).now

  text_at : (get_or (objects i) k none).text ≡ text
  unfolding none
  text_at =
      sym (get_or-map (λ (o : Object). o.text) (objects i) k none)
      ∙ ap₂ (λ (l : List (List ℕ)) (d : List ℕ). get_or l k d) (sym same) (sym e)
      ∙ get_or-map (λ (t : Bor (List ℕ)). t.now) texts k empty

  next : told first last (take (k + 1) (objects i)) ≡ told first last (take k (objects i)) ++ told first last (object k text ∷ [])
  next =
      let one : get_or (objects i) k none ≡ object k text = ap₂ object (object_number k i none h) text_at in
      rw (add-one, take-suc (objects i) k none h, one) (told_append first last (take k (objects i)) (object k text ∷ []))

  module _ (out₀ out : List ℕ) (at : ℕ) (l : Listing first last i out₀ out at k) where
    pub list_room : at + 2 + length text ≤ 255
    list_room = omega (arith, l.behind, told_room first last k i none h, ap length text_at)

    pub list_again : (now : List ℕ) (behind : ℕ) → behind ≡ at + length (told first last (object k text ∷ [])) → now ≡ sets out at (told first last (object k text ∷ []))
        → Listing first last i out₀ now behind (k + 1)
    list_again now behind p q =
        let before : List ℕ = told first last (take k (objects i)) in
        let this : List ℕ = told first last (object k text ∷ []) in
        record {
          passed = omega arith;
          behind = omega (arith, l.behind, ap length next, length-append before this);
          stored = rw (q, l.stored, l.behind, next) (sym (sets_append before this out₀ 7));
        }

-- ---- the parts
-- 43: seven bytes, and all objects
module _ (i : Identity) (code first last n k : ℕ) (out one two : List ℕ) (at : ℕ)
    (c : (j : Identity) → n ≡ length (chosen first last (objects j)))
    (x : one ≡ sets out 0 (0x2B ∷ 0x0E ∷ code ∷ 0x82 ∷ 0x00 ∷ 0x00 ∷ n ∷ [])) (l : Listing first last i one two at k) (h : 7 ≤ k) where
  all : told first last (take k (objects i)) ≡ told first last (objects i)
  all = ap (told first last) (take_all k (objects i) h)

  pub objects_behind : at ≡ length (part_unit i (Objects code first last))
  unfolding part_unit objects_unit
  objects_behind = omega (arith, l.behind, ap length all)

  pub objects_lent : two ≡ sets out 0 (part_unit i (Objects code first last))
  unfolding part_unit objects_unit
  objects_lent =
      let head : List ℕ = 0x2B ∷ 0x0E ∷ code ∷ 0x82 ∷ 0x00 ∷ 0x00 ∷ n ∷ [] in
      rw (l.stored, all, ← (c i), x) (sym (sets_append head (told first last (objects i)) out 0))

-- 17: two bytes, and the serial number
module _ (i : Identity) (out one two : List ℕ) (a r : ℕ)
    (x : one ≡ sets out 0 (0x11 ∷ 0x10 ∷ [])) (h : a ≡ 2) (y : two ≡ sets one a (take 16 (drop 25 i))) (k : r ≡ a + length (take 16 (drop 25 i))) where
  pub serial_behind : r ≡ length (part_unit i Serial)
  unfolding part_unit serial
  serial_behind = omega arith

  pub serial_lent : two ≡ sets out 0 (part_unit i Serial)
  unfolding part_unit serial
  serial_lent = rw (y, h, x) (sym (sets_append (0x11 ∷ 0x10 ∷ []) (take 16 (drop 25 i)) out 0))

-- in the case k
pub part_count : (i : Identity) (part k : Part) (n : ℕ) → part ≡ k → n ≡ length (part_unit i k) → n ≡ length (part_unit i part)
part_count i = case_count (part_unit i)

pub part_stores : (i : Identity) (part k : Part) (before now : List ℕ) → part ≡ k → now ≡ sets before 0 (part_unit i k) → now ≡ sets before 0 (part_unit i part)
part_stores i = case_stores (part_unit i)
