-- What a chain over the pairs of digits gives: the bytes that they spell, up to the first that spells none. Assumes nothing.
use Rattle.std.proofs.Common.{◌≡◌, ℕ, zero, suc, ◌+◌, ◌/◌, ◌%◌, ◌^◌, ◌<◌, ◌≤◌, true, List, [], ◌∷◌, length, get_or, sym, refl, ap, ◌∙◌, subst, add-zero, zero-add, arith, Option, Some, None}
use Rattle.std.specs.Iterator.Runs.{Run, ItemsMapTo, IsMapWhileRun, CallKeepsClosure}
use Rattle.std.specs.List.{HoldsAt, fold}
use Rattle.std.specs.Option.{IfSome, IsSomeAnd, MatchOption, option_map}
use Rattle.std.specs.Simd.{first_chunks}
use denote.Ref.{Bor}
use denote.Param.Members.{Mut, Called}
use mathlib.Core.List.{foldl}
use Rattle.checks.specs.Lrc.{add_byte, sum_of}
use Rattle.ascii_scan.specs.declared.pairs.Pairs.{Pairs}
use Rattle.ascii_scan.specs.Pairs.{pairs_of}
use Rattle.hex_pairs.specs.Hex.{pair_value, spelt, bytes_of}
use Rattle.hex_pairs.proofs.RoundTrip.{length_bytes}

-- what a pair of characters spells, and pairs one after the other
abbrev pub byte_in : List ℕ → Option ℕ
byte_in pair = pair_value (get_or pair 0 0) (get_or pair 1 0)

abbrev pub spelt_in : List (List ℕ) → List ℕ
spelt_in [] = []
spelt_in (c ∷ cs) = spelt (byte_in c) (spelt_in cs)

-- a text's pairs spell its bytes
pairs_spell : (t : List ℕ) (k : ℕ) → k ≡ length t / 2 → spelt_in (first_chunks 2 k t) ≡ bytes_of t
unfolding bytes_of
pairs_spell [] k h = ap (λ (n : ℕ). spelt_in (first_chunks 2 n [])) h
pairs_spell (x ∷ []) k h = let z : k ≡ 0 = omega arith in ap (λ (n : ℕ). spelt_in (first_chunks 2 n (x ∷ []))) z
pairs_spell (x ∷ y ∷ t) zero h = absurd (omega arith)
pairs_spell (x ∷ y ∷ t) (suc k) h = ap (spelt (pair_value x y)) (pairs_spell t k (omega arith))

-- the bytes ys, place by place, where the pair behind them spells none or is none
spelt_by : (cs : List (List ℕ)) (ys : List ℕ) → length ys ≤ length cs → ((k : ℕ) → k < length ys → byte_in (get_or cs k []) ≡ Some (get_or ys k 0))
    → (length ys < length cs → byte_in (get_or cs (length ys) []) ≡ None) → ys ≡ spelt_in cs
spelt_by [] [] w each last = refl
spelt_by [] (y ∷ ys) w each last = absurd (omega arith)
spelt_by (c ∷ cs) [] w each last = sym (ap (λ (o : Option ℕ). spelt o (spelt_in cs)) (last (omega arith)))
spelt_by (c ∷ cs) (y ∷ ys) w each last =
    ap (λ (s : List ℕ). y ∷ s) (spelt_by cs ys (omega arith) (λ k h. each (suc k) (omega arith)) (λ h. last (omega arith)))
    ∙ sym (ap (λ (o : Option ℕ). spelt o (spelt_in cs)) (each 0 (omega arith)))

module _ {S T F : Type 0} {steps : S → Option ℕ → S → Type 0} {source : T → Option (Bor (List ℕ)) → T → Type 0}
    (g : Mut F (Bor (List ℕ) × Unit {0}) (Option ℕ)) (f : F) (p : Run steps) (q : Run source) (cs : List (List ℕ))
    (m : IsMapWhileRun p q g f) (all : ItemsMapTo q (λ y. y.now) cs) (whole : p.whole ≡ true) (keeps : CallKeepsClosure g f)
    (calls : (x : Bor (List ℕ)) (o : Option ℕ) (f' : F) → Called g f (x, tt) o f' → o ≡ byte_in x.now) where
  -- the item at a place, of the bytes and of the pairs
  item_at : (k : ℕ) → k < p.len → p.at k ≡ Some (get_or p.items k 0)
  item_at k h = go (p.at k) (p.reads k 0 h)
    where
      go : (o : Option ℕ) → option_map (λ y. y) o ≡ Some (get_or p.items k 0) → o ≡ Some (get_or p.items k 0)
      go None e = e
      go (Some y) e = e

  pair_of : (k : ℕ) (x : Bor (List ℕ)) → q.at k ≡ Some x → x.now ≡ get_or cs k []
  pair_of k x e = (subst (λ (o : Option (Bor (List ℕ))). IfSome o (λ y. HoldsAt (λ z. y.now ≡ z) cs k)) e (all.3 k)) []

  each : (k : ℕ) → k < length p.items → byte_in (get_or cs k []) ≡ Some (get_or p.items k 0)
  each k h = go (q.at k) refl (subst (λ (o : Option ℕ). IfSome o (λ y. IsSomeAnd (q.at k) (λ x. Called g f (x, tt) (Some y) f))) (item_at k (omega (arith, p.long))) ((m.1 keeps).0 k))
    where
      go : (o : Option (Bor (List ℕ))) → q.at k ≡ o → IsSomeAnd o (λ x. Called g f (x, tt) (Some (get_or p.items k 0)) f) → byte_in (get_or cs k []) ≡ Some (get_or p.items k 0)
      go None e c = absurd c
      go (Some x) e c = ap byte_in (sym (pair_of k x e)) ∙ sym (calls x (Some (get_or p.items k 0)) f c)

  last : length p.items < length cs → byte_in (get_or cs (length p.items) []) ≡ None
  last h = subst (λ (n : ℕ). byte_in (get_or cs n []) ≡ None) p.long (go (q.at p.len) refl (m.0.2 whole))
    where
      go : (o : Option (Bor (List ℕ))) → q.at p.len ≡ o
          → MatchOption o ((q.whole ≡ true) × (q.len ≡ p.len)) (λ x. CallKeepsClosure g f → (f' : F) × Called g f (x, tt) None f') → byte_in (get_or cs p.len []) ≡ None
      go None e c = let w : q.len ≡ length cs = all.1 c.0 in absurd (omega (arith, p.long, c.1))
      go (Some x) e c = let d = c keeps in ap byte_in (sym (pair_of p.len x e)) ∙ sym (calls x None d.0 d.1)

  pub mapped : p.items ≡ spelt_in cs
  mapped = spelt_by cs p.items (omega (arith, p.long, m.0.0, all.0)) each last

-- ---- `add_pairs`: the bytes counted and added
-- one byte more, as the code counts it
abbrev pub counted_in : Pairs → ℕ → Pairs
counted_in r b = record { count = (r.count + 1) % 2 ^ 64; sum = add_byte r.sum b }

tallied : (bytes : List ℕ) (n s : ℕ) → n + length bytes < 2 ^ 64 → fold counted_in (record { count = n; sum = s }) bytes ≡ record { count = n + length bytes; sum = foldl add_byte s bytes }
tallied [] n s h = rw (add-zero n)
tallied (b ∷ bytes) n s h =
    let one : (n + 1) % 2 ^ 64 ≡ n + 1 = omega arith in
    let more : n + 1 + length bytes ≡ n + length (b ∷ bytes) = omega arith in
    ap (λ (m : ℕ). fold counted_in (record { count = m; sum = add_byte s b }) bytes) one
    ∙ tallied bytes (n + 1) (add_byte s b) (omega arith)
    ∙ ap (λ (m : ℕ). record { count = m; sum = foldl add_byte (add_byte s b) bytes }) more

pub added : (r : Pairs) (t items : List ℕ) (cs : List (List ℕ)) → length t < 2 ^ 64 → cs ≡ first_chunks 2 (length t / 2) t → items ≡ spelt_in cs
    → r ≡ fold counted_in (record { count = 0; sum = 0 }) items → r ≡ pairs_of (bytes_of t)
unfolding pairs_of sum_of
added r t items cs few all e run =
    let is : items ≡ bytes_of t = e ∙ ap spelt_in all ∙ pairs_spell t (length t / 2) refl in
    run ∙ ap (fold counted_in (record { count = 0; sum = 0 })) is ∙ tallied (bytes_of t) 0 0 (omega (arith, length_bytes t)) ∙ ap (λ (n : ℕ). record { count = n; sum = foldl add_byte 0 (bytes_of t) }) (zero-add (length (bytes_of t)))
