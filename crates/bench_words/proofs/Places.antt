-- The words of a line are the parts between its spaces. Assumes nothing.
use Rattle.std.proofs.Common.{◌≡◌, ℕ, zero, suc, Bool, true, false, eqb, List, [], ◌∷◌, get_or, refl, ap, ◌∙◌, cond, Option, Some, None}
use Rattle.std.specs.List.{slice_split, onto_first}
use Rattle.std.specs.List.{slice_get}
use Rattle.std.specs.Option.{option_map, unwrap_or}
use Rattle.std.proofs.lemmas.Option.{unwrap_or-slice_get}
use denote.Ref.{Bor}
use Rattle.base.specs.Choice.{pick}
use Rattle.bench_words.specs.Words.{behind_spaces, up_to_space, word_at}

abbrev pub space : ℕ → Bool
space c = eqb c 0x20

abbrev pub parts : List ℕ → List (List ℕ)
parts line = slice_split space line

-- ---- word k is part k
onto_later : (c k : ℕ) (s : List (List ℕ)) → get_or (onto_first c s) (suc k) [] ≡ get_or s (suc k) []
onto_later c k [] = refl
onto_later c k (x ∷ s) = refl

onto_now : (c : ℕ) (s : List (List ℕ)) → get_or (onto_first c s) 0 [] ≡ c ∷ get_or s 0 []
onto_now c [] = refl
onto_now c (x ∷ s) = refl

pub part_word : (k : ℕ) (line : List ℕ) → get_or (parts line) k [] ≡ word_at k line
unfolding word_at behind_spaces up_to_space
part_word zero [] = refl
part_word (suc k) [] = refl
part_word zero (c ∷ t) = go (space c) (part_word zero t)
  where
    go : (b : Bool) → get_or (parts t) 0 [] ≡ up_to_space t → get_or (cond b ([] ∷ parts t) (onto_first c (parts t))) 0 [] ≡ pick b [] (c ∷ up_to_space t)
    go true e = refl
    go false e = onto_now c (parts t) ∙ ap (λ (l : List ℕ). c ∷ l) e
part_word (suc k) (c ∷ t) = go (space c) (part_word k t) (part_word (suc k) t)
  where
    go : (b : Bool) → get_or (parts t) k [] ≡ up_to_space (behind_spaces k t) → get_or (parts t) (suc k) [] ≡ up_to_space (behind_spaces (suc k) t)
        → get_or (cond b ([] ∷ parts t) (onto_first c (parts t))) (suc k) [] ≡ up_to_space (pick b (behind_spaces k t) (behind_spaces (suc k) t))
    go true e f = e
    go false e f = onto_later c k (parts t) ∙ f

-- ---- the part that `nth` gives, or no characters
pub part_given : (line : List ℕ) (k : ℕ) (given : Option (Bor (List ℕ))) (none word : Bor (List ℕ)) → option_map (λ x. x.now) given ≡ slice_get (parts line) k
    → none.now ≡ [] → word ≡ unwrap_or given none → word.now ≡ word_at k line
part_given line k given none word h e q = ap (λ (w : Bor (List ℕ)). w.now) q ∙ go given ∙ ap (λ (p : Option (List ℕ)). unwrap_or p []) h ∙ unwrap_or-slice_get (parts line) k [] ∙ part_word k line
  where
    go : (r : Option (Bor (List ℕ))) → (unwrap_or r none).now ≡ unwrap_or (option_map (λ x. x.now) r) []
    go (Some x) = refl
    go None = e
