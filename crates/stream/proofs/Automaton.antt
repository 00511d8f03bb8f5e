-- The automaton: cutting a stream into parts or scraps makes no difference. Assumes nothing.
use mathlib.Core.Path.{◌≡◌, refl, sym, ap, ◌∙◌}
use mathlib.Core.List.{List, [], ◌∷◌, ◌++◌, append_assoc}
use Prim.Native.Nat.{ℕ}
use Rattle.stream.specs.Format.{Format}
use Rattle.stream.specs.Reading.{Yield}
use Rattle.stream.specs.Automaton.{feed, join, feed_all, feed_on, feed_scraps, glue}

join_assoc : (a b c : Yield) → join (join a b) c ≡ join a (join b c)
join_assoc a b c i = record { taken = append_assoc a.taken b.taken c.taken i; place = c.place; pending = c.pending }

-- a stream in two parts
pub feed_append : (F : Format) (i : ℕ) (p x z : List ℕ)
    → feed_all F i p (x ++ z) ≡ join (feed_all F i p x) (feed_on F (feed_all F i p x) z)
unfolding feed_all
feed_append F i p [] z = refl
feed_append F i p (b ∷ x) z =
    let y : Yield = feed F i p b in
    ap (join y) (feed_append F y.place y.pending x z) ∙ sym (join_assoc y (feed_on F y x) _)

-- a stream in scraps
pub feed_scraps_lem : (F : Format) (i : ℕ) (p : List ℕ) (xs : List (List ℕ)) → feed_scraps F i p xs ≡ feed_all F i p (glue xs)
unfolding feed_scraps glue feed_all
feed_scraps_lem F i p [] = refl
feed_scraps_lem F i p (x ∷ xs) =
    let y : Yield = feed_all F i p x in
    ap (join y) (feed_scraps_lem F y.place y.pending xs) ∙ sym (feed_append F i p x (glue xs))
