-- A well-formed message after bytes that leave nothing pending is taken as it is, for any lawful format. Assumes nothing.
use mathlib.Core.Path.{◌≡◌, sym, ap, subst, ◌∙◌}
use mathlib.Core.Bool.{true}
use mathlib.Core.List.{List, [], ◌++◌, append-nil}
use Prim.Native.Nat.{ℕ, ◌+◌}
use native.Mathlib.Omega.{arith}
use lib.ListN.{length}
use Rattle.stream.specs.Format.{Format, Lawful}
use Rattle.stream.specs.Reading.{Yield, Reads, takes, waiting, taking}
use Rattle.stream.specs.Automaton.{feed_all, feed_on, join}
use Rattle.stream.specs.Theorem.{StreamTheorem}
use Rattle.stream.proofs.Automaton.{feed_append}
use Rattle.stream.proofs.Reading.{empty_viable}
use Rattle.demands.specs.Calls.{Wire, served_all}
use Rattle.demands.specs.Demand2.{TakenAfter, ServedAlone, ReadAs}
use Rattle.demands.specs.Demand3.{Same, Streams}

module _ (F : Format) (L : Lawful F) (T : StreamTheorem F) where
  -- from a place where nothing is pending
  from : (i : ℕ) (s : List ℕ) → Reads F i s (feed_all F i [] s)
  from i s = T.automaton_goes_on i [] s (empty_viable F L)

  pub taken_after : (m : List ℕ) → F.formed m ≡ true → TakenAfter F m
  taken_after m w u v y z ry none rz =
      let whole : y ≡ feed_all F 0 [] u = T.one_result 0 u y (feed_all F 0 [] u) ry (T.automaton_reads u) in
      let p = (T.pending_there 0 u y ry).1 in
      let same : u ≡ p.0 = p.1 ∙ ap (λ (l : List ℕ). p.0 ++ l) none ∙ append-nil p.0 in
      let place : y.place ≡ length u = p.2 ∙ omega (arith, ap length same) in
      let on : Reads F (length u) (m ++ v) (taking (length u) m z) = takes m v w rz in
      let rest : feed_all F (length u) [] (m ++ v) ≡ taking (length u) m z = T.one_result (length u) (m ++ v) _ _ (from (length u) (m ++ v)) on in
      let all : feed_all F 0 [] (u ++ (m ++ v)) ≡ join y (taking (length u) m z) =
      feed_append F 0 [] u (m ++ v) ∙ ap (λ (x : Yield). join x (feed_on F x (m ++ v))) (sym whole)
      ∙ ap (join y) (ap (λ (i : ℕ). feed_all F i y.pending (m ++ v)) place ∙ ap (λ (l : List ℕ). feed_all F (length u) l (m ++ v)) none ∙ rest) in
      subst (λ (x : Yield). Reads F 0 (u ++ (m ++ v)) x) all (T.automaton_reads (u ++ (m ++ v)))

  -- alone
  pub reads_alone : (m : List ℕ) → F.formed m ≡ true → Reads F 0 m (taking 0 m (waiting (0 + length m) []))
  unfolding feed_all
  reads_alone m w =
      let end : Reads F (0 + length m) [] (waiting (0 + length m) []) = from (0 + length m) [] in
      let it : Reads F 0 (m ++ []) (taking 0 m (waiting (0 + length m) [])) = takes m [] w end in
      rw (append-nil m) at it

module _ (P : Wire) (L : Lawful P.format) (D : Streams P) (m : List ℕ) (w : P.format.formed m ≡ true) where
  alone : ServedAlone P m
  unfolding served_all
  alone c p none k l =
      let s : Same P c k (taking 0 m (waiting (0 + length m) [])) = D.reading c p none m k l _ (reads_alone P.format L D.theory m w) in
      (s.outcomes, s.replies ∙ append-nil (P.reply c m), s.state)

  pub message_read : ReadAs P m
  message_read = (taken_after P.format L D.theory m w, alone)
