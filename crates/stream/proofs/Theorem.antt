-- The theorem of left-to-right reading holds of every lawful format. Assumes nothing.
use mathlib.Core.Path.{refl, sym, subst}
use mathlib.Core.List.{[]}
use lib.ListN.{length}
use Prim.Native.Nat.{◌+◌}
use Rattle.stream.specs.Format.{Format, Lawful}
use Rattle.stream.specs.Reading.{Yield, Reads}
use Rattle.stream.specs.Theorem.{StreamTheorem}
use Rattle.stream.proofs.Automaton.{feed_scraps_lem}
use Rattle.stream.proofs.Reading.{reading, reading_from}
use Rattle.stream.proofs.Once.{one_result, taken_there, taken_apart, taken_once, last_lost, pending_there}
use Rattle.stream.proofs.Call.{call_uses, call_first, session, session_there}
use Rattle.stream.proofs.Pending.{pending_viable}
use Rattle.stream.proofs.Computed.{read_reads}

pub stream : (F : Format) → Lawful F → StreamTheorem F
stream F L = record {
  one_result = λ i s y z r q. one_result F L r q;
  automaton_reads = λ s. reading F L s;
  automaton_goes_on = λ i p s v. reading_from F L s i p v;
  computed_reads = λ s. read_reads F L s;
  chunking = λ i p scraps. feed_scraps_lem F i p scraps;
  taken_there = λ i s y r t h. taken_there F L r t h;
  taken_apart = λ i s y r. taken_apart F L r;
  taken_once = λ i s y r u m v h w. taken_once F L r u m v (i + length u) refl h w;
  last_lost = λ i s y r j l. last_lost F L r j l;
  pending_there = λ i s y r. pending_there F L r;
  pending_viable = λ i p s v. pending_viable F L s i p v;
  call_uses = λ i p s. call_uses F s i p;
  call_first = λ i p s. call_first F s i p;
  session_reads = λ s y r. subst (λ (z : Yield). Reads F 0 s z) (sym (session F r)) (reading F L s);
  session_there = λ s. session_there F s 0 [];
}
