-- Demand 3 holds: the calls of `receive` come to the course of the stream, byte by byte, and that course is the reading. Assumes nothing.
use mathlib.Core.Path.{◌≡◌, refl, sym, ◌∙◌}
use mathlib.Core.List.{List, []}
use Prim.Native.Nat.{ℕ}
use Rattle.stream.specs.Reading.{Yield, Reads}
use Rattle.stream.specs.Automaton.{feed_all}
use Rattle.stream.specs.Scanned.{messages_of}
use Rattle.stream.proofs.Reading.{empty_viable}
use Rattle.card.specs.declared.state.Card.{Card}
use Rattle.turn.specs.Stream.{Stream}
use Rattle.nfo_port.specs.Receive.{nfo_stream}
use Rattle.ascii_port.specs.Receive.{ascii_stream}
use Rattle.demands.specs.Calls.{Wire, Course, Calls, Speaks, served_all, nfo_serial, modbus_ascii, NothingPending}
use Rattle.demands.specs.Demand3.{Same, Streams, Demand3}
use Rattle.demands.proofs.Streamed.{Streamed, nfo_streamed, ascii_streamed}
use Rattle.demands.proofs.Course.{course, calls_course}
use Rattle.demands.proofs.Reading.{Alike, reads}
use Rattle.demands.proofs.Once.{ascii_once}
use Rattle.demands.proofs.Given.{progress, to_the_end, are_calls}

module _ (P : Wire) (S : Stream) (H : Streamed P S) where
  of_calls : (c : Card) (s : List ℕ) (k : Course) → Speaks P c → Calls c s k → k ≡ course S c s
  of_calls c s k p = calls_course S H.same P H.calls H.enough H.speaks p

  reading : (c : Card) → Speaks P c → NothingPending c → (s : List ℕ) (k : Course) → Calls c s k → (y : Yield) → Reads P.format 0 s y → Same P c k y
  reading c p (none, size) s k l y r =
      let z : y ≡ feed_all P.format 0 [] s = H.theory.one_result 0 s y (feed_all P.format 0 [] s) r (H.theory.automaton_reads s) in
      let n : k ≡ course S c s = of_calls c s k p l in
      let a : Alike (course S c s) (served_all P c (messages_of (feed_all P.format 0 [] s).taken)) (feed_all P.format 0 [] s).pending =
      reads P S H.lawful H.follows H.takes H.alone s 0 [] c c none size (empty_viable P.format H.lawful) refl in
      rw (n, z) (record { outcomes = a.outcomes; replies = a.replies; state = a.state; pending = a.pending })

  streams : Streams P
  streams = record { reading = reading; any_cut = λ c p s k l a b. of_calls c s k p a ∙ sym (of_calls c s l p b); theory = H.theory }

-- ---- DEMAND 3
pub demand_3 : Demand3
demand_3 =
    record {
      nfo = streams nfo_serial nfo_stream nfo_streamed;
      modbus_ascii_lem = streams modbus_ascii ascii_stream ascii_streamed;
      ascii_once = ascii_once;
      progress = progress;
      to_the_end = to_the_end;
      are_calls = are_calls;
    }
