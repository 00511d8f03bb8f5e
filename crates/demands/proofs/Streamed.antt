-- NFO serial and Modbus ASCII come as streams: the calls of each are one stream call, whose scan follows the format. Assumes nothing.
use mathlib.Core.Path.{◌≡◌, refl}
use mathlib.Core.Bool.{true}
use mathlib.Core.List.{List}
use Prim.Native.Nat.{ℕ, ◌≤◌}
use native.Mathlib.Omega.{arith}
use Rattle.stream.specs.Format.{Lawful}
use Rattle.stream.specs.Theorem.{StreamTheorem}
use Rattle.pending.specs.declared.Pending.{Pending}
use Rattle.pending.specs.Held.{Sized}
use Rattle.pending.specs.Scanning.{Follows}
use Rattle.nfo.proofs.Lawful.{nfo_lawful, nfo_stream_lem}
use Rattle.nfo.proofs.Follows.{nfo_follows}
use Rattle.nfo.proofs.Alone as Alone
use Rattle.ascii.proofs.Lawful.{ascii_lawful, ascii_stream_lem}
use Rattle.ascii_scan.proofs.Follows.{ascii_follows}
use Rattle.ascii_scan.proofs.Parsed.{message_held}
use Rattle.port.specs.Port.{protocol}
use Rattle.card.specs.State.{protocol_of, with_pending}
use Rattle.card.specs.declared.state.Card.{Card}
use Rattle.modbus_service.specs.Reply.{exchanged}
use Rattle.turn.specs.Stream.{Stream, streamed}
use Rattle.nfo_port.specs.Receive.{nfo_stream, nfo_received}
use Rattle.ascii_port.specs.Receive.{ascii_stream, ascii_received}
use Rattle.receive.specs.Receive.{received}
use Rattle.receive.proofs.Laws.{by_nfo, by_ascii, enough_nfo, enough_ascii}
use Rattle.demands.specs.Calls.{LongEnough, Wire, Speaks, nfo_serial, modbus_ascii, besides}
use Rattle.demands.proofs.Serving.{nfo_speaks, modbus_speaks}

-- what makes a protocol one that comes as a stream
pub record Streamed (P : Wire) (S : Stream) : Type 0 where
  pub lawful : Lawful P.format
  pub theory : StreamTheorem P.format
  pub follows : Follows P.format S.feeding
  pub calls : (c : Card) (x : List ℕ) (room : ℕ) → Speaks P c → received c x room ≡ streamed S c x room
  pub enough : (c : Card) (room : ℕ) → Speaks P c → LongEnough c room → S.least ≤ room
  -- a message leaves the port's protocol as it is
  pub speaks : (c : Card) (q : Pending) → protocol (S.served c q).port ≡ protocol_of c
  -- a message that is held is served as its bytes are
  pub takes : (c : Card) (q : Pending) → Sized q → P.format.formed (S.feeding.message q) ≡ true
      → (S.served c q ≡ P.served c (S.feeding.message q)) × (S.reply c q ≡ P.reply c (S.feeding.message q))
  -- and by what the card holds besides the bytes pending
  pub same : (c : Card) (q r : Pending) → (S.served (with_pending q c) r ≡ S.served c r) × (S.reply (with_pending q c) r ≡ S.reply c r)
  pub alone : (c : Card) (m : List ℕ) → (P.served c m ≡ P.served (besides c) m) × (P.reply c m ≡ P.reply (besides c) m)

-- ---- NFO serial
nfo_calls : (c : Card) (x : List ℕ) (room : ℕ) → Speaks nfo_serial c → received c x room ≡ streamed nfo_stream c x room
unfolding nfo_received
nfo_calls c x room p = by_nfo c x room (λ q. omega (arith, p, q)) (λ q. omega (arith, p, q))

pub nfo_streamed : Streamed nfo_serial nfo_stream
nfo_streamed =
    record {
      lawful = nfo_lawful;
      theory = nfo_stream_lem;
      follows = nfo_follows;
      calls = nfo_calls;
      enough = enough_nfo;
      speaks = λ c q. nfo_speaks c.plant c.port.numbers _;
      takes = λ c q size w. rw (Alone.message_held q w) (refl, refl);
      same = λ c q r. (refl, refl);
      alone = λ c m. (refl, refl);
    }

-- ---- Modbus ASCII
ascii_calls : (c : Card) (x : List ℕ) (room : ℕ) → Speaks modbus_ascii c → received c x room ≡ streamed ascii_stream c x room
unfolding ascii_received
ascii_calls c x room p = by_ascii c x room p

ascii_speaks : (c : Card) (q : Pending) → protocol (ascii_stream.served c q).port ≡ protocol_of c
unfolding exchanged
ascii_speaks c q = modbus_speaks c.plant c.port.numbers _ _

pub ascii_streamed : Streamed modbus_ascii ascii_stream
ascii_streamed =
    record {
      lawful = ascii_lawful;
      theory = ascii_stream_lem;
      follows = ascii_follows;
      calls = ascii_calls;
      enough = enough_ascii;
      speaks = ascii_speaks;
      takes = λ c q size w. rw (message_held q w) (refl, refl);
      same = λ c q r. (refl, refl);
      alone = λ c m. (refl, refl);
    }
