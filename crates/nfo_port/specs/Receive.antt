-- A call on bytes of NFO serial: the stream call of its messages. Assumes nothing.
use Rattle.std.specs.Prelude.{List, ℕ}
use Rattle.base.specs.Buffers.{nfo_least}
use Rattle.nfo_parts.specs.declared.message.Message.{Message}
use Rattle.nfo_parts.specs.Parts.{message_of}
use Rattle.nfo.specs.Scan.{feeding}
use Rattle.service.specs.Serving.{Served}
use Rattle.nfo_service.specs.Serve as Serve
use Rattle.nfo_service.specs.Reply.{replied}
use Rattle.card.specs.declared.state.Card.{Card}
use Rattle.turn.specs.Turn.{Received}
use Rattle.turn.specs.Stream.{Stream, streamed}

-- what a message comes to, on this card
abbrev pub served_by : Card → Message → Served
served_by c message = Serve.served c.plant c.port.numbers message

-- the message's bytes are the first of the array
abbrev pub nfo_stream : Stream
nfo_stream =
    record {
      least = nfo_least;
      feeding = feeding;
      served = λ c held. served_by c (message_of held.bytes);
      reply = λ c held. replied (message_of held.bytes) (served_by c (message_of held.bytes)).answer;
    }

unfoldable pub nfo_received : Card → List ℕ → ℕ → Received
nfo_received = streamed nfo_stream
