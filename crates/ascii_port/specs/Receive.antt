-- A call on bytes of Modbus ASCII: the stream call of its messages. Assumes nothing.
use Rattle.std.specs.Prelude.{List, ℕ, Option}
use Rattle.base.specs.Buffers.{ascii_least}
use Rattle.identity.specs.Identity.{Identity}
use Rattle.pending.specs.Held.{held}
use Rattle.pending.specs.Scanning.{Scan}
use Rattle.ascii.specs.Ascii.{bytes_in, ascii_of, address_among, unit_among}
use Rattle.ascii_scan.specs.Scan.{feeding}
use Rattle.modbus_service.specs.Reply.{sent_by, Exchanged, exchanged}
use Rattle.card.specs.declared.state.Card.{Card}
use Rattle.turn.specs.Turn.{Received, answered}
use Rattle.turn.specs.Stream.{Stream, streamed}
use Rattle.modbus.specs.declared.replies.Answer as Units

-- what a message comes to, on this card: its first byte is the address, its last the LRC, and between them stands the data unit
abbrev pub exchange_on : Card → List ℕ → Exchanged
exchange_on c message = exchanged c.plant c.port.numbers (address_among message) (unit_among message)

-- the reply's text, from the request's address, of a card with this identity
abbrev pub reply_text : Identity → ℕ → Option Units.Answer → List ℕ
reply_text = sent_by ascii_of

abbrev pub reply_on : Card → List ℕ → List ℕ
reply_on c message = reply_text c.identity (address_among message) (exchange_on c message).reply

abbrev pub answered_by : Card → Scan → List ℕ → Received
answered_by c scan message = answered c.identity scan.pending scan.used (exchange_on c message).served (reply_on c message)

-- the message's bytes are those that the text held spells
abbrev pub ascii_stream : Stream
ascii_stream =
    record { least = ascii_least; feeding = feeding; served = λ c p. (exchange_on c (bytes_in (held p))).served; reply = λ c p. reply_on c (bytes_in (held p)) }

unfoldable pub ascii_received : Card → List ℕ → ℕ → Received
ascii_received = streamed ascii_stream
