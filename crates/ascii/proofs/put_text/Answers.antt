-- `ascii::put_text` meets its contract: the pairs are written through the part of the text from its second byte on, and behind them go that of the LRC and CR LF. A text that
-- does not hold the message is left alone. Assumes nothing.
use Rattle.ascii.proofs.Texts.{short_count, short_lent, text_count, text_lent}
use Rattle.ascii.proofs.put_text.Goals as goal

pub returns-then-text-bytes : goal.returns-then-text-bytes
returns-then-text-bytes c = search (short_count, short_lent)

pub returns : goal.returns
returns c = search (text_count, text_lent)
