-- `hex_pairs::encode` meets its contract: the high digit of the last byte of all that has one fills the text. Assumes nothing.
use Rattle.std.proofs.Common.{ℕ, ◌≡◌, ◌<◌, length, arith, length-take}
use Rattle.hex_pairs.proofs.Laws.{high_left}
use Rattle.hex_pairs.proofs.encode.Goals as goal

pub returns-in-Some : goal.returns-in-Some
returns-in-Some c =
    let all : c.loop-i.i ≡ c.min-whole.result = omega (arith, length-take {A = ℕ}) in
    let more : c.min-whole.result < length c.args.bytes.now = c.in-Some.ensures.lookup.3.0 in
    let last = high_left c.args.bytes.now c.loop-i.text c.min-whole.result c.in-Some.byte.now more (omega arith) c.in-Some.ensures.lookup.1 in
    cc
