-- How long a reply's unit is, and that it is bytes. Assumes nothing.
use Rattle.std.proofs.Common.{Option, Some, None}
use mathlib.Core.Path.{◌≡◌}
use mathlib.Core.List.{List, [], ◌∷◌}
use Prim.Native.Nat.{ℕ, ◌≤◌}
use native.Mathlib.Omega.{arith}
use lib.ListN.{length}
use Rattle.base.specs.Bytes.{AllBelow, Bytes}
use Rattle.modbus_words.specs.Words.{word_bytes}
use Rattle.master_reply.specs.declared.Reply.{Reply}
use Rattle.master_reply.specs.declared.Reply.TheVariants.{Data, One, Many, Exception}
use Rattle.master_reply.specs.Reply.{registers_of}
use Rattle.master_reply.specs.Told.{words_bytes, address_of, reply_unit, IsReply, InWidth}
use Rattle.master_reply.proofs.Words.{bytes_length}

-- ---- a reply's unit fits a message, and is bytes
pub reply_some : (r : Option Reply) (ws : List ℕ) → IsReply r → 1 ≤ length (reply_unit r ws)
unfolding reply_unit word_bytes
reply_some (Some (Data a f n)) ws h = omega arith
reply_some (Some (One a r w)) ws h = omega arith
reply_some (Some (Many a r n)) ws h = omega arith
reply_some (Some (Exception a f c)) ws h = omega arith
reply_some None ws h = absurd h

pub reply_most : (r : Option Reply) (ws : List ℕ) → IsReply r → length ws ≡ registers_of r → length (reply_unit r ws) ≤ 252
unfolding reply_unit word_bytes
reply_most (Some (Data a f n)) ws h e = omega (arith, bytes_length ws, h.2.1)
reply_most (Some (One a r w)) ws h e = omega arith
reply_most (Some (Many a r n)) ws h e = omega arith
reply_most (Some (Exception a f c)) ws h e = omega arith
reply_most None ws h e = absurd h

words_below : (ws : List ℕ) → AllBelow 65536 ws → Bytes (words_bytes ws)
unfolding words_bytes word_bytes AllBelow
words_below [] h = tt
words_below (w ∷ ws) h = (omega (arith, h.0), (omega arith, words_below ws h.1))

pub reply_below : (r : Option Reply) (ws : List ℕ) → IsReply r → length ws ≡ registers_of r → InWidth r ws → Bytes (address_of r ∷ reply_unit r ws)
unfolding reply_unit word_bytes AllBelow
reply_below (Some (Data a f n)) ws h e k = (omega (arith, h.0.1), (omega (arith, h.1.1), (omega (arith, h.2.1), words_below ws k)))
reply_below (Some (One a r w)) ws h e k = (omega (arith, h.1), (omega arith, (omega (arith, k.0), (omega arith, (omega (arith, k.1), (omega arith, tt))))))
reply_below (Some (Many a r n)) ws h e k = (omega (arith, h.0.1), (omega arith, (omega (arith, k.0), (omega arith, (omega (arith, k.1), (omega arith, tt))))))
reply_below (Some (Exception a f c)) ws h e k = (omega (arith, h.0.1), (k, (omega (arith, h.2.1), tt)))
reply_below None ws h e k = absurd h
