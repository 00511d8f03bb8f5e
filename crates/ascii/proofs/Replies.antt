-- What the code makes of an answer: the body in a local array of 80 bytes, and the message of it. Assumes nothing.
use Rattle.std.proofs.Common.{◌≡◌, ℕ, ◌≤◌, List, [], ◌∷◌, ◌++◌, length, take, replicate, sym, ap, ◌∙◌, ap₂, arith, length-append}
use lib.Seq.{sets, length-sets, length-take-le}
use Rattle.base.specs.Buffers.{front, fitting, ascii_least}
use Rattle.base.proofs.Sets.{take_sets, fitting_all}
use Rattle.checks.specs.Lrc.{lrc_of}
use Rattle.identity.specs.Identity.{Identity}
use Rattle.modbus.specs.Answer.{unit_of}
use Rattle.modbus.specs.Reply.{reply_in}
use Rattle.modbus.specs.declared.replies.Answer.{Answer}
use Rattle.modbus.proofs.Units.{unit_short}
use Rattle.modbus.proofs.Buffers.{reply_all}
use Rattle.ascii.specs.Ascii.{text_of, with_lrc, ascii_of}
use Rattle.ascii.proofs.Message.{text_length}

-- a reply has 151 bytes at most
pub ascii_short : (a : ℕ) (i : Identity) (answer : Answer) → length (ascii_of a (unit_of i answer)) ≤ 151
unfolding ascii_of
ascii_short a i answer =
    omega (arith, text_length ((a ∷ unit_of i answer) ++ lrc_of (a ∷ unit_of i answer) ∷ []), length-append (a ∷ unit_of i answer) (lrc_of (a ∷ unit_of i answer) ∷ []), unit_short i answer)

-- the body, of n bytes, is stored from the start of that array, which is now l; its message is the reply, in a buffer t that is long enough
module _ (a : ℕ) (i : Identity) (answer : Answer) (n : ℕ) (l : List ℕ) (count : n ≡ length (a ∷ unit_of i answer)) (lent : l ≡ sets (replicate 80 0) 0 (a ∷ unit_of i answer)) where
  pub body_within : n ≤ length l
  body_within = omega (arith, ap length lent ∙ length-sets (replicate 80 0) 0 (a ∷ unit_of i answer), unit_short i answer)

  pub body_taken : n ≡ length (take n l)
  body_taken = sym (length-take-le n l body_within)

  module _ (t : List ℕ) (big : ascii_least ≤ length t) where
    said : fitting (text_of (with_lrc (take n l))) (length t) ≡ reply_in ascii_least (length t) (ascii_of a (unit_of i answer))
    unfolding ascii_of
    said =
        let is : take n l ≡ a ∷ unit_of i answer = ap₂ take count lent ∙ take_sets (a ∷ unit_of i answer) (replicate 80 0) (omega (arith, unit_short i answer)) in
        ap (λ (b : List ℕ). fitting (text_of (with_lrc b)) (length t)) is
        ∙ fitting_all (ascii_of a (unit_of i answer)) (length t) (omega (arith, ascii_short a i answer))
        ∙ sym (reply_all ascii_least (length t) (ascii_of a (unit_of i answer)) big)

    pub ascii_count : (r : ℕ) → r ≡ length (fitting (text_of (with_lrc (take n l))) (length t)) → r ≡ length (reply_in ascii_least (length t) (ascii_of a (unit_of i answer)))
    ascii_count r q = q ∙ ap length said

    pub ascii_lent : (now : List ℕ) → now ≡ front (fitting (text_of (with_lrc (take n l))) (length t)) t → now ≡ front (reply_in ascii_least (length t) (ascii_of a (unit_of i answer))) t
    ascii_lent now q = q ∙ ap (λ (m : List ℕ). front m t) said
