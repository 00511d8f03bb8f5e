-- Which messages have a reply, and that none is answered by the identity. Assumes nothing.
use Rattle.std.proofs.Common.{Result, Ok, Err}
use mathlib.Core.Path.{◌≡◌, refl, ap}
use mathlib.Core.Bool.{true, false, not}
use mathlib.Core.List.{[]}
use Prim.Native.Nat.{ℕ}
use native.Mathlib.Omega.{arith}
use lib.ListN.{length}
use Rattle.base.proofs.Tests.{pick_both}
use Rattle.port.specs.Port.{Numbers}
use Rattle.drive.specs.Plant.{Plant}
use Rattle.answers.specs.declared.Answer.{Answer}
use Rattle.answers.specs.declared.Answer.TheVariants as Answers
use Rattle.nfo_parts.specs.Replies.{reply_of, ack_of, nak_of}
use Rattle.nfo_parts.specs.declared.message.Message.{Message}
use Rattle.nfo_parts.specs.declared.message.Message.TheVariants.{Enquiry, Select}
use Rattle.permit.specs.Refusals.{read_only}
use Rattle.service.specs.Write.{written}
use Rattle.service.specs.Serving.{Served, is_none, the_row, permitted, told_served, wrote_served}
use Rattle.nfo_service.specs.Serve.{to_all, to_us, reaches_us, row_named, not_hex, the_word, stops, row_selected, enquiry_served, select_served, served}
use Rattle.nfo_service.specs.Reply.{adr_in, replied_by, replied}
use Rattle.answers.specs.declared.Change.{Change}
use Rattle.answers.specs.declared.Refusal.{Refusal}

-- ---- an answer that is no part of the identity
abbrev pub NoPart : Answer → Type 0
NoPart (Answers.Told row word) = Unit {0}
NoPart (Answers.Written change) = Unit {0}
NoPart (Answers.Identified part) = ⊥
NoPart Answers.NotOurs = Unit {0}
NoPart (Answers.Refused refusal) = Unit {0}

permitted_no_part : (permit : Result Change Refusal) → NoPart (permitted permit)
permitted_no_part (Ok change) = tt
permitted_no_part (Err refusal) = tt

abbrev ServesNoPart : Served → Type 0
ServesNoPart s = NoPart s.answer

-- no message of NFO serial is answered by one
pub no_part : (p : Plant) (q : Numbers) (m : Message) → ServesNoPart (served p q m)
unfolding served enquiry_served select_served row_selected told_served wrote_served
no_part p q (Enquiry adr parameter) =
    pick_both ServesNoPart (not (to_us p adr)) (λ _. tt) (λ _. pick_both ServesNoPart (is_none (row_named parameter)) (λ _. tt) (λ _. tt))
no_part p q (Select adr parameter value) =
    let row = the_row (row_named parameter) in
    pick_both ServesNoPart (not (reaches_us p adr)) (λ _. tt)
    (λ _. pick_both ServesNoPart (is_none (row_named parameter)) (λ _. tt)
    (λ _. pick_both ServesNoPart (read_only row.0) (λ _. tt)
    (λ _. pick_both ServesNoPart (not_hex value) (λ _. tt)
    (λ _. pick_both ServesNoPart (stops p adr row.0 (the_word value)) (λ _. tt) (λ _. permitted_no_part (written p row.0 (the_word value)).permit)))))

-- ---- which have a reply
-- REPLY, ACK and NAK are some bytes; outcome 1 has none
some : (adr e : ℕ) (a : Answer) → NoPart a → (a ≡ Answers.NotOurs → ⊥) → replied_by adr e a ≡ [] → ⊥
unfolding replied_by reply_of ack_of nak_of
some adr e (Answers.Told row word) k n h = let z = ap length h in omega (arith, z)
some adr e (Answers.Written change) k n h = let z = ap length h in omega (arith, z)
some adr e (Answers.Identified part) k n h = k
some adr e Answers.NotOurs k n h = n refl
some adr e (Answers.Refused refusal) k n h = let z = ap length h in omega (arith, z)

-- "95 is broadcast: SELECT acts without reply"; "A refused broadcast gets no reply"
pub to_all_silent : (m : Message) (a : Answer) → to_all (adr_in m) ≡ true → replied m a ≡ []
unfolding replied
to_all_silent m a e = rw e

-- "ENQUIRY is answered by REPLY, SELECT by ACK, refusals by NAK", whatever other address it is sent to
pub answer_there : (m : Message) (a : Answer) → NoPart a → to_all (adr_in m) ≡ false → (a ≡ Answers.NotOurs → ⊥) → replied m a ≡ [] → ⊥
unfolding replied
answer_there m a k e n = rw e (some _ _ a k n)
