-- Calls that go through a list of scraps to its end. Assumes nothing.
use mathlib.Core.Path.{sym, subst}
use mathlib.Core.List.{List, [], ◌∷◌}
use Prim.Native.Nat.{ℕ, zero, suc, ◌≤◌}
use native.Mathlib.Omega.{arith}
use lib.ListN.{length, drop, length-drop}
use Rattle.base.specs.Buffers.{reply_least}
use Rattle.stream.specs.Automaton.{glue}
use Rattle.card.specs.declared.state.Card.{Card}
use Rattle.receive.specs.Receive.{received}
use Rattle.receive.proofs.Laws.{received_uses}
use Rattle.demands.specs.Calls.{LongEnough, Course, Calls, over as no_call, call as one-call, adding, ended}
use Rattle.demands.specs.Demand3.{Given, over, spent, call}
use Rattle.demands.proofs.Each.{same_protocol}

-- a call uses a byte at least, where there is one and the buffer is long enough
pub progress : (c : Card) (b : ℕ) (x : List ℕ) (room : ℕ) → LongEnough c room → 1 ≤ (received c (b ∷ x) room).used
progress c b x room h = omega (arith, received_uses c (b ∷ x) room h (omega arith))

-- the buffer is long enough for the next call, too: the protocol is the same
still_enough : (c : Card) (x : List ℕ) (room : ℕ) → LongEnough c room → LongEnough (received c x room).card room
still_enough c x room h = subst (λ (n : ℕ). reply_least n ≤ room) (sym (same_protocol c x room)) h

-- so a scrap of n bytes at most, and the others behind it, are gone through: the bytes left are fewer with each call
module _ (scraps : List (List ℕ)) (room : ℕ) (rest : (c : Card) → LongEnough c room → (k : Course) × Given c scraps k) where
  abbrev Through : ℕ → Type 0
  Through n = (c : Card) → LongEnough c room → (x : List ℕ) → length x ≤ n → (k : Course) × Given c (x ∷ scraps) k

  one_more : (n : ℕ) → Through n → Through (suc n)
  one_more n fewer c h [] l = let (k, g) = rest c h in (k, spent g)
  one_more n fewer c h (b ∷ x) l =
      let r = received c (b ∷ x) room in
      let (k, g) = fewer r.card (still_enough c (b ∷ x) room h) (drop r.used (b ∷ x)) (omega (arith, length-drop r.used (b ∷ x), progress c b x room h)) in
      (adding r k, call b x room h g)

  through : (n : ℕ) → Through n
  through zero c h [] l = let (k, g) = rest c h in (k, spent g)
  through zero c h (b ∷ x) l = absurd (omega arith)
  through (suc n) c h x l = one_more n (through n) c h x l

pub to_the_end : (c : Card) (scraps : List (List ℕ)) (room : ℕ) → LongEnough c room → (k : Course) × Given c scraps k
to_the_end c [] room h = (ended c, over)
to_the_end c (x ∷ scraps) room h = through scraps room (λ d l. to_the_end d scraps room l) (length x) c h x (omega arith)

-- they are calls of the stream that was cut into these scraps
pub are_calls : (c : Card) (scraps : List (List ℕ)) (k : Course) → Given c scraps k → Calls c (glue scraps) k
unfolding glue
are_calls c scraps k over = no_call
are_calls c scraps k (spent g) = are_calls c _ k g
are_calls c scraps k (call b x room {scraps = others} h g) = one-call (b ∷ x) (glue others) room h (are_calls _ _ _ g)
