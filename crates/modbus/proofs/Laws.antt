-- What the code's tests and calls show of requests. Assumes nothing.
use mathlib.Core.Path.{◌≡◌, refl, sym, ap, subst, ◌∙◌}
use mathlib.Core.Bool.{Bool, true, false, not}
use mathlib.Core.List.{List}
use Prim.Native.Nat.{ℕ, ◌+◌, ◌*◌, ◌≤◌, ◌<◌}
use native.Mathlib.Omega.{arith}
use lib.ListN.{length, get_or}
use borrow.Author.Tests.{eq-eqb, ne_eqb, eqb-false}
use lib.Dec.{eqb, leb}
use Rattle.base.specs.Choice.{both, either}
use Rattle.base.proofs.Tests.{both_false, pick_both}
use Rattle.modbus_words.specs.Words.{word_at}
use Rattle.modbus.specs.Request.{label, span, reads, writes, asked, asked_of, identifying, numbering, request_of}
use Rattle.modbus.specs.declared.requests.Request.{Request}
use Rattle.modbus.specs.declared.requests.Request.TheVariants.{Read, One, Many, Identify, Serial, Malformed, Unknown}

-- ---- requests, by the function and what was read of the unit
read_known : (f : ℕ) → 3 ≤ f → f < 5 → either (eqb f 3) (eqb f 4) ≡ true
read_known f l h = go (eqb f 3) refl
  where
    go : (t : Bool) → eqb f 3 ≡ t → either t (eqb f 4) ≡ true
    go true e = refl
    go false e = let n : f ≡ 3 → ⊥ = eqb-false f 3 e in eq-eqb f 4 (omega arith)

module _ (n f a b x : ℕ) where
  -- 03 and 04
  pub asked_read : 3 ≤ f → f < 5 → (t : Bool) → t ≡ reads n b → t ≡ true → Read f (label a) b ≡ asked n f a b x
  unfolding asked
  asked_read l h t e k = rw (read_known f l h, sym e ∙ k)

  -- 06
  pub asked_one : f ≡ 6 → n ≡ 5 → One (label a) b ≡ asked n f a b x
  unfolding asked
  asked_one k h = rw (k, h)

  -- 16
  pub asked_many : f ≡ 16 → (t : Bool) → t ≡ writes n b x → t ≡ true → Many (label a) b (span 6 (6 + 2 * b)) ≡ asked n f a b x
  unfolding asked
  asked_many k t e h = rw (k, sym e ∙ h)

  -- any other function above these
  asked_above : 5 ≤ f → (f ≡ 6 → ⊥) → (f ≡ 16 → ⊥) → Unknown f ≡ asked n f a b x
  unfolding asked
  asked_above l m o = simp (ne_eqb f 3 (λ e. omega arith), ne_eqb f 4 (λ e. omega arith), ne_eqb f 6 m, ne_eqb f 16 o)

-- none of the four has fewer than 5 bytes, so of a shorter unit the function alone counts
reads_none : (n b : ℕ) → n < 5 → reads n b ≡ false
unfolding reads
reads_none n b h = rw (ne_eqb n 5 (λ e. omega arith))

writes_none : (n b x : ℕ) → n < 5 → writes n b x ≡ false
unfolding writes
writes_none n b x h = rw (ne_eqb n (6 + 2 * b) (λ e. omega arith), both_false (eqb x (2 * b)), both_false (both (leb 1 b) (leb b 123)))

pub asked_few : (n f a b x : ℕ) → n < 5 → asked n f 0 0 0 ≡ asked n f a b x
unfolding asked
asked_few n f a b x h = simp (reads_none n 0 h, reads_none n b h, writes_none n 0 0 h, writes_none n b x h, ne_eqb n 5 (λ e. omega arith))

-- ---- what holds of each kind of request holds of what a unit asks
pub asked_all : (Q : Request → Type 0) (n f a k m : ℕ) → Q (Read f (label a) k) → Q (One (label a) k) → Q (Many (label a) k (span 6 (6 + 2 * k))) → ((g : ℕ) → Q (Malformed g))
    → Q (Unknown f) → Q (asked n f a k m)
unfolding asked
asked_all Q n f a k m read one many bad other =
    pick_both Q (either (eqb f 3) (eqb f 4)) (λ _. pick_both Q (reads n k) (λ _. read) (λ _. bad f))
    (λ _. pick_both Q (eqb f 6) (λ _. pick_both Q (eqb n 5) (λ _. one) (λ _. bad 6))
    (λ _. pick_both Q (eqb f 16) (λ _. pick_both Q (writes n k m) (λ _. many) (λ _. bad 16)) (λ _. other)))

pub request_all : (Q : Request → Type 0) (u : List ℕ) → Q (Identify (get_or u 2 0) (get_or u 3 0)) → Q Serial → Q (Malformed 43) → Q (Malformed 17) → Q (Unknown 43) → Q (asked_of u) → Q (request_of u)
unfolding request_of identifying numbering
request_all Q u identify serial bad-43 bad-17 other-43 others =
    pick_both Q (eqb (get_or u 0 0) 43)
    (λ _. pick_both Q (both (leb 2 (length u)) (not (eqb (get_or u 1 0) 14))) (λ _. other-43)
    (λ _. pick_both Q (both (eqb (length u) 4) (either (eqb (get_or u 2 0) 1) (either (eqb (get_or u 2 0) 2) (eqb (get_or u 2 0) 4)))) (λ _. identify) (λ _. bad-43)))
    (λ _. pick_both Q (eqb (get_or u 0 0) 17) (λ _. pick_both Q (eqb (length u) 1) (λ _. serial) (λ _. bad-17)) (λ _. others))

-- ---- what was read of the unit is what the definition reads
module _ (u : List ℕ) where
  pub request_read : (f a b x : ℕ) (r : Request) → f ≡ get_or u 0 0 → a ≡ word_at u 1 → b ≡ word_at u 3 → x ≡ get_or u 5 0 → r ≡ asked (length u) f a b x → r ≡ asked_of u
  unfolding asked_of
  request_read f a b x r p q s o e = rw (← p, ← q, ← s, ← o) e

-- ---- a request that is not unknown
abbrev pub NotUnknown : Request → Type 0
NotUnknown r = (f : ℕ) → r ≡ Unknown f → ⊥

-- a request that is unknown to them names its function
Names : ℕ → Request → Type 0
Names f (Read function first count) = Unit {0}
Names f (One register word) = Unit {0}
Names f (Many first count place) = Unit {0}
Names f (Identify code object) = Unit {0}
Names f Serial = Unit {0}
Names f (Malformed function) = Unit {0}
Names f (Unknown function) = f ≡ function

-- r is what the four functions ask
module _ (u : List ℕ) (r : Request) (four : r ≡ asked_of u) where
  -- of a function above theirs they know nothing
  above : (f : ℕ) → get_or u 0 0 ≡ f → 17 ≤ f → r ≡ Unknown f
  unfolding asked_of
  above f e h = four ∙ sym (asked_above (length u) (get_or u 0 0) (word_at u 1) (word_at u 3) (get_or u 5 0) (omega arith) (λ k. omega arith) (λ k. omega arith)) ∙ ap Unknown e

  pub request_known : NotUnknown r → r ≡ request_of u
  unfolding request_of
  request_known k = rw (ne_eqb (get_or u 0 0) 43 (other 43 (omega arith)), ne_eqb (get_or u 0 0) 17 (other 17 (omega arith))) four
    where
      other : (f : ℕ) → 17 ≤ f → get_or u 0 0 ≡ f → ⊥
      other f h e = k f (above f e h)

  -- they do not know the function f: it is 43; 17; or another
  module _ (f : ℕ) (is : r ≡ Unknown f) where
    first : get_or u 0 0 ≡ f
    unfolding asked_of Names
    first = subst (Names (get_or u 0 0)) (sym four ∙ is) (asked_all (Names (get_or u 0 0)) (length u) (get_or u 0 0) (word_at u 1) (word_at u 3) (get_or u 5 0) tt tt tt (λ g. tt) refl)

    pub request_identify : (kind code object : ℕ) (q : Request) → f ≡ 43 → kind ≡ get_or u 1 0 → code ≡ get_or u 2 0 → object ≡ get_or u 3 0 → q ≡ identifying (length u) kind code object
        → q ≡ request_of u
    unfolding request_of
    request_identify kind code object q h k s o e = rw (first, ← k, ← s, ← o, h) e

    pub request_number : (q : Request) → f ≡ 17 → q ≡ numbering (length u) → q ≡ request_of u
    unfolding request_of
    request_number q h e = rw (first, h) e

    pub request_unknown : (f ≡ 43 → ⊥) → (f ≡ 17 → ⊥) → Unknown f ≡ request_of u
    unfolding request_of
    request_unknown h k = rw (first, ne_eqb f 43 h, ne_eqb f 17 k) (sym is ∙ four)
