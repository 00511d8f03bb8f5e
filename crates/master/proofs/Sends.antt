-- What a master's writer tells and puts, by whether the request can be said and whether its message fits: a law for each case, of both its
-- clauses. Assumes nothing.
use Rattle.std.proofs.Common.{Result, Ok, Err}
use mathlib.Core.Path.{◌≡◌, refl, ap, sym, ◌∙◌}
use mathlib.Core.Bool.{Bool, true, false, not}
use mathlib.Core.List.{List, [], ◌++◌}
use Prim.Native.Nat.{ℕ, ◌<◌, ◌≤◌}
use native.Mathlib.Omega.{arith}
use borrow.Author.Tests.{lt-ltb, le-ltb, ltb-true, ltb-false}
use lib.Dec.{ltb}
use lib.ListN.{length, take, drop}
use Rattle.base.specs.Choice.{pick}
use Rattle.base.specs.Buffers.{front}
use Rattle.base.proofs.Sets.{fitting_all, fitting_none, front_none, take_front}
use Rattle.master.specs.declared.Unsent.TheVariants.{CannotBeSaid, ShortBuffer}
use Rattle.master.specs.Sent.{sent_of, bytes_sent}
use Rattle.master.specs.declared.Unsent.{Unsent}

module _ (s : Bool) (m buf : List ℕ) where
  -- ---- 13: the request cannot be said
  module _ (h : s ≡ false) where
    pub cannot_sent : Err CannotBeSaid ≡ sent_of s m (length buf)
    unfolding sent_of
    cannot_sent = simp h

    pub cannot_bytes : bytes_sent s m (length buf) ≡ []
    unfolding bytes_sent
    cannot_bytes = simp h

    pub cannot_lent : buf ≡ front (bytes_sent s m (length buf)) buf
    cannot_lent = sym (front_none buf) ∙ ap (λ (b : List ℕ). front b buf) (sym cannot_bytes)

  module _ (h : s ≡ true) where
    -- ---- 10: its message does not fit
    module _ (k : length buf < length m) where
      pub short_sent : Err ShortBuffer ≡ sent_of s m (length buf)
      unfolding sent_of
      short_sent = simp (h, lt-ltb (length buf) (length m) k)

      pub short_bytes : bytes_sent s m (length buf) ≡ []
      unfolding bytes_sent
      short_bytes = simp h (fitting_none m (length buf) k)

      pub short_lent : buf ≡ front (bytes_sent s m (length buf)) buf
      short_lent = sym (front_none buf) ∙ ap (λ (b : List ℕ). front b buf) (sym short_bytes)

    -- ---- 0: it fits
    module _ (k : length m ≤ length buf) where
      pub written_sent : (r : ℕ) → r ≡ length m → Ok r ≡ sent_of s m (length buf)
      unfolding sent_of
      written_sent r e = simp (h, le-ltb (length buf) (length m) k, e)

      pub written_bytes : bytes_sent s m (length buf) ≡ m
      unfolding bytes_sent
      written_bytes = simp h (fitting_all m (length buf) k)

      pub written_lent : (out : List ℕ) → out ≡ front m buf → out ≡ front (bytes_sent s m (length buf)) buf
      written_lent out e = e ∙ ap (λ (b : List ℕ). front b buf) (sym written_bytes)

    -- ---- a request that can be said, handed to `send`
    pub said_sent : (n : ℕ) (r : Result ℕ Unsent) → r ≡ sent_of true m n → r ≡ sent_of s m n
    said_sent n r e = e ∙ ap (λ (t : Bool). sent_of t m n) (sym h)

    pub said_lent : (n : ℕ) (out : List ℕ) → out ≡ front (bytes_sent true m n) buf → out ≡ front (bytes_sent s m n) buf
    said_lent n out e = e ∙ ap (λ (t : Bool). front (bytes_sent t m n) buf) (sym h)

-- what the copy leaves is the message in front
pub copied_front : (m buf start : List ℕ) → start ≡ m → start ++ drop (length m) buf ≡ front m buf
unfolding front
copied_front m buf start e = rw e

-- ---- what was told says which case it was: 13 where the request cannot be said, 10 where it can and its message does not fit, else 0
module _ (s : Bool) (m : List ℕ) (n : ℕ) where
  pub sent_cases : (P : Result ℕ Unsent → Type 0) → (s ≡ false → P (Err CannotBeSaid)) → (s ≡ true → n < length m → P (Err ShortBuffer)) → (s ≡ true → length m ≤ n → P (Ok (length m)))
      → P (sent_of s m n)
  unfolding sent_of
  sent_cases P cannot short written = go s (ltb n (length m)) refl refl
    where
      go : (t u : Bool) → s ≡ t → ltb n (length m) ≡ u → P (pick (not t) (Err CannotBeSaid) (pick u (Err ShortBuffer) (Ok (length m))))
      go false u p q = cannot p
      go true true p q = short p (ltb-true n (length m) q)
      go true false p q = written p (ltb-false n (length m) q)

  pub written_only : (k : ℕ) → sent_of s m n ≡ Ok k → (s ≡ true) × (length m ≤ n) × (k ≡ length m)
  written_only k = sent_cases (λ (r : Result ℕ Unsent). r ≡ Ok k → (s ≡ true) × (length m ≤ n) × (k ≡ length m))
      (λ p e. let z : ◌≡◌ {A = ℕ} 0 1 = cc in absurd (omega arith))
      (λ p h e. let z : ◌≡◌ {A = ℕ} 0 1 = cc in absurd (omega arith))
      (λ p h e. (p, h, cc))

-- and where it was 0, so many bytes at the start of the buffer are the message
pub written_message : (s : Bool) (m buf out : List ℕ) (k : ℕ) → sent_of s m (length buf) ≡ Ok k → out ≡ front (bytes_sent s m (length buf)) buf → take k out ≡ m
written_message s m buf out k e q =
    let r = written_only s m (length buf) k e in
    rw (r.2, q, written_bytes s m buf r.0 r.1) (take_front m buf)
