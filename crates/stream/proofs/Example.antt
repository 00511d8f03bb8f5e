-- The tiny format is lawful, so the theorem holds of it. Assumes nothing.
use mathlib.Core.Path.{◌≡◌, refl}
use mathlib.Core.Bool.{true, false≢true}
use mathlib.Core.List.{List, [], ◌∷◌, ◌++◌}
use Prim.Native.Nat.{ℕ}
use native.Mathlib.Omega.{arith}
use borrow.Author.Tests.{eqb-true, ltb-true}
use lib.Dec.{eqb, ltb}
use Rattle.base.proofs.Tests.{both_out}
use Rattle.base.specs.Choice.{both}
use Rattle.base.specs.Bytes.{AllBelow}
use Rattle.stream.specs.Format.{Lawful, CouldBecome, Without}
use Rattle.stream.specs.Theorem.{StreamTheorem}
use Rattle.stream.specs.Example.{is_message, is_beginning, tiny}
use Rattle.stream.proofs.Theorem.{stream}

-- a message is 04 21 and a byte
is_message_lem : (m : List ℕ) → is_message m ≡ true → (c : ℕ) × (m ≡ 0x04 ∷ 0x21 ∷ c ∷ []) × (ltb c 256 ≡ true)
is_message_lem [] e = absurd (false≢true e)
is_message_lem (a ∷ []) e = absurd (false≢true e)
is_message_lem (a ∷ b ∷ []) e = absurd (false≢true e)
is_message_lem (a ∷ b ∷ c ∷ []) e =
    let h = both_out (eqb a 0x04) (both (eqb b 0x21) (ltb c 256)) e in
    let k = both_out (eqb b 0x21) (ltb c 256) h.1 in
    let ea : a ≡ 0x04 = eqb-true a 0x04 h.0 in
    let eb : b ≡ 0x21 = eqb-true b 0x21 k.0 in
    (c, (rw (ea, eb)), k.1)
is_message_lem (a ∷ b ∷ c ∷ d ∷ s) e = absurd (false≢true e)

could : (s : List ℕ) → is_beginning s ≡ true → CouldBecome tiny s
could [] e = (0x04, 0x21 ∷ 0 ∷ [], refl)
could (a ∷ []) e = (0x21, 0 ∷ [], rw e)
could (a ∷ b ∷ []) e =
    let h = both_out (eqb a 0x04) (eqb b 0x21) e in
    (0, [], rw (h.0, h.1))
could (a ∷ b ∷ c ∷ s) e = absurd (false≢true e)

beginning : (s : List ℕ) → CouldBecome tiny s → is_beginning s ≡ true
beginning [] c = refl
beginning (a ∷ []) c = let m = is_message_lem (a ∷ c.0 ∷ c.1) c.2 in let e : a ≡ 0x04 = cc m.1 in rw e
beginning (a ∷ b ∷ []) c =
    let m = is_message_lem (a ∷ b ∷ c.0 ∷ c.1) c.2 in
    let ea : a ≡ 0x04 = cc m.1 in
    let eb : b ≡ 0x21 = cc m.1 in
    rw (ea, eb)
beginning (a ∷ b ∷ x ∷ []) c = absurd (false≢true c.2)
beginning (a ∷ b ∷ x ∷ y ∷ s) c = absurd (false≢true c.2)

no_longer : (m more : List ℕ) → is_message m ≡ true → is_message (m ++ more) ≡ true → more ≡ []
no_longer m [] e f = refl
no_longer [] (x ∷ more) e f = absurd (false≢true e)
no_longer (a ∷ []) (x ∷ more) e f = absurd (false≢true e)
no_longer (a ∷ b ∷ []) (x ∷ more) e f = absurd (false≢true e)
no_longer (a ∷ b ∷ c ∷ []) (x ∷ more) e f = absurd (false≢true f)
no_longer (a ∷ b ∷ c ∷ d ∷ s) (x ∷ more) e f = absurd (false≢true e)

no_start_inside : (x : ℕ) (p : List ℕ) → is_beginning (x ∷ p) ≡ true → Without 0x04 p
no_start_inside x [] e = tt
no_start_inside x (b ∷ []) e =
    let eb : b ≡ 0x21 = eqb-true b 0x21 (both_out (eqb x 0x04) (eqb b 0x21) e).1 in
    (λ h. omega arith, tt)
no_start_inside x (b ∷ c ∷ s) e = absurd (false≢true e)

pub tiny_lawful : Lawful tiny
unfolding AllBelow
tiny_lawful = record {
  bytes = λ m e. let h = is_message_lem m e in rw h.1 (omega arith, (omega arith, (ltb-true h.0 256 h.2, tt)));
  some_message = could [] refl;
  viable_iff = λ s. (could s, beginning s);
  prefix_free = no_longer;
  begins = λ m e. let h = is_message_lem m e in (0x21, h.0 ∷ [], h.1);
  inner = no_start_inside;
}

pub tiny_stream : StreamTheorem tiny
tiny_stream = stream tiny tiny_lawful
