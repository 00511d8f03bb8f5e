-- What the writer of data units stores: each answer's unit, from the bytes that the code put together. Assumes nothing.
use mathlib.Core.Path.{◌≡◌, refl, sym, ap, ◌∙◌}
use mathlib.Core.List.{List, ◌∷◌}
use Prim.Native.Nat.{ℕ, suc, ◌+◌, ◌-◌, ◌≤◌, ◌<◌}
use native.Mathlib.Omega.{arith}
use mir.Syntax.{w64}
use mir.Val.{Fits}
use lib.Bits.{or_lt}
use lib.ListN.{length, drop, set, length-take}
use lib.Seq.{sets}
use borrow.Rule.Slice.PartMut.{mid_of, put_mid}
use Rattle.base.specs.Bytes.{AllBelow, Bytes}
use Rattle.base.proofs.Lists.{below_take, below_drop}
use Rattle.base.proofs.Sets.{sets_out, headed}
use Rattle.identity.specs.Identity as Identities
use Rattle.identity.specs.declared.Part.{Part}
use Rattle.identity.specs.declared.Part.TheVariants.{Objects, Serial}
use Rattle.modbus_words.specs.Words.{word_bytes, long_bytes}
use Rattle.modbus.specs.Answer.{short_of, unit_of}
use Rattle.modbus.specs.declared.replies.Answer.{Answer}
use Rattle.modbus.specs.declared.replies.Answer.TheVariants.{Word, Long, Echo, Identity, Exception}
use Rattle.modbus.proofs.Objects.{objects_count, told_short, told_below}

-- an answer that is no part of the identity has its short unit
abbrev pub Short : Answer → Type 0
Short answer = (part : Part) → answer ≡ Identity part → ⊥

short_unit : (i : Identities.Identity) (answer : Answer) → Short answer → short_of answer ≡ unit_of i answer
unfolding unit_of
short_unit i (Word f w) t = refl
short_unit i (Long f v) t = refl
short_unit i (Echo f r n) t = refl
short_unit i (Identity part) t = absurd (t part refl)
short_unit i (Exception f c) t = refl

-- ---- how long a unit is
-- one that tells no part of the identity has 6 bytes at most
pub short_most : (answer : Answer) → length (short_of answer) ≤ 6
unfolding short_of long_bytes word_bytes
short_most (Word f w) = omega arith
short_most (Long f v) = omega arith
short_most (Echo f r n) = omega arith
short_most (Identity p) = omega arith
short_most (Exception f e) = omega arith

-- and no unit at all more than 72: seven bytes before the objects
pub unit_short : (i : Identities.Identity) (answer : Answer) → length (unit_of i answer) ≤ 72
unfolding unit_of Identities.part_unit Identities.objects_unit Identities.serial
unit_short i (Word f w) = omega (arith, short_most (Word f w))
unit_short i (Long f v) = omega (arith, short_most (Long f v))
unit_short i (Echo f r n) = omega (arith, short_most (Echo f r n))
unit_short i (Identity (Objects code first last)) = omega (arith, told_short first last i)
unit_short i (Identity Serial) = omega (arith, length-take 16 (drop 25 i))
unit_short i (Exception f e) = omega (arith, short_most (Exception f e))

-- and each has a function at least
pub unit_some : (i : Identities.Identity) (answer : Answer) → 1 ≤ length (unit_of i answer)
unfolding unit_of short_of Identities.part_unit Identities.objects_unit
unit_some i (Word f w) = omega arith
unit_some i (Long f v) = omega arith
unit_some i (Echo f r n) = omega arith
unit_some i (Identity (Objects code first last)) = omega arith
unit_some i (Identity Serial) = omega arith
unit_some i (Exception f e) = omega arith

-- ---- the unit of an answer whose numbers are in their widths is bytes
abbrev pub InWidth : Answer → Type 0
InWidth (Word f w) = (f < 256) × (w < 65536)
InWidth (Long f v) = (f < 256) × (v < 4294967296)
InWidth (Echo f r n) = (f < 256) × (r.0 < 65536) × (n < 65536)
InWidth (Identity (Objects code first last)) = code < 256
InWidth (Identity Serial) = Unit {0}
InWidth (Exception f e) = (f < 256) × (e < 256)

pub unit_below : (i : Identities.Identity) (answer : Answer) → Bytes i → InWidth answer → Bytes (unit_of i answer)
unfolding unit_of short_of long_bytes word_bytes AllBelow Identities.part_unit Identities.objects_unit Identities.serial
unit_below i (Word f w) b h = (h.0, (omega arith, (omega (arith, h.1), (omega arith, tt))))
unit_below i (Long f v) b h = (h.0, (omega arith, (omega arith, (omega arith, (omega (arith, h.1), (omega arith, tt))))))
unit_below i (Echo f r n) b h = (h.0, (omega (arith, h.1), (omega arith, (omega (arith, h.2), (omega arith, tt)))))
unit_below i (Identity (Objects code first last)) b h =
    (omega arith, (omega arith, (h, (omega arith, (omega arith, (omega arith, (omega (arith, objects_count first last i), told_below first last i b)))))))
unit_below i (Identity Serial) b h = (omega arith, (omega arith, below_take 256 16 (drop 25 i) (below_drop 256 25 i b)))
unit_below i (Exception f e) b h = (or_lt 8 f 0x80 h.0 (omega arith), (h.1, tt))

-- ---- an address before it
pub body_fits : (i : Identities.Identity) (answer : Answer) (n : ℕ) → n ≡ length (unit_of i answer) → Fits w64 (n + 1)
body_fits i answer n e = omega (arith, unit_short i answer)

pub part_fits : (i : Identities.Identity) (part : Part) (n : ℕ) → n ≡ length (Identities.part_unit i part) → Fits w64 (n + 1)
unfolding unit_of
part_fits i part n e = body_fits i (Identity part) n e

pub short_fits : (answer : Answer) (n : ℕ) → n ≡ length (short_of answer) → Fits w64 (n + 1)
short_fits answer n e = omega (arith, short_most answer)

pub body_count : (n : ℕ) (unit : List ℕ) → n ≡ length unit → n + 1 ≡ suc (length unit)
body_count n unit e = omega arith

-- the slice after the store of the address; its part from j on comes back as l, as stores made it
abbrev Behind : ℕ → List ℕ → List ℕ → List ℕ → Type 0
Behind j headed unit l = l ≡ sets (mid_of j (length headed - j) headed) 0 unit

-- nothing is stored in a slice of no bytes
pub body_none : (address : ℕ) (unit before now : List ℕ) → length before ≡ 0 → now ≡ sets before 0 unit → now ≡ sets before 0 (address ∷ unit)
body_none address unit before now h e =
    let none : length before ≤ 0 = omega arith in
    e ∙ sets_out unit before 0 none ∙ sym (sets_out (address ∷ unit) before 0 none)

-- ---- what is told and stored of a part of the identity, or of a short unit, is the answer's: by itself, and behind an address
module _ (i : Identities.Identity) (answer : Answer) (u : List ℕ) (same : u ≡ unit_of i answer) where
  as_told : (n : ℕ) → n ≡ length u → n ≡ length (unit_of i answer)
  as_told n e = e ∙ ap length same

  as_stored : (before now : List ℕ) → now ≡ sets before 0 u → now ≡ sets before 0 (unit_of i answer)
  as_stored before now e = e ∙ ap (sets before 0) same

  as_told_behind : (n : ℕ) → n ≡ length u → n + 1 ≡ suc (length (unit_of i answer))
  as_told_behind n e = body_count n (unit_of i answer) (as_told n e)

  as_stored_behind : (address : ℕ) (before l : List ℕ) → (length before ≡ 0 → ⊥) → Behind 1 (set before 0 address) u l
      → put_mid 1 (length (set before 0 address) - 1) (set before 0 address) l ≡ sets before 0 (address ∷ unit_of i answer)
  as_stored_behind address before l some e = headed before (unit_of i answer) l address (omega arith) (as_stored (mid_of 1 (length (set before 0 address) - 1) (set before 0 address)) l e)

module _ (i : Identities.Identity) (answer : Answer) (part : Part) (is : answer ≡ Identity part) where
  same : Identities.part_unit i part ≡ unit_of i answer
  unfolding unit_of
  same = rw is refl

  pub part_told_behind : (n : ℕ) → n ≡ length (Identities.part_unit i part) → n + 1 ≡ suc (length (unit_of i answer))
  part_told_behind = as_told_behind i answer (Identities.part_unit i part) same

  pub part_stored_behind : (address : ℕ) (before l : List ℕ) → (length before ≡ 0 → ⊥) → Behind 1 (set before 0 address) (Identities.part_unit i part) l
      → put_mid 1 (length (set before 0 address) - 1) (set before 0 address) l ≡ sets before 0 (address ∷ unit_of i answer)
  part_stored_behind = as_stored_behind i answer (Identities.part_unit i part) same

module _ (i : Identities.Identity) (answer : Answer) (is : Short answer) where
  pub short_told_behind : (n : ℕ) → n ≡ length (short_of answer) → n + 1 ≡ suc (length (unit_of i answer))
  short_told_behind = as_told_behind i answer (short_of answer) (short_unit i answer is)

  pub short_stored_behind : (address : ℕ) (before l : List ℕ) → (length before ≡ 0 → ⊥) → Behind 1 (set before 0 address) (short_of answer) l
      → put_mid 1 (length (set before 0 address) - 1) (set before 0 address) l ≡ sets before 0 (address ∷ unit_of i answer)
  short_stored_behind = as_stored_behind i answer (short_of answer) (short_unit i answer is)
