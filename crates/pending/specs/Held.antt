-- The bytes pending, and one byte more. Each definition names the whole array, so that what stands in it past the bytes pending depends on
-- the bytes that came alone. Assumes nothing.
use Rattle.std.specs.Prelude.{◌≡◌, List, ℕ, ◌+◌, ltb, length, take, set, replicate}
use Rattle.base.specs.Choice.{pick}
use Rattle.pending.specs.declared.Pending.{Pending}

-- "pending": the bytes, in order. A length above that of the array reads as that of the array
unfoldable pub held : Pending → List ℕ
held p = take p.len p.bytes

-- the array's length, which its type tells
abbrev pub Sized : Pending → Type 0
Sized p = length p.bytes ≡ 512

-- nothing is pending, and the array is zeros
unfoldable pub empty : Pending
empty = record { bytes = replicate 512 0; len = 0 }

-- nothing is pending any more
unfoldable pub emptied : Pending → Pending
emptied p = record { bytes = p.bytes; len = 0 }

-- b after the bytes pending; a full array stays as it is
unfoldable pub pushed : Pending → ℕ → Pending
pushed p b = pick (ltb p.len 512) (record { bytes = set p.bytes p.len b; len = p.len + 1 }) p

-- b alone is pending
unfoldable pub began_with : Pending → ℕ → Pending
began_with p b = record { bytes = set p.bytes 0 b; len = 1 }
