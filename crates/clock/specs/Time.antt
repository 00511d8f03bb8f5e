-- The time in milliseconds that the clock's answer tells. Assumes nothing.
use Rattle.std.specs.Prelude.{◌≡◌, ◌<◌, Bool, false, ℕ, ◌+◌, ◌*◌, ◌/◌, eqb, ltb, ℤ, pos, negsuc, Option, Some, None}
use Rattle.base.specs.Choice.{pick}

-- what a call of C's that does what it was asked to, or fails, may answer: 0, or -1
abbrev pub Status : ℤ → Type 0
Status (pos k) = k ≡ 0
Status (negsuc k) = k ≡ 0

-- a number of nanoseconds within one second
abbrev pub Nanos : ℤ → Type 0
Nanos (pos n) = n < 1000000000
Nanos (negsuc n) = ⊥

-- a number that is not negative, as it is; any other is 0
abbrev pub natural_of : ℤ → ℕ
natural_of (pos n) = n
natural_of (negsuc n) = 0

-- C's status of a call that did what it was asked to
abbrev pub is_zero : ℤ → Bool
is_zero (pos n) = eqb n 0
is_zero (negsuc n) = false

-- more seconds than this, 31 million years, are no time
abbrev pub last_second : ℕ
last_second = 1000000000000000

-- the time of a status, seconds and nanoseconds: none with a status other than 0, or with seconds past the last
unfoldable pub time_of : ℤ → ℤ → ℤ → Option ℕ
time_of status seconds nanoseconds =
    pick (is_zero status) (pick (ltb last_second (natural_of seconds)) None (Some (natural_of seconds * 1000 + natural_of nanoseconds / 1000000))) None
