-- Tenths and ticks, case by case. Assumes nothing.
use mathlib.Core.Path.{◌≡◌, refl, sym, ap, ◌∙◌}
use mathlib.Core.List.{List, [], ◌∷◌}
use Prim.Native.Nat.{ℕ, zero, suc, ◌+◌, ◌-◌, ◌*◌, ◌/◌, ◌%◌, ◌≤◌, ◌<◌}
use native.Mathlib.Omega.{arith}
use Rattle.port.specs.Port.{Numbers}
use Rattle.drive.specs.Plant.{Plant}
use Rattle.card.specs.State.{Core}
use Rattle.card.specs.Events.{Ticked, ticked_in}
use Rattle.card.specs.declared.outcome.Outcome.{Outcome}
use Rattle.ticks.specs.Ticks.{passed_from, rest, ticks_of, ticking, handed_over, tenths_over, Rising, last_of}

-- ---- the tenths
-- a clock that does not go back ends no earlier than it began
rising_last : (later : List ℕ) (present : ℕ) → Rising present later → present ≤ last_of present later
rising_last [] present r = omega arith
rising_last (t ∷ later) present (up, r) = omega (arith, up, rising_last later t r)

-- however often the clock is read, up to the time `now`, the tenths that are counted lead to a time that is less than one before it
counted_over : (later : List ℕ) (last now : ℕ) → last ≤ now → now < last + 100 → Rising now later → tenths_over last later ≡ (last_of now later - last) / 100
unfolding passed_from
counted_over [] last now h l r = omega arith
counted_over (present ∷ later) last now h l (up, r) =
    let next : ℕ = present - (present - last) % 100 in
    let end : ℕ = last_of present later in
    let more : tenths_over next later ≡ (end - next) / 100 = counted_over later next present (omega arith) (omega arith) r in
    omega (arith, more, rising_last later present r)

pub all_counted : (last : ℕ) (times : List ℕ) → Rising last times → tenths_over last times ≡ (last_of last times - last) / 100
all_counted last times r = counted_over times last last (omega arith) (omega arith) r

-- ---- the ticks
-- 250 tenths and more begin with a tick of 250
ticks_more : (n : ℕ) → 250 ≤ n → ticks_of n ≡ 250 ∷ ticks_of (n - 250)
unfolding ticks_of
ticks_more n h =
    let one : n / 250 ≡ suc ((n - 250) / 250) = omega arith in
    let same : n % 250 ≡ (n - 250) % 250 = omega arith in
    rw (one, same)

-- fewer are one tick, or none
ticks_rest : (n : ℕ) → n < 250 → ticks_of n ≡ rest n
unfolding ticks_of
ticks_rest n h =
    let none : n / 250 ≡ 0 = omega arith in
    let all : n % 250 ≡ n = omega arith in
    rw (none, all)

le_zero : (n : ℕ) → n ≤ 0 → n ≡ 0
le_zero n h = omega arith

rest_some : (n : ℕ) → 0 < n → rest n ≡ n ∷ []
rest_some zero h = absurd (omega arith)
rest_some (suc n) h = refl

-- ---- the loop: what is left to hand over after n ticks of 250, from the port and the plant that there are now, gives what all gives from the first
module _ (k : Core) (tenths n : ℕ) (q : Numbers) (p : Plant) (inv : handed_over (tenths - 250 * n) (record { port = q; plant = p }) ≡ handed_over tenths k) where
  -- a tick of 250 more
  pub handed_on : (y x : Plant) (o : Outcome) → n < tenths / 250 → ◌≡◌ {A = Ticked} (record { core = record { port = y; plant = x }; outcome = o }) (ticked_in 250 (record { port = q; plant = p }))
      → handed_over (tenths - 250 * (n + 1)) (record { port = y; plant = x }) ≡ handed_over tenths k
  unfolding handed_over
  handed_on y x o l t =
      let more : 250 ≤ tenths - 250 * n = omega arith in
      let left : tenths - 250 * (n + 1) ≡ tenths - 250 * n - 250 = omega arith in
      rw left
      (ap (λ (r : Ticked). ticking (ticks_of (tenths - 250 * n - 250)) r.core) t
      ∙ sym (ap (λ (l : List ℕ). ticking l (record { port = q; plant = p })) (ticks_more (tenths - 250 * n) more))
      ∙ inv)

  module _ (all : tenths / 250 ≤ n) (last : n ≤ tenths / 250) where
    -- the rest, which is a tick, or none
    left_rest : ticks_of (tenths - 250 * n) ≡ rest (tenths % 250)
    left_rest =
        let left : tenths - 250 * n ≡ tenths % 250 = omega arith in
        rw left (ticks_rest (tenths % 250) (omega arith))

    pub handed_rest : (y x : Plant) (o : Outcome) → 0 < tenths % 250 → ◌≡◌ {A = Ticked} (record { core = record { port = y; plant = x }; outcome = o }) (ticked_in (tenths % 250) (record { port = q; plant = p }))
        → ◌≡◌ {A = Core} (record { port = y; plant = x }) (handed_over tenths k)
    unfolding handed_over
    handed_rest y x o l t =
        ap (λ (r : Ticked). r.core) t ∙ sym (ap (λ (l : List ℕ). ticking l (record { port = q; plant = p })) (left_rest ∙ rest_some (tenths % 250) l)) ∙ inv

    pub handed_none : tenths % 250 ≤ 0 → ◌≡◌ {A = Core} (record { port = q; plant = p }) (handed_over tenths k)
    unfolding handed_over
    handed_none z = sym (ap (λ (l : List ℕ). ticking l (record { port = q; plant = p })) (left_rest ∙ ap rest (le_zero (tenths % 250) z))) ∙ inv
