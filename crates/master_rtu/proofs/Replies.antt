-- What a frame answers, by the code's test of it. Assumes nothing.
use Rattle.std.proofs.Common.{None}
use mathlib.Core.Path.{◌≡◌, ap₂, ◌∙◌}
use mathlib.Core.Bool.{true, false}
use mathlib.Core.List.{List, []}
use Prim.Native.Nat.{ℕ}
use Rattle.rtu.specs.Rtu.{frame_holds, address_in, unit_in}
use Rattle.master_reply.specs.declared.Heard.{Heard}
use Rattle.master_reply.specs.Reply.{heard, heard_of}
use Rattle.master_rtu.specs.Heard.{rtu_heard}

pub heard_none : (f : List ℕ) → frame_holds f ≡ false → heard None [] ≡ rtu_heard f
unfolding rtu_heard
heard_none f h = rw h

pub heard_held : (f u : List ℕ) (a : ℕ) (r : Heard) → frame_holds f ≡ true → a ≡ address_in f → u ≡ unit_in f → r ≡ heard_of a u → r ≡ rtu_heard f
unfolding rtu_heard
heard_held f u a r h i j k = rw h (k ∙ ap₂ heard_of i j)
