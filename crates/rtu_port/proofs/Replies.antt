-- What is replied to a frame that is taken. Assumes nothing.
use Rattle.std.proofs.Common.{Some}
use mathlib.Core.Path.{◌≡◌, ap, ◌∙◌}
use mathlib.Core.Bool.{true}
use mathlib.Core.List.{List}
use Prim.Native.Nat.{ℕ}
use native.Mathlib.Omega.{arith}
use Rattle.modbus.specs.Answer.{unit_of}
use Rattle.modbus.specs.declared.replies.Answer.{Answer}
use Rattle.modbus.proofs.Units.{unit_short, unit_some}
use Rattle.rtu.specs.Rtu.{frame_holds, address_in, unit_in, rtu_of}
use Rattle.rtu.proofs.RoundTrip.{own_address, own_unit, own_frame}
use Rattle.card.specs.declared.state.Card.{Card}
use Rattle.rtu_port.specs.Receive.{exchange_on, frame_of, taken}

-- where there is an answer, a frame is replied whose length and CRC are right; it comes from the address that was asked, and its data unit is the answer's
pub replies : (c : Card) (frame : List ℕ) (answer : Answer) → (exchange_on c frame).reply ≡ Some answer
    → (frame_holds (taken c frame).reply ≡ true) × (address_in (taken c frame).reply ≡ address_in frame) × (unit_in (taken c frame).reply ≡ unit_of c.identity answer)
replies c frame answer e =
    let a : ℕ = address_in frame in
    let u : List ℕ = unit_of c.identity answer in
    let is : (taken c frame).reply ≡ rtu_of a u = ap (frame_of c.identity a) e in
    (ap frame_holds is ∙ own_frame a u (unit_some c.identity answer) (omega (arith, unit_short c.identity answer)), ap address_in is ∙ own_address a u, ap unit_in is ∙ own_unit a u)
