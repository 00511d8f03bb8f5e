-- "13 (addresses above 95 or 247, a broadcast read, counts outside the limits)", exactly then. Assumes nothing.
use mathlib.Core.Path.{◌≡◌, refl}
use mathlib.Core.Logic.{◌↔◌}
use mathlib.Core.Bool.{Bool, false}
use mathlib.Core.List.{List}
use Prim.Native.Nat.{ℕ}
use native.Mathlib.Omega.{arith}
use lib.ListN.{length}
use Rattle.base.proofs.Tests.{not_both}
use Rattle.master.specs.Sent.{sent_number, sent_of}
use Rattle.master.proofs.Sends.{sent_cases}
use Rattle.master_nfo.specs.Requests.{enquirable, selectable, enquiry_of, select_of}
use Rattle.master_nfo.proofs.Unsayable.{unenquirable, unselectable}
use Rattle.master_request.specs.Ask.{sayable, request_unit}
use Rattle.master_request.proofs.Unsayable.{unsayable}
use Rattle.demands.specs.Demand1.{Unsaid}

-- 13 is told where the request cannot be said, and only there
thirteen : {A : Type 0} (sayable : Bool) (message : List ℕ) (room : ℕ) → (sayable ≡ false) ↔ A → (sent_number (sent_of sayable message room) ≡ 13) ↔ A
thirteen sayable message room (f, g) = (
  (λ e. f (sent_cases sayable message room (λ r. sent_number r ≡ 13 → sayable ≡ false) (λ p q. p) (λ p h q. absurd (omega arith)) (λ p h q. absurd (omega arith)) e)),
  (λ a. sent_cases sayable message room (λ r. sent_number r ≡ 13) (λ p. refl) (λ p h. absurd (not_both p (g a))) (λ p h. absurd (not_both p (g a)))),
)

pub unsaid : Unsaid
unsaid =
    record {
      enquiry = λ address e room. thirteen (enquirable address) (enquiry_of address e) room (unenquirable address);
      select = λ address e word room. thirteen (selectable address) (select_of address e word) room (unselectable address);
      modbus = λ made address ask registers room.
          thirteen (sayable address ask (length registers)) (made address (request_unit ask registers)) room (unsayable address ask (length registers));
    }
