-- What a scan makes of one byte. Of what is pending only the count, the byte at place 2 and, at the end of a SELECT, the bytes of the BCC
-- are looked at. Where a beginning is pending, this is document 01's stream call (the law `scan_is`). Any other bits are taken for a
-- beginning by the same count and byte, and are dropped where they are more than the shape has. Assumes nothing.
use Rattle.std.specs.Prelude.{Bool, true, false, List, ℕ, suc, eqb, ltb, length, get_or}
use Rattle.base.specs.Choice.{pick, both}
use Rattle.pending.specs.declared.Pending.{Pending}
use Rattle.pending.specs.Held.{held, emptied, pushed, began_with}
use Rattle.pending.specs.Scanning.{Feeding}
use Rattle.nfo.specs.Shape.{Kind, any, fits}
use Rattle.nfo.specs.Message.{enquiry, select, bcc_in}
use Rattle.nfo.specs.declared.scanning.Step.{Step}
use Rattle.nfo.specs.declared.scanning.Step.TheVariants.{Keeps, Ends, Checks, Spoils}

-- b may stand at place n of the shape
unfoldable pub fits_at : List Kind → ℕ → ℕ → Bool
fits_at ks n b = both (ltb n (length ks)) (fits (get_or ks n any) b)

-- what b does there, where the shape's last byte does this
unfoldable pub step_in : List Kind → Step → ℕ → ℕ → Step
step_in ks last n b = pick (fits_at ks n b) (pick (eqb (suc n) (length ks)) last Keeps) Spoils

-- what b does where n bytes are pending, the third of which is this. The byte at place 2 tells the shape: 02 stands there in a SELECT. It is
-- b itself that comes to place 2, and before that the shapes do not differ
unfoldable pub step_of : ℕ → ℕ → ℕ → Step
step_of n third b = pick (eqb (pick (ltb 2 n) third b) 0x02) (step_in select Checks n b) (step_in enquiry Ends n b)

-- a byte that spoils what is pending is looked at again, as a beginning of its own
unfoldable pub again : Pending → ℕ → Pending
again p b = pick (eqb b 0x04) (began_with p b) (emptied p)

-- whether b ends a message, by what it does and by whether it is the right BCC
abbrev pub ends_by : Step → Bool → Bool
ends_by Keeps right = false
ends_by Ends right = true
ends_by Checks right = right
ends_by Spoils right = false

-- what is pending then
abbrev pub next_by : Step → Bool → Pending → ℕ → Pending
next_by Keeps right p b = pushed p b
next_by Ends right p b = pushed p b
next_by Checks right p b = pick right (pushed p b) (again p b)
next_by Spoils right p b = again p b

abbrev pub step_after : Pending → ℕ → Step
step_after p b = step_of p.len (get_or p.bytes 2 0) b

unfoldable pub ends : Pending → ℕ → Bool
ends p b = ends_by (step_after p b) (eqb b (bcc_in p.bytes))

unfoldable pub fed : Pending → ℕ → Pending
fed p b = next_by (step_after p b) (eqb b (bcc_in p.bytes)) p b

abbrev pub feeding : Feeding
feeding = record { ends = ends; next = fed; message = held }
