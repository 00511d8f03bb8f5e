-- Worked units at station 1, one table: document 01's case 7, and one for each rule. Assumes nothing.
use Rattle.std.specs.Prelude.{◌≡◌, refl, List, [], ◌∷◌, map, ℕ, Option, Some, None}
use Rattle.table.specs.Table.{rows, line_at, start_words}
use Rattle.table.specs.Address.{address, first_register}
use Rattle.table.specs.Find.{first_row, row_of_span}
use Rattle.allowed.specs.Allowed.{twos, within, allows, allowed_at}
use Rattle.identity.specs.Identity.{up_to, objects_asked}
use Rattle.identity.specs.declared.Part.TheVariants.{Objects, Serial}
use Rattle.drive.specs.Plant.{Plant, flags, started}
use Rattle.drive.specs.Flags.{flagged, lowest_from, lowest_of}
use Rattle.drive.specs.Status.{active, flag_stands, runs, status_of, ready, status_word, righted}
use Rattle.drive.specs.Faults.{reflagged, halted, flag_raised, acknowledged}
use Rattle.drive.specs.Events.{is_fault, raised, ended}
use Rattle.answers.specs.Answer.{answer_number}
use Rattle.reading.specs.Read as Reading
use Rattle.permit.specs.Refusals.{read_only, bounds_of, allowed, init_running, permitted}
use Rattle.permit.specs.Permit.{permit_of}
use Rattle.service.specs.Write.{followed, applied, written}
use Rattle.service.specs.Serving.{told_served, wrote_served}
use Rattle.modbus_words.specs.Words.{word_at, long_at}
use Rattle.modbus.specs.Request.{label, reads, writes, asked, identifying, numbering, asked_of, request_of}
use Rattle.modbus.specs.declared.replies.Answer.TheVariants.{Word, Long, Echo, Identity, Exception}
use Rattle.modbus_service.specs.Serve.{reaches_us, task_of, done, served}
use Rattle.modbus_service.specs.Reply.{Exchanged, registers_told, replied_by, replied, exchanged}
use Rattle.modbus.specs.declared.replies.Answer as Units

-- fault 5 was raised, and its cause has ended: flag 5, of mask 20h, still stands
abbrev over : Plant
over = (ended 5 (raised 5 started).plant).plant

-- the outcome's number, the flags then, the reply
abbrev Result : Type 0
Result = ℕ × ℕ × Option Units.Answer

abbrev result : Exchanged → Result
result e = (answer_number e.served.answer, flags e.served.plant, e.reply)

-- a plant, an address and a unit, and what they come to
abbrev pub cases : List ((Plant × ℕ × List ℕ) × Result)
cases =
    -- "7. ★ `:01030294000165`: `:0103020001F9`. ★ `:0103070C0001E8`: `:0183027A`. ★ `:000302A4000156`: outcome 1, nothing acknowledged."
    ((started, 1, 0x03 ∷ 0x02 ∷ 0x94 ∷ 0x00 ∷ 0x01 ∷ []), (0, 0, Some (Word 0x03 1)))
    ∷ ((started, 1, 0x03 ∷ 0x07 ∷ 0x0C ∷ 0x00 ∷ 0x01 ∷ []), (2, 0, Some (Exception 0x03 2)))
    ∷ ((over, 0, 0x03 ∷ 0x02 ∷ 0xA4 ∷ 0x00 ∷ 0x01 ∷ []), (1, 0x20, None))
    -- 02A4h acknowledges, 02A5h does not; both are no span
    ∷ ((over, 1, 0x03 ∷ 0x02 ∷ 0xA4 ∷ 0x00 ∷ 0x01 ∷ []), (0, 0, Some (Word 0x03 5)))
    ∷ ((over, 1, 0x04 ∷ 0x02 ∷ 0xA5 ∷ 0x00 ∷ 0x01 ∷ []), (0, 0x20, Some (Word 0x04 5)))
    ∷ ((over, 1, 0x03 ∷ 0x02 ∷ 0xA4 ∷ 0x00 ∷ 0x02 ∷ []), (2, 0x20, Some (Exception 0x03 2)))
    -- Accel 100, by 06 and by 16; to all; and while a flag stands
    ∷ ((started, 1, 0x06 ∷ 0x06 ∷ 0xDC ∷ 0x00 ∷ 0x64 ∷ []), (0, 0, Some (Echo 0x06 (label 0x06DC) 100)))
    ∷ ((started, 1, 0x10 ∷ 0x06 ∷ 0xDC ∷ 0x00 ∷ 0x01 ∷ 0x02 ∷ 0x00 ∷ 0x64 ∷ []), (0, 0, Some (Echo 0x10 (label 0x06DC) 1)))
    ∷ ((started, 0, 0x06 ∷ 0x06 ∷ 0xDC ∷ 0x00 ∷ 0x64 ∷ []), (0, 0, None))
    ∷ ((over, 1, 0x06 ∷ 0x06 ∷ 0xDC ∷ 0x00 ∷ 0x64 ∷ []), (5, 0x20, Some (Exception 0x06 4)))
    -- SpdScl num, of two registers: 1000000 low word first, and high word first; 06; its word
    ∷ ((started, 1, 0x10 ∷ 0x07 ∷ 0x0C ∷ 0x00 ∷ 0x02 ∷ 0x04 ∷ 0x42 ∷ 0x40 ∷ 0x00 ∷ 0x0F ∷ []), (0, 0, Some (Echo 0x10 (label 0x070C) 2)))
    ∷ ((started, 1, 0x10 ∷ 0x07 ∷ 0x0C ∷ 0x00 ∷ 0x02 ∷ 0x04 ∷ 0x00 ∷ 0x0F ∷ 0x42 ∷ 0x40 ∷ []), (4, 0, Some (Exception 0x10 3)))
    ∷ ((started, 1, 0x06 ∷ 0x07 ∷ 0x0C ∷ 0x00 ∷ 0x01 ∷ []), (2, 0, Some (Exception 0x06 2)))
    ∷ ((started, 1, 0x03 ∷ 0x07 ∷ 0x0C ∷ 0x00 ∷ 0x02 ∷ []), (0, 0, Some (Long 0x03 1)))
    -- a row that is only read; a bad length, also of a broadcast read; an unknown function, also to all
    ∷ ((started, 1, 0x06 ∷ 0x02 ∷ 0xA4 ∷ 0x00 ∷ 0x00 ∷ []), (3, 0, Some (Exception 0x06 2)))
    ∷ ((started, 1, 0x03 ∷ 0x02 ∷ 0x94 ∷ 0x00 ∷ []), (8, 0, Some (Exception 0x03 3)))
    ∷ ((started, 0, 0x03 ∷ 0x02 ∷ 0x94 ∷ 0x00 ∷ []), (1, 0, None))
    ∷ ((started, 1, 0xAB ∷ []), (9, 0, Some (Exception 0xAB 1)))
    ∷ ((started, 0, 0x2C ∷ []), (9, 0, None))
    -- Drive Status: DIN1 inactive is bit 6, a flag bit 3; it is only read, by its one register
    ∷ ((started, 1, 0x03 ∷ 0x02 ∷ 0x58 ∷ 0x00 ∷ 0x01 ∷ []), (0, 0, Some (Word 0x03 0x0040)))
    ∷ ((over, 1, 0x04 ∷ 0x02 ∷ 0x58 ∷ 0x00 ∷ 0x01 ∷ []), (0, 0x20, Some (Word 0x04 0x0048)))
    ∷ ((started, 0, 0x03 ∷ 0x02 ∷ 0x58 ∷ 0x00 ∷ 0x01 ∷ []), (1, 0, None))
    ∷ ((started, 1, 0x06 ∷ 0x02 ∷ 0x58 ∷ 0x00 ∷ 0x00 ∷ []), (3, 0, Some (Exception 0x06 2)))
    ∷ ((over, 1, 0x10 ∷ 0x02 ∷ 0x58 ∷ 0x00 ∷ 0x01 ∷ 0x02 ∷ 0x00 ∷ 0x48 ∷ []), (3, 0x20, Some (Exception 0x10 2)))
    ∷ ((started, 1, 0x03 ∷ 0x02 ∷ 0x58 ∷ 0x00 ∷ 0x02 ∷ []), (2, 0, Some (Exception 0x03 2)))
    -- another address
    ∷ ((started, 2, 0x2C ∷ []), (1, 0, None))
    -- 43, type 14: code 01 from object 00h; code 02 from 05h; from 07h, which lies outside; code 04 of 04h, and of 07h. Nothing is acknowledged
    ∷ ((over, 1, 0x2B ∷ 0x0E ∷ 0x01 ∷ 0x00 ∷ []), (0, 0x20, Some (Identity (Objects 1 0 2))))
    ∷ ((started, 1, 0x2B ∷ 0x0E ∷ 0x02 ∷ 0x05 ∷ []), (0, 0, Some (Identity (Objects 2 5 6))))
    ∷ ((started, 1, 0x2B ∷ 0x0E ∷ 0x02 ∷ 0x07 ∷ []), (0, 0, Some (Identity (Objects 2 0 6))))
    ∷ ((started, 1, 0x2B ∷ 0x0E ∷ 0x04 ∷ 0x04 ∷ []), (0, 0, Some (Identity (Objects 4 4 4))))
    ∷ ((started, 1, 0x2B ∷ 0x0E ∷ 0x04 ∷ 0x07 ∷ []), (2, 0, Some (Exception 0x2B 2)))
    -- code 03; a byte more; no type byte; type 13, also where the length is wrong
    ∷ ((started, 1, 0x2B ∷ 0x0E ∷ 0x03 ∷ 0x00 ∷ []), (8, 0, Some (Exception 0x2B 3)))
    ∷ ((started, 1, 0x2B ∷ 0x0E ∷ 0x01 ∷ 0x00 ∷ 0x00 ∷ []), (8, 0, Some (Exception 0x2B 3)))
    ∷ ((started, 1, 0x2B ∷ []), (8, 0, Some (Exception 0x2B 3)))
    ∷ ((started, 1, 0x2B ∷ 0x0D ∷ 0x01 ∷ 0x00 ∷ []), (9, 0, Some (Exception 0x2B 1)))
    ∷ ((started, 1, 0x2B ∷ 0x0D ∷ []), (9, 0, Some (Exception 0x2B 1)))
    -- 17, and with a byte more
    ∷ ((started, 1, 0x11 ∷ []), (0, 0, Some (Identity Serial)))
    ∷ ((started, 1, 0x11 ∷ 0x00 ∷ []), (8, 0, Some (Exception 0x11 3)))
    -- to all: 1, also where they would be refused; but type 13 is 9
    ∷ ((started, 0, 0x2B ∷ 0x0E ∷ 0x01 ∷ 0x00 ∷ []), (1, 0, None))
    ∷ ((started, 0, 0x2B ∷ 0x0E ∷ 0x04 ∷ 0x07 ∷ []), (1, 0, None))
    ∷ ((started, 0, 0x2B ∷ 0x0E ∷ 0x03 ∷ 0x00 ∷ []), (1, 0, None))
    ∷ ((started, 0, 0x2B ∷ []), (1, 0, None))
    ∷ ((started, 0, 0x11 ∷ []), (1, 0, None))
    ∷ ((started, 0, 0x11 ∷ 0x00 ∷ []), (1, 0, None))
    ∷ ((started, 0, 0x2B ∷ 0x0D ∷ 0x01 ∷ 0x00 ∷ []), (9, 0, None))
    ∷ []

pub cases_hold : map (λ (c : (Plant × ℕ × List ℕ) × Result). result (exchanged c.0.0 (0 ∷ 0 ∷ 0 ∷ []) c.0.1 c.0.2)) cases ≡ map (λ (c : (Plant × ℕ × List ℕ) × Result). c.1) cases
unfolding rows line_at start_words address first_register first_row row_of_span twos within allows allowed_at started flagged lowest_from lowest_of active flag_stands runs status_of ready status_word righted reflagged halted flag_raised acknowledged is_fault raised ended Reading.stored Reading.told read_only bounds_of allowed init_running permitted permit_of followed applied written told_served wrote_served word_at long_at reads writes asked identifying numbering asked_of request_of up_to objects_asked reaches_us task_of done served registers_told replied_by replied exchanged
cases_hold = refl
