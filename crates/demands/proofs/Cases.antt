-- The worked cases, by computation. Assumes nothing.
use mathlib.Core.Path.{refl}
use Rattle.table.specs.Table.{rows, line_at, start_words}
use Rattle.table.specs.Address.{address, first_register}
use Rattle.table.specs.Find.{first_row, row_from, row_of_e, row_of_span}
use Rattle.allowed.specs.Allowed.{twos, integer_of, within, member, below_limt, above_magn, at_mode, setpoint_allows, allows, allowed_at}
use Rattle.hex_pairs.specs.Hex.{is_hex, all_hex, digit_value, digit_of, capital_of, pair_value, hex_of, bytes_of}
use Rattle.checks.specs.Bcc.{bcc_of}
use Rattle.checks.specs.Lrc.{adds_to_zero, lrc_of, sum_of, total_of}
use Rattle.checks.specs.Crc as Crc
use Rattle.drive.specs.Plant as Plant
use Rattle.drive.specs.Flags as Flags
use Rattle.drive.specs.Status as Status
use Rattle.drive.specs.Faults as Faults
use Rattle.drive.specs.Events as Drive
use Rattle.reading.specs.Read as Read
use Rattle.permit.specs.Refusals as Refusals
use Rattle.permit.specs.Permit as Permit
use Rattle.service.specs.Write as Write
use Rattle.service.specs.Serving.{told_served, wrote_served}
use Rattle.pending.specs.Held as Held
use Rattle.pending.specs.Scanning.{scan_from}
use Rattle.nfo.specs.Message.{enquiry, select, bcc_in}
use Rattle.nfo.specs.Scan as Nfo
use Rattle.nfo_parts.specs.Parts.{value_at, parameter_at, message_of}
use Rattle.nfo_parts.specs.Replies.{digits_of, body_of, reply_of, ack_of, nak_of}
use Rattle.nfo_service.specs.Serve as Serve
use Rattle.nfo_service.specs.Reply as Reply
use Rattle.modbus_words.specs.Words.{word_at, long_at, word_bytes, long_bytes}
use Rattle.modbus.specs.Request.{asked, identifying, numbering, reads, writes, asked_of, request_of}
use Rattle.base.specs.Buffers.{reply_least}
use Rattle.identity.specs.Identity.{revision, model, serial, chosen, up_to, objects_asked, listed, objects_unit, part_unit}
use Rattle.modbus.specs.Answer.{short_of, unit_of}
use Rattle.modbus_service.specs.Serve as Modbus
use Rattle.modbus_service.specs.Reply as Answers
use Rattle.ascii.specs.Ascii.{text_of, bytes_in, counted, right, ascii_of, unit_among}
use Rattle.rtu.specs.Rtu as Rtu
use Rattle.ascii_scan.specs.Scan as Ascii
use Rattle.card.specs.State.{started, restarted}
use Rattle.card.specs.Events as Events
use Rattle.turn.specs.Turn.{waiting, card_after}
use Rattle.nfo_port.specs.Receive.{nfo_received}
use Rattle.rtu_port.specs.Receive.{rtu_received}
use Rattle.ascii_port.specs.Receive.{ascii_received}
use Rattle.receive.specs.Receive.{received}
use Rattle.demands.specs.Cases.{cases, Cases}

pub cases_hold : Cases
unfolding cases rows line_at start_words address first_register first_row row_from row_of_e row_of_span twos integer_of within member below_limt above_magn at_mode setpoint_allows allows allowed_at is_hex all_hex digit_value digit_of capital_of pair_value hex_of bytes_of bcc_of adds_to_zero lrc_of sum_of total_of Plant.started Flags.flagged Flags.lowest_from Flags.lowest_of Status.active Status.flag_stands Status.runs Status.status_of Status.ready Status.status_word Status.righted Faults.reflagged Faults.halted Faults.flag_raised Faults.only14 Faults.acknowledged Faults.without14 Faults.stopped Drive.healed Drive.restarted Drive.is_fault Drive.raised Drive.ended Drive.port_fault Drive.switched Drive.with_active Read.stored Read.told Refusals.read_only Refusals.bounds_of Refusals.allowed Refusals.init_running Refusals.permitted Permit.permit_of Write.followed Write.applied Write.written told_served wrote_served Held.held Held.empty Held.emptied Held.pushed Held.began_with scan_from enquiry select bcc_in Nfo.fits_at Nfo.step_in Nfo.step_of Nfo.again Nfo.ends Nfo.fed value_at parameter_at message_of digits_of body_of reply_of ack_of nak_of Serve.to_us Serve.reaches_us Serve.row_named Serve.enquiry_served Serve.stops Serve.row_selected Serve.select_served Serve.served Reply.replied_by Reply.replied word_at word_bytes long_bytes asked identifying numbering reads asked_of request_of up_to objects_asked revision model serial chosen listed objects_unit part_unit unit_of short_of reply_least Modbus.reaches_us Modbus.task_of Modbus.done Modbus.served Answers.registers_told Answers.replied_by Answers.replied Answers.exchanged text_of bytes_in counted right ascii_of Ascii.again Ascii.cr_fits Ascii.digit_fits Ascii.ended Ascii.ends Ascii.fed Ascii.goes_on unit_among started restarted Events.event_outcome Events.event_on Events.fault_raised Events.cause_ended Events.din1_set Events.port_faulted Events.counted Events.ticked_in Events.ticked waiting card_after nfo_received rtu_received ascii_received received Crc.crc_bit Crc.crc_byte Crc.crc_of Crc.body_of Crc.crc_bytes Crc.crc_told Crc.crc_holds Rtu.frame_holds Rtu.address_in Rtu.unit_in Rtu.rtu_of long_at writes
cases_hold = refl
