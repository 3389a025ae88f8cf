use Rattle.std.proofs.Common.{◌∙◌, sym}
use Rattle.machine_rules.specs.ReferenceHistories.{history_of}
use Rattle.machine_rules.proofs.ReferenceHistories.{left_by_writer, left_by_disk}
use Rattle.machine_rules.proofs.history.expected_byte.Goals as goal

pub returns-in-Some : goal.returns-in-Some
returns-in-Some c = left_by_writer c.args.start (history_of c.args.history.now) c.args.read.now c.args.sector c.disk_number_read-disk.result c.written.result c.in-Some.writer c.last_writer.result
    c.disk_number_read-disk.ensures c.last_writer.ensures c.in-Some.is c.written.ensures

pub returns-in-None : goal.returns-in-None
returns-in-None c = left_by_disk c.args.start (history_of c.args.history.now) c.args.read.now c.args.sector c.disk_number_read-disk.result c.sector_fill_byte.result c.last_writer.result
    c.disk_number_read-disk.ensures c.last_writer.ensures c.in-None.is (λ b. c.fill_when_plugged.ensures c.args.sector b ∙ sym c.sector_fill_byte.ensures)
