use Rattle.std.proofs.Common.{[], arith}
use Rattle.ata_types.specs.declared.range.Range.{Range}
use Rattle.flush_trim.specs.PlainTasks.{flush_task}
use Rattle.flush_trim.proofs.Plain.{flush, flush_table, stored_flush}
use Rattle.flush_trim.proofs.issue_flush.Goals as goal

-- no sectors: any range does
abbrev nowhere : Range
nowhere = record { first = record { 0 = 0 }; count = 0 }

pub write-requires : goal.write-requires
write-requires g c =
    let table = c.write_table.ensures in
    (c.law_ci_write_issues_stored_plain_task.ensures c.args.port (flush_task nowhere) [] _ _ _
    (stored_flush c.args.port nowhere [] _ _ c.requires.may table.followed (table.slot_decodes flush [] (flush_table _ c.flush_command.ensures))) c.bit_of-own.ensures).0

pub returns : goal.returns
returns g c =
    let table = c.write_table.ensures in
    record {
      issued = λ range frames.
          (c.law_ci_write_issues_stored_plain_task.ensures c.args.port (flush_task range) frames _ _ _
          (stored_flush c.args.port range frames _ _ c.requires.may table.followed (table.slot_decodes flush [] (flush_table _ c.flush_command.ensures))) c.bit_of-own.ensures).1 _ c.write.ensures.does;
      cost = omega arith;
    }
