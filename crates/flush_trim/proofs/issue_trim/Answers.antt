use Rattle.std.proofs.Common.{[], refl, ap, ◌∙◌, arith}
use Rattle.adapter.specs.Trim.{trim_sectors}
use Rattle.flush_trim.specs.PlainTasks.{trim_task}
use Rattle.flush_trim.proofs.Plain.{is_trim, stored_trim, trim}
use Rattle.flush_trim.proofs.issue_trim.Goals as goal

pub write-requires : goal.write-requires
write-requires g c =
    let table = c.write_table_with_block.ensures in
    (c.law_ci_write_issues_stored_plain_task.ensures c.args.port (trim_task c.args.range) [] _ _ _
    (stored_trim c.args.port c.args.range [] _ _ c.requires.may table.followed (table.slot_decodes trim is_trim c.trim_command.ensures refl) (ap trim_sectors table.block ∙ c.trim_block.ensures.means)) c.bit_of.ensures).0

pub returns : goal.returns
returns g c =
    let table = c.write_table_with_block.ensures in
    record {
      issued = λ frames.
          (c.law_ci_write_issues_stored_plain_task.ensures c.args.port (trim_task c.args.range) frames _ _ _
          (stored_trim c.args.port c.args.range frames _ _ c.requires.may table.followed (table.slot_decodes trim is_trim c.trim_command.ensures refl) (ap trim_sectors table.block ∙ c.trim_block.ensures.means)) c.bit_of.ensures).1 _
          c.write.ensures.does;
      cost = omega arith;
    }
