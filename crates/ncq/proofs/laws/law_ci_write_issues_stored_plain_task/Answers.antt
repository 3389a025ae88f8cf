use Rattle.ncq.specs.Batches.{batch_of_one}
use Rattle.ncq.proofs.Armed.{armed_plain}
use Rattle.ncq.proofs.laws.law_ci_write_issues_stored_plain_task.Goals as goal

pub returns : goal.returns
returns c = λ port r frames own old stored x sole. c.law_ci_write_issues_armed_batch.ensures port r.queued (batch_of_one 0 r frames) own old stored (armed_plain port r frames own old stored x sole)
