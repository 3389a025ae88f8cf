use Rattle.ncq.proofs.Performed.{finding_followed}
use Rattle.ncq.proofs.laws.law_ci_and_sact_reads_keep_machine_related.Goals as goal

pub returns : goal.returns
returns c = finding_followed
