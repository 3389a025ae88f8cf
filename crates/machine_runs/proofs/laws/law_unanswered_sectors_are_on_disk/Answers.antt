use Rattle.machine_runs.proofs.RunLaws.{law_unanswered_sectors_are_on_disk}
use Rattle.machine_runs.proofs.laws.law_unanswered_sectors_are_on_disk.Goals as goal

pub returns : goal.returns
returns g c = law_unanswered_sectors_are_on_disk
