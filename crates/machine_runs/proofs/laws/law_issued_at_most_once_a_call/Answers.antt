use Rattle.machine_runs.proofs.RunLaws.{law_issued_at_most_once_a_call}
use Rattle.machine_runs.proofs.laws.law_issued_at_most_once_a_call.Goals as goal

pub returns : goal.returns
returns g c = law_issued_at_most_once_a_call
