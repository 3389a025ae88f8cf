use Rattle.machine_runs.proofs.Once.{law_replied_at_most_once}
use Rattle.machine_runs.proofs.laws.law_replied_at_most_once.Goals as goal

pub returns : goal.returns
returns g c = law_replied_at_most_once
