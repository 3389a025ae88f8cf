use Rattle.machine_runs.proofs.Once.{law_answered_at_most_once}
use Rattle.machine_runs.proofs.laws.law_answered_at_most_once.Goals as goal

pub returns : goal.returns
returns g c = law_answered_at_most_once
