use Rattle.machine_runs.proofs.Once.{law_accepted_was_asked}
use Rattle.machine_runs.proofs.laws.law_accepted_was_asked.Goals as goal

pub returns : goal.returns
returns g c = law_accepted_was_asked
