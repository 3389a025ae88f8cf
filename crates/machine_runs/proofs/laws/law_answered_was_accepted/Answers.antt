use Rattle.machine_runs.proofs.Once.{law_answered_was_accepted}
use Rattle.machine_runs.proofs.laws.law_answered_was_accepted.Goals as goal

pub returns : goal.returns
returns g c = law_answered_was_accepted
