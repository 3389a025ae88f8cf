use Rattle.machine_runs.proofs.Issuing.{law_ok_was_served}
use Rattle.machine_runs.proofs.laws.law_ok_was_served.Goals as goal

pub returns : goal.returns
returns g c = law_ok_was_served
