use Rattle.machine_runs.proofs.Granted.{law_what_waits_has_its_grant}
use Rattle.machine_runs.proofs.laws.law_what_waits_has_its_grant.Goals as goal

pub returns : goal.returns
returns g c = law_what_waits_has_its_grant
