use Rattle.machine_runs.proofs.Touching.{law_ok_was_touched}
use Rattle.machine_runs.proofs.laws.law_ok_was_touched.Goals as goal

pub returns : goal.returns
returns g c = law_ok_was_touched
