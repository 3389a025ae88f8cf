use Rattle.machine_runs.proofs.RevokedRun.{is_taken_back}
use Rattle.machine_runs.proofs.laws.law_a_revoking_run_exists.Goals as goal

pub returns : goal.returns
returns c = is_taken_back
