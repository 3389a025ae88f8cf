use Rattle.machine_runs.proofs.TroubledRun.{meets_trouble}
use Rattle.machine_runs.proofs.laws.law_a_run_with_two_failed_ports_exists.Goals as goal

pub returns : goal.returns
returns c = meets_trouble
