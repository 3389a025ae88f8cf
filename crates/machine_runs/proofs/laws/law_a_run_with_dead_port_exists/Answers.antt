use Rattle.machine_runs.proofs.DyingRun.{dies_in_a_service}
use Rattle.machine_runs.proofs.laws.law_a_run_with_dead_port_exists.Goals as goal

pub returns : goal.returns
returns c = dies_in_a_service
