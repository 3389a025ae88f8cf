use Rattle.machine_runs.proofs.WaitingRun.{waits_its_turn}
use Rattle.machine_runs.proofs.laws.law_a_run_with_a_waiting_request_exists.Goals as goal

pub returns : goal.returns
returns c = waits_its_turn
