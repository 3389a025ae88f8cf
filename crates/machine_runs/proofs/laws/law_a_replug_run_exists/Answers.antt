use Rattle.machine_runs.proofs.WorkedRun.{finds_the_flushed}
use Rattle.machine_runs.proofs.laws.law_a_replug_run_exists.Goals as goal

pub returns : goal.returns
returns c = finds_the_flushed
