use Rattle.machine_runs.proofs.RebootedRun.{goes_again_in_resets}
use Rattle.machine_runs.proofs.laws.law_a_run_where_fourth_reset_aborts_exists.Goals as goal

pub returns : goal.returns
returns c = goes_again_in_resets
