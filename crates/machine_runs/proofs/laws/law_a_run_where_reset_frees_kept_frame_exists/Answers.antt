use Rattle.machine_runs.proofs.ResetRun.{ends_with_a_reset}
use Rattle.machine_runs.proofs.laws.law_a_run_where_reset_frees_kept_frame_exists.Goals as goal

pub returns : goal.returns
returns c = ends_with_a_reset
