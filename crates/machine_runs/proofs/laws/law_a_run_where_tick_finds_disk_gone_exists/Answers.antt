use Rattle.machine_runs.proofs.UnpluggedRun.{is_taken_out_before_a_tick}
use Rattle.machine_runs.proofs.laws.law_a_run_where_tick_finds_disk_gone_exists.Goals as goal

pub returns : goal.returns
returns c = is_taken_out_before_a_tick
