use Rattle.machine_runs.proofs.TickedRun.{ends_at_a_tick}
use Rattle.machine_runs.proofs.laws.law_a_run_where_tick_tells_ended_ok_exists.Goals as goal

pub returns : goal.returns
returns c = ends_at_a_tick
