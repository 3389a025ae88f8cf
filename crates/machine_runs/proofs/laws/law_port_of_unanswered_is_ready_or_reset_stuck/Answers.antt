use Rattle.machine_runs.proofs.RunLaws.{law_port_of_unanswered_is_ready_or_reset_stuck}
use Rattle.machine_runs.proofs.laws.law_port_of_unanswered_is_ready_or_reset_stuck.Goals as goal

pub returns : goal.returns
returns g c = law_port_of_unanswered_is_ready_or_reset_stuck
