use Rattle.machine_runs.proofs.RunLaws.{law_ports_die_only_when_stuck}
use Rattle.machine_runs.proofs.laws.law_ports_die_only_when_stuck.Goals as goal

pub returns : goal.returns
returns g c = law_ports_die_only_when_stuck
