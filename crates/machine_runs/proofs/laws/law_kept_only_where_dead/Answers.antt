use Rattle.machine_runs.proofs.RunLaws.{law_kept_only_where_dead}
use Rattle.machine_runs.proofs.laws.law_kept_only_where_dead.Goals as goal

pub returns : goal.returns
returns g c = law_kept_only_where_dead
