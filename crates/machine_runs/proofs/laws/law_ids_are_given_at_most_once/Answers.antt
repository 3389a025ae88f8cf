use Rattle.machine_runs.proofs.Once.{law_ids_are_given_at_most_once}
use Rattle.machine_runs.proofs.laws.law_ids_are_given_at_most_once.Goals as goal

pub returns : goal.returns
returns g c = law_ids_are_given_at_most_once
