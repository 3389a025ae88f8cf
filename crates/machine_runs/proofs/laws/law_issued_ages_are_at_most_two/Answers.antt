use Rattle.machine_runs.proofs.RunLaws.{law_issued_ages_are_at_most_two}
use Rattle.machine_runs.proofs.laws.law_issued_ages_are_at_most_two.Goals as goal

pub returns : goal.returns
returns g c = law_issued_ages_are_at_most_two
