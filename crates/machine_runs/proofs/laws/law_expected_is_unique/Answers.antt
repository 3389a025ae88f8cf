use Rattle.machine_runs.proofs.Staying.{law_expected_is_unique}
use Rattle.machine_runs.proofs.laws.law_expected_is_unique.Goals as goal

pub returns : goal.returns
returns c = law_expected_is_unique
