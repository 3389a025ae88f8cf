use Rattle.machine_runs.proofs.Staying.{law_expected_stays_once_read_is_answered}
use Rattle.machine_runs.proofs.laws.law_expected_stays_once_read_is_answered.Goals as goal

pub returns : goal.returns
returns c = law_expected_stays_once_read_is_answered
