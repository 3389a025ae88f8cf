use Rattle.machine_runs.proofs.Unwritten.{law_expected_is_plugged_if_no_write_trim_grants}
use Rattle.machine_runs.proofs.laws.law_expected_is_plugged_if_no_write_trim_grants.Goals as goal

pub returns : goal.returns
returns c = law_expected_is_plugged_if_no_write_trim_grants
