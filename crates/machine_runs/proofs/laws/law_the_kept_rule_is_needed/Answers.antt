use Rattle.machine_runs.proofs.KeptMatters.{goes_wrong}
use Rattle.machine_runs.proofs.laws.law_the_kept_rule_is_needed.Goals as goal

pub returns : goal.returns
returns c = goes_wrong
