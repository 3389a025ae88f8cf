use Rattle.machine_runs.proofs.Touching.{take_turns}
use Rattle.machine_runs.proofs.laws.law_later_conflicting_waits_for_earlier.Goals as goal

pub returns : goal.returns
returns c = take_turns
