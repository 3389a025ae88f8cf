use Rattle.driver_history.proofs.Telling.{history_runs}
use Rattle.driver_history.proofs.laws.law_histories_are_runs.Goals as goal

pub returns : goal.returns
returns c = history_runs
