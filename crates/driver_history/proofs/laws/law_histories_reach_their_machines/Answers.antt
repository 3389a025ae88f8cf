use Rattle.driver_history.proofs.Telling.{history_reached}
use Rattle.driver_history.proofs.laws.law_histories_reach_their_machines.Goals as goal

pub returns : goal.returns
returns c = history_reached c.law_run_prerequisites.ensures
