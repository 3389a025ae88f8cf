use Rattle.driver_history.proofs.Placing.{keeps_moves}
use Rattle.driver_history.proofs.laws.law_device_moves_and_clears_are_confined.Goals as goal

pub returns : goal.returns
returns c = keeps_moves c.law_run_prerequisites.ensures
