use Rattle.driver_history.proofs.Standing.{unplugged_refused}
use Rattle.driver_history.proofs.laws.law_unplugged_needs_loss.Goals as goal

pub returns : goal.returns
returns c = unplugged_refused
