use Rattle.witnesses.proofs.history.Dying.{death_is_a_history}
use Rattle.witnesses.proofs.history_witnesses.law_a_stuck_reset_history_exists.Goals as goal

pub returns : goal.returns
returns c = death_is_a_history
