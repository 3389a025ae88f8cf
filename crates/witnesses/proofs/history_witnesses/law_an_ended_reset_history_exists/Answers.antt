use Rattle.witnesses.proofs.history.Resetting.{reset_is_a_history}
use Rattle.witnesses.proofs.history_witnesses.law_an_ended_reset_history_exists.Goals as goal

pub returns : goal.returns
returns c = reset_is_a_history
