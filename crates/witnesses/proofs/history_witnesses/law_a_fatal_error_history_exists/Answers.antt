use Rattle.witnesses.proofs.history.Broken.{fatal_error_is_a_history}
use Rattle.witnesses.proofs.history_witnesses.law_a_fatal_error_history_exists.Goals as goal

pub returns : goal.returns
returns c = fatal_error_is_a_history
