use Rattle.witnesses.proofs.history.Hung.{hung_port_is_a_history}
use Rattle.witnesses.proofs.history_witnesses.law_a_command_timeout_history_exists.Goals as goal

pub returns : goal.returns
returns c = hung_port_is_a_history
