use Rattle.witnesses.proofs.history.Recovered.{recovery_ties}
use Rattle.witnesses.proofs.history_witnesses.law_a_fault_recovery_history_exists.Goals as goal

pub returns : goal.returns
returns c = recovery_ties
