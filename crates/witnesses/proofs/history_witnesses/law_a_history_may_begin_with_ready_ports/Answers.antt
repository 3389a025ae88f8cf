use Rattle.witnesses.proofs.history.Accepting.{ready_has_begun}
use Rattle.witnesses.proofs.history_witnesses.law_a_history_may_begin_with_ready_ports.Goals as goal

pub returns : goal.returns
returns c = ready_has_begun
