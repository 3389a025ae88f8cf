use Rattle.server_history.proofs.whole_call.Tick.{law_ticks_extend_history}
use Rattle.server_history.proofs.laws.law_ticks_extend_history.Goals as goal

pub returns : goal.returns
returns c = law_ticks_extend_history c.law_history_prerequisites.ensures
