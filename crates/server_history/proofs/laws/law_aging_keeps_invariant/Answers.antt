use Rattle.server_history.proofs.plain_calls.OlderRequests.{older_settled}
use Rattle.server_history.proofs.laws.law_aging_keeps_invariant.Goals as goal

pub returns : goal.returns
returns c = older_settled c.law_history_prerequisites.ensures
