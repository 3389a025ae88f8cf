use Rattle.server_history.proofs.plain_calls.Acceptances.{acceptance}
use Rattle.server_history.proofs.laws.law_acceptances_extend_history.Goals as goal

pub returns : goal.returns
returns c = acceptance c.law_history_prerequisites.ensures
