use Rattle.server_history.proofs.revoke_call.Revocation.{revocation}
use Rattle.server_history.proofs.laws.law_revocations_extend_history.Goals as goal

pub returns : goal.returns
returns c = revocation c.law_history_prerequisites.ensures
