use Rattle.witnesses.proofs.history.Revoking.{revocation_is_a_history}
use Rattle.witnesses.proofs.history_witnesses.law_a_grant_revocation_history_exists.Goals as goal

pub returns : goal.returns
returns c = revocation_is_a_history
