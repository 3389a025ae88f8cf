use Rattle.refinement.proofs.driver.OwnSteps.{revoke_knows}
use Rattle.refinement.proofs.laws.law_revoking_grant_agrees.Goals as goal

pub returns : goal.returns
returns c = revoke_knows
