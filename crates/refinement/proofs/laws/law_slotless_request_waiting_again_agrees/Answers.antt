use Rattle.refinement.proofs.driver.OwnSteps.{again_knows}
use Rattle.refinement.proofs.laws.law_slotless_request_waiting_again_agrees.Goals as goal

pub returns : goal.returns
returns c = again_knows
