use Rattle.refinement.proofs.driver.OwnSteps.{answer_knows}
use Rattle.refinement.proofs.laws.law_answering_slotless_request_agrees.Goals as goal

pub returns : goal.returns
returns c = answer_knows
