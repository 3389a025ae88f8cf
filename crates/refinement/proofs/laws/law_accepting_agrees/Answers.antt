use Rattle.refinement.proofs.driver.OwnSteps.{accept_knows}
use Rattle.refinement.proofs.laws.law_accepting_agrees.Goals as goal

pub returns : goal.returns
returns c = accept_knows
