use Rattle.refinement.proofs.driver.OwnSteps.{park_knows}
use Rattle.refinement.proofs.laws.law_parking_agrees.Goals as goal

pub returns : goal.returns
returns c = park_knows
