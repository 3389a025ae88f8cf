use Rattle.refinement.proofs.driver.OwnSteps.{tick_knows}
use Rattle.refinement.proofs.laws.law_ticking_agrees.Goals as goal

pub returns : goal.returns
returns c = tick_knows
