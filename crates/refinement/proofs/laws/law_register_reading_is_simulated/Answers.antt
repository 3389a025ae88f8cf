use Rattle.refinement.proofs.driver.AddedSteps.{read_adds}
use Rattle.refinement.proofs.laws.law_register_reading_is_simulated.Goals as goal

pub returns : goal.returns
returns c = read_adds
