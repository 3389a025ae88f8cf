use Rattle.refinement.proofs.driver.OwnSteps.{release_knows}
use Rattle.refinement.proofs.laws.law_releasing_kept_frames_agrees.Goals as goal

pub returns : goal.returns
returns c = release_knows
