use Rattle.refinement.proofs.driver.OwnSteps.{keeping_knows}
use Rattle.refinement.proofs.laws.law_answering_with_frames_kept_agrees.Goals as goal

pub returns : goal.returns
returns c = keeping_knows
