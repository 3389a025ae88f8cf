use Rattle.refinement.proofs.steps.FollowedSteps.{steps_follow}
use Rattle.refinement.proofs.laws.law_device_steps_are_simulated.Goals as goal

pub returns : goal.returns
returns c = steps_follow
