use Rattle.refinement.proofs.driver.AddedSteps.{device_adds}
use Rattle.refinement.proofs.laws.law_device_steps_are_a_call_part.Goals as goal

pub returns : goal.returns
returns c = device_adds
