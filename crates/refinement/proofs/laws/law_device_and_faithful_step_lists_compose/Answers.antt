use Rattle.refinement.proofs.steps.FollowedSteps.{told_append}
use Rattle.refinement.proofs.steps.WaitingRequests.{device_append}
use Rattle.refinement.proofs.laws.law_device_and_faithful_step_lists_compose.Goals as goal

pub returns-clause-reached : goal.returns-clause-reached
returns-clause-reached c = c.law_step_lists_compose.ensures.reached

pub returns-clause-enabled_steps_join : goal.returns-clause-enabled_steps_join
returns-clause-enabled_steps_join c = c.law_step_lists_compose.ensures.enabled_steps_join

pub returns-clause-machine_after_joins : goal.returns-clause-machine_after_joins
returns-clause-machine_after_joins c = c.law_step_lists_compose.ensures.after_joins

pub returns-clause-device_steps_join : goal.returns-clause-device_steps_join
returns-clause-device_steps_join c = device_append

pub returns-clause-faithful_steps_join : goal.returns-clause-faithful_steps_join
returns-clause-faithful_steps_join c = told_append
