use Rattle.std.proofs.Common.{[], ◌∷◌}
use Rattle.refinement.proofs.driver.ComposedMoves.{goes_none, goes_more, goes_still, goes_own, goes_device, goes_following, goes_ending, goes_access, goes_part, going_adds, going_reaches}
use Rattle.refinement.proofs.laws.law_driver_advances_compose.Goals as goal

pub returns-clause-reflexive : goal.returns-clause-reflexive
returns-clause-reflexive c = goes_none

pub returns-clause-transitive : goal.returns-clause-transitive
returns-clause-transitive c = goes_more

pub returns-clause-same_device : goal.returns-clause-same_device
returns-clause-same_device c = goes_still

pub returns-clause-own_step : goal.returns-clause-own_step
returns-clause-own_step c = goes_own

pub returns-clause-device : goal.returns-clause-device
returns-clause-device c = goes_device

pub returns-clause-device_steps : goal.returns-clause-device_steps
returns-clause-device_steps c = goes_following

pub returns-clause-ends_in_step : goal.returns-clause-ends_in_step
returns-clause-ends_in_step c = λ k later m step e. goes_ending k later m (step ∷ []) e

pub returns-clause-access : goal.returns-clause-access
returns-clause-access c = goes_access

pub returns-clause-simulated_part : goal.returns-clause-simulated_part
returns-clause-simulated_part c = goes_part

pub returns-clause-simulates_each : goal.returns-clause-simulates_each
returns-clause-simulates_each c = going_adds

pub returns-clause-reached : goal.returns-clause-reached
returns-clause-reached c = going_reaches
