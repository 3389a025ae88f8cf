use Rattle.std.proofs.Common.{refl}
use Rattle.refinement.specs.Fragments.{AnyAccess, SameSlotStates}
use Rattle.refinement.proofs.driver.PortAccesses.{agreed_on}
use Rattle.refinement.proofs.relation.IdleAgreement.{idle_agrees}
use Rattle.refinement.proofs.driver.ReleasedSlot.{agrees_released}
use Rattle.refinement.proofs.fragments.law_some_machine_agrees_after_simulation.Goals as goal

pub returns-clause-followed : goal.returns-clause-followed
returns-clause-followed c = λ uses old new followed. agreed_on AnyAccess (SameSlotStates uses) uses old new refl followed

pub returns-clause-idle_device_agrees : goal.returns-clause-idle_device_agrees
returns-clause-idle_device_agrees c = idle_agrees

pub returns-clause-own_command_over_frees_slot : goal.returns-clause-own_command_over_frees_slot
returns-clause-own_command_over_frees_slot c = agrees_released
