use Rattle.refinement.proofs.driver.OwnSteps.{disarm_knows}
use Rattle.refinement.proofs.device.ClearSactBits.{free_unarmed}
use Rattle.refinement.proofs.laws.law_armed_slot_may_be_freed_once_st_clear.Goals as goal

pub returns-clause-disarmed : goal.returns-clause-disarmed
returns-clause-disarmed c = disarm_knows

pub returns-clause-free_slot_has_sact_clear : goal.returns-clause-free_slot_has_sact_clear
returns-clause-free_slot_has_sact_clear c = free_unarmed
