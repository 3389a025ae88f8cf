use Rattle.refinement.proofs.driver.ReadySlot.{steps_stored, access_stored}
use Rattle.refinement.proofs.readying.law_stored_command_stays_while_st_set.Goals as goal

pub returns-clause-steps : goal.returns-clause-steps
returns-clause-steps c = steps_stored c.law_prerequisites.ensures

pub returns-clause-access : goal.returns-clause-access
returns-clause-access c = access_stored c.law_prerequisites.ensures
