use Rattle.refinement.proofs.driver.ShownFault.{start_opens, used_opens, steps_open, access_opens, unfailed, open_well}
use Rattle.refinement.proofs.recovering.law_unqueued_ci_read_clear_means_tfes_clear.Goals as goal

pub returns-clause-starts : goal.returns-clause-starts
returns-clause-starts c = start_opens c.law_prerequisites.ensures

pub returns-clause-slot_0_may_be_used : goal.returns-clause-slot_0_may_be_used
returns-clause-slot_0_may_be_used c = used_opens

pub returns-clause-steps : goal.returns-clause-steps
returns-clause-steps c = steps_open c.law_prerequisites.ensures

pub returns-clause-access : goal.returns-clause-access
returns-clause-access c = access_opens c.law_prerequisites.ensures

pub returns-clause-tfes_is_clear_once_over : goal.returns-clause-tfes_is_clear_once_over
returns-clause-tfes_is_clear_once_over c = unfailed c.law_prerequisites.ensures

pub returns-clause-runs_well : goal.returns-clause-runs_well
returns-clause-runs_well c = open_well
