use Rattle.refinement.proofs.device.PlainPort.{steps_plain, access_plain, running_plainly, plainly_up, plainly_well}
use Rattle.refinement.proofs.recovering.law_port_stays_unqueued_until_sact_written.Goals as goal

pub returns-clause-steps : goal.returns-clause-steps
returns-clause-steps c = steps_plain c.law_prerequisites.ensures

pub returns-clause-access : goal.returns-clause-access
returns-clause-access c = access_plain c.law_prerequisites.ensures

pub returns-clause-runs : goal.returns-clause-runs
returns-clause-runs c = running_plainly

pub returns-clause-link_is_up_for_start : goal.returns-clause-link_is_up_for_start
returns-clause-link_is_up_for_start c = plainly_up

pub returns-clause-found : goal.returns-clause-found
returns-clause-found c = plainly_well c.law_prerequisites.ensures
