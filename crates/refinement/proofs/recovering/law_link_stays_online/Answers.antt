use Rattle.refinement.proofs.device.LinkOverFaults.{steps_linked, access_linked, started_linked, up_linked}
use Rattle.refinement.proofs.recovering.law_link_stays_online.Goals as goal

pub returns-clause-steps : goal.returns-clause-steps
returns-clause-steps c = steps_linked c.law_prerequisites.ensures

pub returns-clause-access : goal.returns-clause-access
returns-clause-access c = access_linked c.law_prerequisites.ensures

pub returns-clause-started_is_linked : goal.returns-clause-started_is_linked
returns-clause-started_is_linked c = started_linked

pub returns-clause-up : goal.returns-clause-up
returns-clause-up c = up_linked
