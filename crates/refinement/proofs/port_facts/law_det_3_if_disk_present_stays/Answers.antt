use Rattle.refinement.proofs.device.ShownDevice.{steps_shown, access_shown}
use Rattle.refinement.proofs.port_facts.law_det_3_if_disk_present_stays.Goals as goal

pub returns-clause-steps : goal.returns-clause-steps
returns-clause-steps c = steps_shown c.law_prerequisites.ensures

pub returns-clause-access : goal.returns-clause-access
returns-clause-access c = access_shown c.law_prerequisites.ensures
