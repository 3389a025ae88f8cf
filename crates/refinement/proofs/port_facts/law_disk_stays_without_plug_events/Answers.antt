use Rattle.refinement.proofs.device.PortControls.{steps_disk, access_disk}
use Rattle.refinement.proofs.port_facts.law_disk_stays_without_plug_events.Goals as goal

pub returns-clause-steps : goal.returns-clause-steps
returns-clause-steps c = steps_disk c.law_prerequisites.ensures

pub returns-clause-access : goal.returns-clause-access
returns-clause-access c = access_disk c.law_prerequisites.ensures
