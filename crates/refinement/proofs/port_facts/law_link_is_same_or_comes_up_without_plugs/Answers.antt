use Rattle.refinement.proofs.device.PortControls.{steps_link, access_link}
use Rattle.refinement.proofs.port_facts.law_link_is_same_or_comes_up_without_plugs.Goals as goal

pub returns-clause-steps : goal.returns-clause-steps
returns-clause-steps c = steps_link c.law_prerequisites.ensures

pub returns-clause-access : goal.returns-clause-access
returns-clause-access c = access_link c.law_prerequisites.ensures
