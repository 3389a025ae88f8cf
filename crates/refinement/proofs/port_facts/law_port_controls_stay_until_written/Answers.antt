use Rattle.refinement.proofs.device.PortControls.{access_controls}
use Rattle.refinement.proofs.port_facts.law_port_controls_stay_until_written.Goals as goal

pub returns : goal.returns
returns c = access_controls c.law_prerequisites.ensures
