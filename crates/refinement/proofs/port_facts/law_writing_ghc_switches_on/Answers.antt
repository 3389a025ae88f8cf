use Rattle.refinement.proofs.device.AdapterReset.{switched_on}
use Rattle.refinement.proofs.port_facts.law_writing_ghc_switches_on.Goals as goal

pub returns : goal.returns
returns c = switched_on c.law_prerequisites.ensures
