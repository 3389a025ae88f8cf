use Rattle.refinement.proofs.device.HaltedPort.{law_cr_read_clear_means_engine_stopped}
use Rattle.refinement.proofs.port_facts.law_cr_read_clear_means_engine_stopped.Goals as goal

pub returns : goal.returns
returns c = law_cr_read_clear_means_engine_stopped c.law_prerequisites.ensures
