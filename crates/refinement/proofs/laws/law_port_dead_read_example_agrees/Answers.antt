use Rattle.refinement.proofs.witnesses.ParkedRead.{kept_is_known}
use Rattle.refinement.proofs.laws.law_port_dead_read_example_agrees.Goals as goal

pub returns : goal.returns
returns c = kept_is_known c.law_prerequisites.ensures
