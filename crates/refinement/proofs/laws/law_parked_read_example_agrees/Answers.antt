use Rattle.refinement.proofs.witnesses.ParkedRead.{parked_is_known}
use Rattle.refinement.proofs.laws.law_parked_read_example_agrees.Goals as goal

pub returns : goal.returns
returns c = parked_is_known c.law_prerequisites.ensures
