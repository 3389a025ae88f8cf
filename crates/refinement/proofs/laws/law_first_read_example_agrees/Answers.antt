use Rattle.refinement.proofs.witnesses.FirstRead.{first_is_known}
use Rattle.refinement.proofs.laws.law_first_read_example_agrees.Goals as goal

pub returns : goal.returns
returns c = first_is_known c.law_prerequisites.ensures
