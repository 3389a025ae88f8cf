use Rattle.refinement.proofs.witnesses.FirstRead.{prepared_is_known}
use Rattle.refinement.proofs.laws.law_prepared_read_example_agrees.Goals as goal

pub returns : goal.returns
returns c = prepared_is_known c.law_prerequisites.ensures
