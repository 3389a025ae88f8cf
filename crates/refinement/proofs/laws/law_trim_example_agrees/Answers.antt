use Rattle.refinement.proofs.witnesses.Trim.{trim_is_known}
use Rattle.refinement.proofs.laws.law_trim_example_agrees.Goals as goal

pub returns : goal.returns
returns c = trim_is_known c.law_prerequisites.ensures
