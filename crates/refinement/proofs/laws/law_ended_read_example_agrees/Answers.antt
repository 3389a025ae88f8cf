use Rattle.refinement.proofs.witnesses.EndedRead.{ended_is_known}
use Rattle.refinement.proofs.laws.law_ended_read_example_agrees.Goals as goal

pub returns : goal.returns
returns c = ended_is_known c.law_prerequisites.ensures
