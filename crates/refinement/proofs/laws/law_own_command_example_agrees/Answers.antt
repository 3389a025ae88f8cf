use Rattle.refinement.proofs.witnesses.IdentifyDevice.{own_is_known}
use Rattle.refinement.proofs.laws.law_own_command_example_agrees.Goals as goal

pub returns : goal.returns
returns c = own_is_known c.law_prerequisites.ensures
