use Rattle.refinement.proofs.driver.PermittedAccesses.{issuing_page_command_is_permitted}
use Rattle.refinement.proofs.laws.law_own_issuing_is_permitted.Goals as goal

pub returns : goal.returns
returns c = issuing_page_command_is_permitted c.law_prerequisites.ensures
