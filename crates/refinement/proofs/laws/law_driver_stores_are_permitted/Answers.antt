use Rattle.refinement.proofs.driver.PermittedAccesses.{stores_are_free}
use Rattle.refinement.proofs.laws.law_driver_stores_are_permitted.Goals as goal

pub returns : goal.returns
returns c = stores_are_free c.law_prerequisites.ensures
