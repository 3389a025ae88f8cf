use Rattle.refinement.proofs.driver.ClientBytes.{client_loads}
use Rattle.refinement.proofs.laws.law_client_load_is_machine_load.Goals as goal

pub returns : goal.returns
returns c = client_loads c.law_prerequisites.ensures
