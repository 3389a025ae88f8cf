use Rattle.refinement.proofs.driver.ClientBytes.{client_stores}
use Rattle.refinement.proofs.laws.law_client_store_is_machine_store.Goals as goal

pub returns : goal.returns
returns c = client_stores c.law_prerequisites.ensures
