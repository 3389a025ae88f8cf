use Rattle.refinement.proofs.driver.PermittedAccesses.{clients_are_free}
use Rattle.refinement.proofs.laws.law_device_owns_no_unlent_client_bytes.Goals as goal

pub returns : goal.returns
returns c = clients_are_free c.law_prerequisites.ensures
