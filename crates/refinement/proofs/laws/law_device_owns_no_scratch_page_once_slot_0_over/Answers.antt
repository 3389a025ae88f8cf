use Rattle.refinement.proofs.driver.PermittedAccesses.{page_is_free}
use Rattle.refinement.proofs.laws.law_device_owns_no_scratch_page_once_slot_0_over.Goals as goal

pub returns : goal.returns
returns c = page_is_free c.law_prerequisites.ensures
