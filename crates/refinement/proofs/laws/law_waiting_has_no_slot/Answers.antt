use Rattle.refinement.proofs.driver.PutSlot.{waiting_unserved}
use Rattle.refinement.proofs.laws.law_waiting_has_no_slot.Goals as goal

pub returns : goal.returns
returns c = waiting_unserved
