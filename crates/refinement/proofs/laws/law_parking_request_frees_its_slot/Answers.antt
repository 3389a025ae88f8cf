use Rattle.refinement.proofs.driver.ParkedSlot.{law_parking_request_frees_its_slot, parking_leaves, parking_parks}
use Rattle.refinement.proofs.laws.law_parking_request_frees_its_slot.Goals as goal

pub returns-clause-frees : goal.returns-clause-frees
returns-clause-frees c = law_parking_request_frees_its_slot

pub returns-clause-leaves : goal.returns-clause-leaves
returns-clause-leaves c = parking_leaves

pub returns-clause-parks : goal.returns-clause-parks
returns-clause-parks c = parking_parks
