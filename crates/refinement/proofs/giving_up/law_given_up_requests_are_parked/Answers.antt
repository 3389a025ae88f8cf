use Rattle.refinement.proofs.driver.GivenUpSlots.{parked_then}
use Rattle.refinement.proofs.giving_up.law_given_up_requests_are_parked.Goals as goal

pub returns : goal.returns
returns c = parked_then
