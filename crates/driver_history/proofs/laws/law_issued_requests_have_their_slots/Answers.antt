use Rattle.driver_history.proofs.Instants.{has_slot}
use Rattle.driver_history.proofs.laws.law_issued_requests_have_their_slots.Goals as goal

pub returns : goal.returns
returns c = has_slot
