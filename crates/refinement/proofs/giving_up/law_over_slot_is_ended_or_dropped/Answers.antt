use Rattle.refinement.proofs.driver.OutstandingSlot.{stopped_clear, over_decided}
use Rattle.refinement.proofs.giving_up.law_over_slot_is_ended_or_dropped.Goals as goal

pub returns-clause-clear : goal.returns-clause-clear
returns-clause-clear c = stopped_clear

pub returns-clause-over_is_ended_or_dropped : goal.returns-clause-over_is_ended_or_dropped
returns-clause-over_is_ended_or_dropped c = over_decided
