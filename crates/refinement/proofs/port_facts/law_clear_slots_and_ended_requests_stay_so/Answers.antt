use Rattle.refinement.proofs.driver.FinishedCommand.{steps_over, access_over, steps_clear, access_clear, ended_stays}
use Rattle.refinement.proofs.driver.OtherRequests.{stays_ended, ended_released}
use Rattle.refinement.proofs.port_facts.law_clear_slots_and_ended_requests_stay_so.Goals as goal

pub returns-clause-over : goal.returns-clause-over
returns-clause-over c = steps_over c.law_prerequisites.ensures

pub returns-clause-over_access : goal.returns-clause-over_access
returns-clause-over_access c = access_over c.law_prerequisites.ensures

pub returns-clause-clear : goal.returns-clause-clear
returns-clause-clear c = steps_clear c.law_prerequisites.ensures

pub returns-clause-clear_access : goal.returns-clause-clear_access
returns-clause-clear_access c = access_clear c.law_prerequisites.ensures

pub returns-clause-ended : goal.returns-clause-ended
returns-clause-ended c = ended_stays

pub returns-clause-ended_beside : goal.returns-clause-ended_beside
returns-clause-ended_beside c = stays_ended

pub returns-clause-ended_released : goal.returns-clause-ended_released
returns-clause-ended_released c = ended_released
