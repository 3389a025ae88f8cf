use Rattle.driver_history.proofs.Parting.{brought_in_call, evidence_is_the_calls, failed_in_call}
use Rattle.driver_history.proofs.laws.law_turn_evidence_holds_for_call.Goals as goal

pub returns-clause-evidence : goal.returns-clause-evidence
returns-clause-evidence c port old begun ended ports new turn call ask said on linked t on_then was stays alike its =
    evidence_is_the_calls c.law_prerequisites.ensures port old begun ended ports new turn call ask said on linked t on_then was stays alike its

pub returns-clause-turn_failure_is_calls : goal.returns-clause-turn_failure_is_calls
returns-clause-turn_failure_is_calls c port old new fault on t its = failed_in_call c.law_prerequisites.ensures port old new on t fault its

pub returns-clause-turn_log_page_is_calls : goal.returns-clause-turn_log_page_is_calls
returns-clause-turn_log_page_is_calls c port old new page on t silent its = brought_in_call c.law_prerequisites.ensures port old new on t page silent its
