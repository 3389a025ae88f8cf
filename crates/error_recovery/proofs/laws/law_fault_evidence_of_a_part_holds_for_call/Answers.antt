use Rattle.error_recovery.proofs.Standing.{failed_stays, log_stays}
use Rattle.error_recovery.proofs.laws.law_fault_evidence_of_a_part_holds_for_call.Goals as goal

pub returns-clause-failed : goal.returns-clause-failed
returns-clause-failed c = failed_stays c.law_prerequisites.ensures c.law_accesses_compose.ensures.lists_append

pub returns-clause-log : goal.returns-clause-log
returns-clause-log c = log_stays
