use Rattle.refinement.proofs.driver.EndedRequests.{law_slot_is_clear_iff_ended_while_st_set, clear_is_ended}
use Rattle.block_machine.proofs.Started.{ended_issued}
use Rattle.refinement.proofs.port_facts.law_slot_is_clear_iff_ended_while_st_set.Goals as goal

pub returns-clause-clears : goal.returns-clause-clears
returns-clause-clears c = law_slot_is_clear_iff_ended_while_st_set

pub returns-clause-ends : goal.returns-clause-ends
returns-clause-ends c = clear_is_ended

pub returns-clause-issued : goal.returns-clause-issued
returns-clause-issued c = ended_issued
