use Rattle.refinement.proofs.driver.OutstandingSlot.{used_outstanding, shown_outstanding, sole_fault}
use Rattle.refinement.proofs.giving_up.law_issued_taken_or_faulted_is_outstanding.Goals as goal

pub returns-clause-used : goal.returns-clause-used
returns-clause-used c = used_outstanding

pub returns-clause-shown : goal.returns-clause-shown
returns-clause-shown c = shown_outstanding

pub returns-clause-only_used_slot_has_fault : goal.returns-clause-only_used_slot_has_fault
returns-clause-only_used_slot_has_fault c = sole_fault
