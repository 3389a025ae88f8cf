use Rattle.refinement.proofs.witnesses.RecoveredFault.{fault_is_seen, queued_fault_is_seen}
use Rattle.refinement.proofs.recovery_witnesses.law_a_command_may_have_failed.Goals as goal

pub returns-clause-plain : goal.returns-clause-plain
returns-clause-plain c = fault_is_seen

pub returns-clause-queued : goal.returns-clause-queued
returns-clause-queued c = queued_fault_is_seen
