use Rattle.refinement.proofs.relation.ServedRequests.{plain_finds_free, queued_finds_free}
use Rattle.refinement.proofs.laws.law_due_finds_free_slot.Goals as goal

pub returns-clause-plain : goal.returns-clause-plain
returns-clause-plain c = plain_finds_free

pub returns-clause-queued : goal.returns-clause-queued
returns-clause-queued c = queued_finds_free
