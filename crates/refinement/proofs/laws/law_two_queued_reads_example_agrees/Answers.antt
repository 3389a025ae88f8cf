use Rattle.refinement.proofs.witnesses.QueuedReads.{two_are_known}
use Rattle.refinement.proofs.laws.law_two_queued_reads_example_agrees.Goals as goal

pub returns : goal.returns
returns c = two_are_known c.law_prerequisites.ensures
