use Rattle.refinement.proofs.witnesses.QueuedReads.{two_are_stored}
use Rattle.refinement.proofs.laws.law_two_stored_reads_example_agrees.Goals as goal

pub returns : goal.returns
returns c = two_are_stored
