use Rattle.ncq.proofs.StoredReads.{batch_may_be_issued}
use Rattle.ncq.proofs.laws.law_an_issuable_batch_exists.Goals as goal

pub returns : goal.returns
returns c = batch_may_be_issued c.law_two_stored_reads_example_agrees.ensures
