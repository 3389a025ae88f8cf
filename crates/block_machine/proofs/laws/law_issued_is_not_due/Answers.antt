use Rattle.block_machine.proofs.Counting.{issued_not_due}
use Rattle.block_machine.proofs.laws.law_issued_is_not_due.Goals as goal

pub returns : goal.returns
returns c = issued_not_due
