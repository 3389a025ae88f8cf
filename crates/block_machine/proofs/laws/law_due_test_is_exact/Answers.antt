use Rattle.block_machine.proofs.DueTests.{due_test}
use Rattle.block_machine.proofs.laws.law_due_test_is_exact.Goals as goal

pub returns : goal.returns
returns c = due_test
