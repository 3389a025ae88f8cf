use Rattle.block_machine.proofs.Runs.{law_fully_touched_read_holds_expected}
use Rattle.block_machine.proofs.laws.law_fully_touched_read_holds_expected.Goals as goal

pub returns : goal.returns
returns c = law_fully_touched_read_holds_expected
