use Rattle.block_machine.proofs.Started.{ended_issued}
use Rattle.block_machine.proofs.laws.law_ended_is_issued.Goals as goal

pub returns : goal.returns
returns c = ended_issued
