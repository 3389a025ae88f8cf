use Rattle.block_machine.proofs.Accepts.{law_accepted_is_granted}
use Rattle.block_machine.proofs.laws.law_accepted_is_granted.Goals as goal

pub returns : goal.returns
returns c = law_accepted_is_granted
