use Rattle.block_machine.proofs.Limits.{finds_slot}
use Rattle.block_machine.proofs.laws.law_due_finds_slot.Goals as goal

pub returns : goal.returns
returns c = finds_slot
