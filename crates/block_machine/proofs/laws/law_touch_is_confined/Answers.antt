use Rattle.block_machine.proofs.Accepts.{law_touch_is_confined}
use Rattle.block_machine.proofs.laws.law_touch_is_confined.Goals as goal

pub returns : goal.returns
returns c = law_touch_is_confined
