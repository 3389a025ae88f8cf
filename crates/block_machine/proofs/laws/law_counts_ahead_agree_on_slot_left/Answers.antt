use Rattle.block_machine.proofs.Ranks.{law_counts_ahead_agree_on_slot_left}
use Rattle.block_machine.proofs.laws.law_counts_ahead_agree_on_slot_left.Goals as goal

pub returns : goal.returns
returns c = law_counts_ahead_agree_on_slot_left
