use Rattle.std.proofs.Common.{◌++◌, ◌∷◌}
use Rattle.block_machine.proofs.Order.{ordered_from}
use Rattle.block_machine.proofs.Ranks.{count_front}
use Rattle.block_machine.proofs.laws.law_earlier_ones_stand_before.Goals as goal

pub returns : goal.returns
returns c passes front back r order = count_front passes front back r (ordered_from (front ++ r ∷ back) order)
