use Rattle.std.proofs.Common.{◌∙◌}
use Rattle.device_model.proofs.Absurd.{fun_ext}
use Rattle.device_model.proofs.NewModel.{zero_bit}
use Rattle.device_model.proofs.SlotLemmas.{held_list, held_none}
use Rattle.device_model.proofs.taken.TakenCommands.clear.Goals as goal

pub returns : goal.returns
returns c =
    let items = c.self.inside.slots.items in
    held_list 0 items ∙ fun_ext (λ k. held_none 0 items k (zero_bit k))
