use Rattle.std.proofs.Common.{rules, ◌<◌, ◌^◌, ◌∙◌, ap}
use Rattle.std.specs.Prelude.{is_some}
use Rattle.device_model.proofs.SlotLemmas.{held_tells, is_held}
use Rattle.device_model.proofs.taken.TakenCommands.is_taken.Goals as goal

pub returns : goal.returns
returns c =
    let filled = c.self.inside.filled in
    let items = c.self.inside.slots.items in
    let fits : filled < 2 ^ 32 = search rules in
    c.is_set.ensures
    ∙ (held_tells filled items c.from.result fits c.self.invariant.0
    ∙ ap is_some (is_held filled items c.args.self.now c.from.result c.args.slot c.self.view_is c.from.ensures))
