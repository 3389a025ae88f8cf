use Rattle.std.proofs.Common.{rules, ◌<◌, ◌∙◌, length, sym}
use Rattle.device_model.proofs.Rooms.{in_seen_room}
use Rattle.device_model.proofs.SlotLemmas.{held_none, is_held}
use Rattle.device_model.proofs.taken.TakenCommands.get.Goals as goal

pub returns-then-is_set-clause-found : goal.returns-then-is_set-clause-found
returns-then-is_set-clause-found c =
    let small : c.from-then-is_set.result < length c.self.inside.slots.items = search rules in
    let is = in_seen_room small c.self.view_is c.from-then-is_set.ensures c.from.ensures c.is_set.ensures c.if-is_set.true c.index.ensures in
    is.held

pub returns-then-is_set-clause-first_in_range : goal.returns-then-is_set-clause-first_in_range
returns-then-is_set-clause-first_in_range c =
    let small : c.from-then-is_set.result < length c.self.inside.slots.items = search rules in
    let is = in_seen_room small c.self.view_is c.from-then-is_set.ensures c.from.ensures c.is_set.ensures c.if-is_set.true c.index.ensures in
    c.self.invariant.1.first_in_range c.from-then-is_set.result c.index.result.now is.there

pub returns-else-is_set-clause-none : goal.returns-else-is_set-clause-none
returns-else-is_set-clause-none c = λ _.
    let filled = c.self.inside.filled in
    let items = c.self.inside.slots.items in
    sym (is_held filled items c.args.self.now c.from.result c.args.slot c.self.view_is c.from.ensures)
    ∙ held_none filled items c.from.result (sym c.is_set.ensures ∙ c.if-is_set.false)
