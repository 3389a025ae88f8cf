use Rattle.std.proofs.Common.{rules, arith, Option, ◌<◌, ◌+◌, ◌^◌, ◌∙◌, Some, length, sym, subst, refl}
use Rattle.std.specs.Prelude.{IfSome}
use Rattle.std.proofs.lemmas.List.{length-set}
use Rattle.adapter.specs.Memory.{changed}
use Rattle.device_model.proofs.Absurd.{some-none}
use Rattle.device_model.proofs.Rooms.{in_it, in_seen_room, room_changed, room_keeps}
use Rattle.device_model.proofs.SlotLemmas.{held_none, is_held}
use Rattle.device_model.specs.PortView.{taken_in}
use Rattle.device_model.specs.declared.port.TakenCommand.{TakenCommand}
use Rattle.device_model.proofs.taken.TakenCommands.add_moved.Goals as goal

pub overflow_add-index_mut : goal.overflow_add-index_mut
overflow_add-index_mut c =
    let small : c.from-then-is_set.result < length c.self.inside.slots.items = search rules in
    let is = in_seen_room small c.self.view_is c.from-then-is_set.ensures c.from.ensures c.is_set.ensures c.if-is_set.true c.index_mut.ensures.value in
    let P : Option TakenCommand → Type 0 = λ o. IfSome o (λ t. t.moved + 1 < 2 ^ 32) in
    let below = subst P is.held c.requires.room in
    omega (arith, below)

pub invariant_of-self : goal.invariant_of-self
invariant_of-self c =
    let small : c.from-then-is_set.result < length c.self.inside.slots.items = search rules in
    let is = in_seen_room small c.self.view_is c.from-then-is_set.ensures c.from.ensures c.is_set.ensures c.if-is_set.true c.index_mut.ensures.value in
    let new : TakenCommand = record c.index_mut.result.now { moved = c.index_mut.result.now.moved + 1 } in
    (simp length-set c.self.invariant.0, room_keeps is c.self.inside.block c.self.invariant.1 new refl refl refl)

pub returns-then-is_set : goal.returns-then-is_set
returns-then-is_set c = λ t held.
    let small : c.from-then-is_set.result < length c.self.inside.slots.items = search rules in
    let is = in_seen_room small c.self.view_is c.from-then-is_set.ensures c.from.ensures c.is_set.ensures c.if-is_set.true c.index_mut.ensures.value in
    let one = in_it is t held in
    room_changed is (record c.index_mut.result.now { moved = c.index_mut.result.now.moved + 1 })
    ∙ (λ i. changed (taken_in c.args.self.now) c.args.slot (Some (record (one i) { moved = (one i).moved + 1 })))

pub returns-else-is_set : goal.returns-else-is_set
returns-else-is_set c = λ t held.
    let filled = c.self.inside.filled in
    let items = c.self.inside.slots.items in
    some-none held
    (sym (is_held filled items c.args.self.now c.from.result c.args.slot c.self.view_is c.from.ensures)
    ∙ held_none filled items c.from.result (sym c.is_set.ensures ∙ c.if-is_set.false))
