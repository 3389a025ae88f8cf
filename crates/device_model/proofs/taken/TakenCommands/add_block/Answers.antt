use Rattle.std.proofs.Common.{rules, arith, ◌<◌, ◌+◌, ◌^◌, ◌∙◌, Some, length, ap, sym, subst, refl}
use Rattle.std.proofs.lemmas.List.{length-set}
use Rattle.adapter.specs.Memory.{changed}
use Rattle.adapter.specs.Steps.{snapshot_of_bytes}
use Rattle.device_model.proofs.Rooms.{in_it, in_taken_room, room_brings, room_changed}
use Rattle.device_model.specs.PortView.{taken_in}
use Rattle.device_model.specs.declared.port.TakenCommand.{TakenCommand}
use Rattle.device_model.proofs.taken.TakenCommands.add_block.Goals as goal

pub overflow_add-command : goal.overflow_add-command
overflow_add-command c =
    let small : c.from.result < length c.self.inside.slots.items = search rules in
    let trim = c.requires.trim in
    let is = in_taken_room small c.self.view_is c.from.ensures trim.0 trim.1 c.index_mut-command.ensures.value in
    let P : TakenCommand → Type 0 = λ t. t.moved + 1 < 2 ^ 32 in
    let below = subst P (sym (in_it is trim.0 trim.1)) trim.3 in
    omega (arith, below)

pub invariant_of-self : goal.invariant_of-self
invariant_of-self c =
    let small : c.from.result < length c.self.inside.slots.items = search rules in
    let trim = c.requires.trim in
    let is = in_taken_room small c.self.view_is c.from.ensures trim.0 trim.1 c.index_mut-command.ensures.value in
    let now : TakenCommand = c.index_mut-command.result.now in
    let new : TakenCommand = record now { moved = now.moved + 1; block = Some c.of.result } in (
      simp length-set c.self.invariant.0,
      room_brings is c.self.inside.block c.args.bytes.now c.self.invariant.1 new refl refl
          (ap (λ (t : TakenCommand). t.operation) (in_it is trim.0 trim.1) ∙ trim.2) (λ i. Some (snapshot_of_bytes (c.of.ensures i))),
    )

pub returns : goal.returns
returns c = λ t held.
    let small : c.from.result < length c.self.inside.slots.items = search rules in
    let trim = c.requires.trim in
    let is = in_taken_room small c.self.view_is c.from.ensures trim.0 trim.1 c.index_mut-command.ensures.value in
    let now : TakenCommand = c.index_mut-command.result.now in
    let one = in_it is t held in
    room_changed is (record now { moved = now.moved + 1; block = Some c.of.result })
    ∙ (λ i. changed (taken_in c.args.self.now) c.args.slot
    (Some (record (one i) { moved = (one i).moved + 1; block = Some (snapshot_of_bytes (c.of.ensures i)) })))
