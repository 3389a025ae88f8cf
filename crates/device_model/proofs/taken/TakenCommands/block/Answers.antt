use Rattle.std.proofs.Common.{◌≡◌, ◌∙◌, true, ap, sym, refl}
use Rattle.std.specs.Prelude.{is_some}
use Rattle.device_model.proofs.Absurd.{some_one}
use Rattle.device_model.proofs.Blocks.{block_is}
use Rattle.device_model.proofs.SlotLemmas.{is_held}
use Rattle.device_model.specs.TakenBlocks.{taken_in_slot}
use Rattle.device_model.specs.declared.port.TakenCommand.{TakenCommand}
use Rattle.device_model.proofs.taken.TakenCommands.block.Goals as goal

pub returns-in-Some-clause-block : goal.returns-in-Some-clause-block
returns-in-Some-clause-block c = λ t held.
    let filled = c.self.inside.filled in
    let items = c.self.inside.slots.items in
    let is = is_held filled items c.args.self.now c.args.slot c.args.slot c.self.view_is refl in
    let one : c.in-Some.command.now ≡ t = some_one (sym c.in-Some.ensures.found ∙ held) in
    let some : is_some t.block ≡ true = ap (λ (x : TakenCommand). is_some x.block) (sym one) ∙ (sym c.is_some.ensures ∙ c.if-is_some.true) in
    block_is (taken_in_slot filled items) c.self.inside.block c.args.slot t c.self.invariant.1 (is ∙ held) some
