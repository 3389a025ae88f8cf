use Rattle.std.proofs.Common.{ℕ, Option, ◌≡◌, ◌∙◌, None, ap, sym, subst}
use Rattle.adapter.specs.Memory.{changed}
use Rattle.device_model.proofs.Blocks.{block_removed}
use Rattle.device_model.proofs.SlotLemmas.{held_list, held_removed}
use Rattle.device_model.specs.PortView.{taken_in}
use Rattle.device_model.specs.TakenBlocks.{BlockIsOfTakenTrim, taken_in_slot}
use Rattle.device_model.specs.declared.port.TakenCommand.{TakenCommand}
use Rattle.device_model.proofs.taken.TakenCommands.remove.Goals as goal

pub returns : goal.returns
returns c =
    let filled = c.self.inside.filled in
    let items = c.self.inside.slots.items in
    let was : taken_in_slot filled items ≡ taken_in c.args.self.now = sym (held_list filled items) ∙ ap taken_in c.self.view_is in
    held_list c.with_bit_as-self-inside.result items
    ∙ (held_removed filled c.with_bit_as-self-inside.result items c.from.result c.with_bit_as-self-inside.ensures
    ∙ (λ i. changed (was i) (c.from.ensures i) None))

pub invariant_of-self : goal.invariant_of-self
invariant_of-self c =
    let filled = c.self.inside.filled in
    let items = c.self.inside.slots.items in
    let P : (ℕ → Option TakenCommand) → Type 0 = λ f. BlockIsOfTakenTrim f c.self.inside.block in (
      c.self.invariant.0,
      subst P (sym (held_removed filled c.with_bit_as-self-inside.result items c.from.result c.with_bit_as-self-inside.ensures))
          (block_removed (taken_in_slot filled items) c.self.inside.block c.from.result c.self.invariant.1),
    )
