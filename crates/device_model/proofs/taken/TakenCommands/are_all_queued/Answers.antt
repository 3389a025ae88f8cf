use Rattle.std.proofs.Common.{ℕ, List, Option, ◌∙◌, ap, sym, refl}
use Rattle.device_model.proofs.SlotLemmas.{is_held}
use Rattle.device_model.specs.TakenBlocks.{taken_in_slot}
use Rattle.device_model.specs.declared.port.TakenCommand.{TakenCommand}
use Rattle.std.proofs.Common.{List}
use Rattle.device_model.proofs.taken.TakenCommands.are_all_queued.Goals as goal

pub returns-else-is_empty : goal.returns-else-is_empty
returns-else-is_empty c =
    let filled = c.self.inside.filled in
    let items = c.self.inside.slots.items in
    let same = ap (λ (l : List TakenCommand). taken_in_slot filled l) c.deref.ensures.value in
    let is = λ (slot : ℕ). ap (λ (f : ℕ → Option TakenCommand). f slot) same ∙ is_held filled items c.args.self.now slot slot c.self.view_is refl in (
      λ yes slot t held. c.hold_queued.ensures.0 yes slot t (is slot ∙ held),
      λ all. c.hold_queued.ensures.1 (λ slot t held. all slot t (sym (is slot) ∙ held)),
    )
