use Rattle.std.proofs.Common.{rules, ℕ, ◌<◌, ◌^◌, ◌∙◌, ap, sym, refl, eq-eqb, eqb-true}
use Rattle.std.specs.Prelude.{is_some}
use Rattle.hba_regs.specs.Bits.{bit}
use Rattle.device_model.proofs.BitLemmas.{none_set}
use Rattle.device_model.proofs.NewModel.{zero_bit}
use Rattle.device_model.proofs.SlotLemmas.{held_none, held_tells, is_held}
use Rattle.device_model.proofs.taken.TakenCommands.is_empty.Goals as goal

pub returns : goal.returns
returns c =
    let filled = c.self.inside.filled in
    let items = c.self.inside.slots.items in
    let fits : filled < 2 ^ 32 = search rules in
    let is = λ (k : ℕ). is_held filled items c.args.self.now k k c.self.view_is refl in (
      λ zero slot. sym (is slot) ∙ held_none filled items slot (ap (λ (n : ℕ). bit n slot) (eqb-true filled 0 zero) ∙ zero_bit slot),
      λ none. eq-eqb filled 0 (none_set filled fits (λ k. held_tells filled items k fits c.self.invariant.0 ∙ ap is_some (is k ∙ none k))),
    )
