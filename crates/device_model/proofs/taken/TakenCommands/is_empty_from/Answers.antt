use Rattle.std.proofs.Common.{rules, arith, ℕ, ◌<◌, ◌^◌, ◌∙◌, ap, sym, refl}
use Rattle.std.specs.Prelude.{is_some}
use Rattle.device_model.proofs.SlotLemmas.{held_none, held_tells, is_held}
use Rattle.device_model.proofs.taken.TakenCommands.is_empty_from.Goals as goal

pub returns : goal.returns
returns c =
    let filled = c.self.inside.filled in
    let items = c.self.inside.slots.items in
    let fits : filled < 2 ^ 32 = search rules in
    let at = c.from.ensures in
    let is = λ (k : ℕ). is_held filled items c.args.self.now k k c.self.view_is refl in (
      λ clear k high. sym (is k) ∙ held_none filled items k (c.is_clear_from.ensures.0 clear k (omega (arith, at, high))),
      λ none.
          c.is_clear_from.ensures.1
          (λ k high. held_tells filled items k fits c.self.invariant.0 ∙ ap is_some (is k ∙ none k (omega (arith, at, high)))),
    )
