use Rattle.std.proofs.Common.{Some, refl, sym, ◌∙◌}
use Rattle.std.proofs.lemmas.List.{length-set}
use Rattle.port_driver.proofs.Table as table
use Rattle.port_driver.proofs.slot_table.SlotTable.take.Goals as goal

pub invariant_of-self : goal.invariant_of-self
invariant_of-self c = rw c.in_default.ensures.unchanged c.self.invariant

pub invariant_of-self-2 : goal.invariant_of-self-2
invariant_of-self-2 c =
    let is = c.self.invariant in
    let t = c.in-Some.ensures.taken in (
      rw t.usable_count_is_kept is.0,
      length-set c.self.inside.requests c.in-Some.slot.0 (Some c.args.id) ∙ is.1,
      table.serve_still c.self.inside.slots c.take_slot.new.slots c.self.inside.requests c.in-Some.slot.0 (Some c.args.id) is.1 c.in-Some.ensures.lowest.0 is.2 ((λ x. refl), (λ x. t.is_taken)) t.others_are_kept,
    )

pub returns-in_default-clause-all_are_allocated : goal.returns-in_default-clause-all_are_allocated
returns-in_default-clause-all_are_allocated c =
    let all = table.all_taken c.self.inside.slots c.self.inside.requests c.self.invariant.2 c.self.invariant.0 c.in_default.ensures.all_are_taken in
    rw (sym c.self.view_is) all

pub returns-clause-lowest : goal.returns-clause-lowest
returns-clause-lowest c = rw (sym c.self.view_is) (table.lowest_is c.self.inside.slots c.self.inside.requests c.self.invariant.2 c.in-Some.slot.0 c.in-Some.ensures.lowest)

pub returns-clause-taken : goal.returns-clause-taken
returns-clause-taken c = rw (sym c.self.view_is)
    (table.taken_is c.args.queued c.args.id c.in-Some.slot.0 c.self.inside.slots c.take_slot.new.slots c.self.inside.requests c.self.invariant.1 c.in-Some.ensures.lowest.0 c.in-Some.ensures.taken)
