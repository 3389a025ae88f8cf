use Rattle.std.proofs.Common.{None, sym, ◌∙◌}
use Rattle.std.proofs.lemmas.List.{length-set}
use Rattle.port_driver.proofs.Table as table
use Rattle.port_driver.proofs.slot_table.SlotTable.free.Goals as goal

pub invariant_of-self : goal.invariant_of-self
invariant_of-self c =
    let is = c.self.invariant in
    let f = c.free.ensures in (
      rw f.usable is.0,
      length-set c.self.inside.requests c.args.slot.0 None ∙ is.1,
      table.serve_still c.self.inside.slots c.free.new.self c.self.inside.requests c.args.slot.0 None is.1 c.requires is.2 (table.none_taken c.free.new.self c.args.slot.0 (f.queued.0, f.plain.0), (λ x. absurd cc)) (λ k low other. (f.queued.1 k low other, f.plain.1 k low other)),
    )

pub returns-clause-freed : goal.returns-clause-freed
returns-clause-freed c = rw (sym c.self.view_is)
    (table.freed_is c.args.slot.0 c.self.inside.slots c.free.new.self c.self.inside.requests c.self.invariant.1 c.requires c.free.ensures.usable c.free.ensures.queued)
