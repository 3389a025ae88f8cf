use Rattle.std.proofs.Common.{sym, ap₂, ◌∙◌}
use Rattle.hba_regs.specs.Bits.{bit}
use Rattle.port_driver.proofs.Table as table
use Rattle.port_driver.proofs.slot_table.SlotTable.used_for.Goals as goal

pub returns-in_default : goal.returns-in_default
returns-in_default c = rw (sym c.self.view_is) (table.no_use_at c.self.inside.slots.queued c.self.inside.requests c.args.slot.0 c.in_default.ensures)

pub returns : goal.returns
returns c = rw (sym c.self.view_is)
    (table.its_use c.self.inside.slots.queued c.self.inside.requests c.args.slot.0 c.in-Some.id c.is_set-queued.result c.self.invariant.1 c.in-Some.ensures (c.is_set-queued.ensures ∙ ap₂ bit c.queued.ensures c.from.ensures))
