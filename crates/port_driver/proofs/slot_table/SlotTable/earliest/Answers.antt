use Rattle.std.proofs.Common.{sym}
use Rattle.port_driver.proofs.Table as table
use Rattle.port_driver.proofs.slot_table.SlotTable.earliest.Goals as goal

pub returns-in_default-clause-no_such_slot : goal.returns-in_default-clause-no_such_slot
returns-in_default-clause-no_such_slot c = rw (sym c.self.view_is)
    (table.none_is c.self.inside.slots c.self.inside.requests c.self.invariant.2 c.args.mask c.taken.result c.taken.ensures c.in_default.ensures.none)

pub returns-clause-found : goal.returns-clause-found
returns-clause-found c = rw (sym c.self.view_is)
    (table.least_is c.self.inside.slots c.self.inside.requests c.self.invariant.2 c.args.mask c.taken.result c.taken.ensures c.in-Some.place c.in-Some.ensures.found)
