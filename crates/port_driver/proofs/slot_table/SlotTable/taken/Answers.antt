use Rattle.std.proofs.Common.{sym}
use Rattle.port_driver.proofs.Table as table
use Rattle.port_driver.proofs.slot_table.SlotTable.taken.Goals as goal

pub returns : goal.returns
returns c = λ slot small. rw (sym c.self.view_is) (table.taken_used c.self.inside.slots c.self.inside.requests c.self.invariant.2 _ c.taken.ensures slot small)
