use Rattle.port_driver.proofs.Table as table
use Rattle.port_driver.proofs.slot_table.SlotTable.new.Goals as goal

pub returns-clause-free : goal.returns-clause-free
returns-clause-free c = λ slot. table.no_use c.new.result.queued c.no_requests.result c.no_requests.ensures slot
