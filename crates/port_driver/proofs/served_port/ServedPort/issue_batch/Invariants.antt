use Rattle.std.proofs.Common.{◌≡◌, ◌*◌, ◌^◌, ◌<◌, List, drop, length, take}
use Rattle.adapter.specs.AccessBounds.{MakesAtMost}
use Rattle.block_machine.specs.DueRequests.{AreDueInTurnAndLeaveNoneDue}
use Rattle.ncq.specs.Batches.{HasExactlySlotBitsOf, IsBatchStored, PlacedTask}
use Rattle.command_table.specs.Costs.{TABLE_ACCESSES}
use Rattle.port_driver.specs.LentSlots.{HasPortToIssue, with_port_slots}
use Rattle.request_queue.specs.BookEntries.{unanswered_of}
use Rattle.server_history.specs.IssuingAndAnswering.{PutsInSlots}
use Rattle.server_history.specs.ServerState.{ServerState}
use Rattle.port_driver.proofs.served_port.ServedPort.issue_batch.Given as goal

abbrev pub invariant-loop-place : goal.invariant-loop-place
invariant-loop-place g l = record {
  batch : (tasks : List PlacedTask) × IsBatchStored l.port tasks (g.A.Adapter.device l.fn.adapter) (g.A.Adapter.device l.adapter) × HasExactlySlotBitsOf tasks l.mask
      × ((s : ServerState) → HasPortToIssue s (g.A.Adapter.device l.fn.adapter) l.fn.book l.fn.self.slots l.port l.fn.self.mode l.fn.self.probe_result
      → PutsInSlots l.port (take l.place l.due.items) tasks s (with_port_slots s (g.A.Adapter.device l.fn.adapter) l.book l.self.slots l.port));
  turns : AreDueInTurnAndLeaveNoneDue l.fn.self.mode l.port (drop l.place l.due.items) (unanswered_of l.book);
  many : length l.book ≡ length l.fn.book;
  port : l.self ≡ record l.fn.self { slots = l.self.slots };
  fits : l.mask < 2 ^ 32;
  cost : MakesAtMost (TABLE_ACCESSES * l.place) (g.A.Adapter.access_count l.fn.adapter) (g.A.Adapter.access_count l.adapter);
}
