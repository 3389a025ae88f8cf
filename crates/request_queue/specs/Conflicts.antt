-- The lists that tell which requests conflict: of their sectors, and of their flushes (this project's own).
use Rattle.std.specs.Prelude.{◌≡◌, List}
use Rattle.block_machine.specs.declared.due.Unanswered.{Unanswered}
use Rattle.request_queue.specs.declared.flushes.Flush.{Flush}
use Rattle.request_queue.specs.declared.ranges.RequestRange.{RequestRange}
use Rattle.request_queue.specs.Flushes.{flushes_among}
use Rattle.request_queue.specs.Sectors.{AreIndexed}

-- the sectors, port by port, and the flushes
pub record ConflictLists : Type 0 where
  pub sectors : List (List RequestRange)
  pub flushes : List Flush

-- the lists are those of the book
pub record AreConflictLists (book : List Unanswered) (lists : ConflictLists) : Type 0 where
  pub sectors_are_indexed : AreIndexed book lists.sectors
  pub flushes_are_listed : lists.flushes ≡ flushes_among book
