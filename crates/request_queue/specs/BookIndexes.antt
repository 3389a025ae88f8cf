-- What stands beside the requests of a book, so that no call has to walk over all (this project's own).
use Rattle.std.specs.Prelude.{ℕ, List, Option}
use Rattle.ata_types.specs.declared.request.RequestId.{RequestId}
use Rattle.request_queue.specs.Conflicts.{AreConflictLists, ConflictLists}
use Rattle.request_queue.specs.ClientCounts.{AreClientCounts}
use Rattle.request_queue.specs.BookEntries.{BookEntry, unanswered_of}
use Rattle.request_queue.specs.Blockers.{AreBlockers}

-- which conflict, who waits for whom, and how many each client has
pub record IndexesMatch (entries : List BookEntry) (lists : ConflictLists) (blockers : List (Option RequestId))
    (counts : List ℕ) : Type 0 where
  pub conflict_lists_match : AreConflictLists (unanswered_of entries) lists
  pub blockers_match : AreBlockers (unanswered_of entries) blockers
  pub client_counts_match : AreClientCounts entries counts
