-- What the book's changes make of the lists of conflicts.
use Rattle.std.proofs.Common.{◌≡◌, List, map}
use Rattle.ata_types.specs.declared.request.RequestId.{RequestId}
use Rattle.block_machine.specs.declared.due.Unanswered.{Unanswered}
use Rattle.request_queue.specs.declared.flushes.Flush.{Flush}
use Rattle.request_queue.specs.declared.ranges.RequestRange.{RequestRange}
use Rattle.request_queue.specs.Conflicts.{AreConflictLists, ConflictLists}
use Rattle.request_queue.specs.BookEntries.{BookEntry, unanswered_of, update_if_id, issued_request, request_with_issued_cleared}
use Rattle.request_queue.specs.Flushes.{flushes_among}
use Rattle.request_queue.specs.Sectors.{AreIndexed}
use Rattle.request_queue.proofs.Flushing.{issued_flushes, requeued_flushes}
use Rattle.request_queue.proofs.Indexing.{issued_indexed, requeued_indexed}

-- ---- a change of requests that leaves their sectors, and which are flushes

lists_stay : (book later : List Unanswered) → ((lists : List (List RequestRange)) → AreIndexed book lists → AreIndexed later lists)
    → ((flushes : List Flush) → flushes ≡ flushes_among book → flushes ≡ flushes_among later) → (lists : ConflictLists) → AreConflictLists book lists → AreConflictLists later lists
lists_stay book later indexed listed lists are = record { sectors_are_indexed = indexed lists.sectors are.sectors_are_indexed; flushes_are_listed = listed lists.flushes are.flushes_are_listed }

pub issued_lists : (es : List BookEntry) (id : RequestId) (lists : ConflictLists) → AreConflictLists (unanswered_of es) lists → AreConflictLists (unanswered_of (map (update_if_id id issued_request) es)) lists
issued_lists es id = lists_stay (unanswered_of es) (unanswered_of (map (update_if_id id issued_request) es)) (issued_indexed es id) (issued_flushes es id)

pub requeued_lists : (es : List BookEntry) (id : RequestId) (lists : ConflictLists) → AreConflictLists (unanswered_of es) lists
    → AreConflictLists (unanswered_of (map (update_if_id id request_with_issued_cleared) es)) lists
requeued_lists es id = lists_stay (unanswered_of es) (unanswered_of (map (update_if_id id request_with_issued_cleared) es)) (requeued_indexed es id) (requeued_flushes es id)
