-- A change of all requests that spares what says which are due, and whose they are, leaves a book as it is beside them.
use Rattle.std.proofs.Common.{ℕ, ◌≡◌, List, Option, sym, ap, subst}
use Rattle.ata_types.specs.declared.request.ClientId.{ClientId}
use Rattle.ata_types.specs.declared.request.RequestId.{RequestId}
use Rattle.block_machine.specs.declared.due.Unanswered.{Unanswered}
use Rattle.request_queue.specs.Conflicts.{AreConflictLists, ConflictLists}
use Rattle.request_queue.specs.ClientCounts.{AreClientCounts}
use Rattle.request_queue.specs.BookEntries.{BookEntry, BookIsWellFormed, unanswered_of}
use Rattle.request_queue.specs.Blockers.{AreBlockers}
use Rattle.request_queue.specs.declared.PendingRequest.{PendingRequest}
use Rattle.request_queue.proofs.Changing.{Spares, all_asked, all_changed, all_in_order}
use Rattle.request_queue.proofs.ClientCounts.{counts_changed}

pub parts_stay : {A : Type 0} (f : PendingRequest → PendingRequest) → ((r : PendingRequest) → Spares r (f r)) → (es now : List BookEntry) → now ≡ all_changed f es
    → (lists : ConflictLists) (blockers : List (Option RequestId)) (counts : List ℕ)
    → BookIsWellFormed es × AreConflictLists (unanswered_of es) lists × AreBlockers (unanswered_of es) blockers × A × AreClientCounts es counts
    → BookIsWellFormed now × AreConflictLists (unanswered_of now) lists × AreBlockers (unanswered_of now) blockers × A × AreClientCounts now counts
parts_stay {A} f spares es now is lists blockers counts all =
    subst (λ (book : List BookEntry). BookIsWellFormed book × AreConflictLists (unanswered_of book) lists × AreBlockers (unanswered_of book) blockers × A × AreClientCounts book counts) (sym is) (
      all_in_order f spares es all.0,
      subst (λ (book : List Unanswered). AreConflictLists book lists) same all.1,
      subst (λ (book : List Unanswered). AreBlockers book blockers) same all.2,
      all.3,
      counts_changed es f counts (λ r. ap (λ (c : ClientId). c.0) (spares r).client) all.4,
    )
  where
    same : unanswered_of es ≡ unanswered_of (all_changed f es)
    same = sym (all_asked f spares es)
