use Rattle.request_queue.specs.BookEntries.{with_revoked_mark_if_under_grant}
use Rattle.request_queue.proofs.Changing.{ChangedSoFar}
use Rattle.request_queue.proofs.book.mark.Given as goal

abbrev pub invariant-loop-place : goal.invariant-loop-place
invariant-loop-place l = ChangedSoFar (with_revoked_mark_if_under_grant l.client l.grant) l.fn.store l.store l.place
