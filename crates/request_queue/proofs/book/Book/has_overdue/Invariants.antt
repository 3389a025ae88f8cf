use Rattle.std.proofs.Common.{ℕ, ◌<◌, get_or}
use Rattle.request_queue.specs.BookEntries.{BookEntry, IsOverdueOn}
use Rattle.request_queue.proofs.book.Book.has_overdue.Given as goal

abbrev pub invariant-loop-place : goal.invariant-loop-place
invariant-loop-place l = (k : ℕ) (d : BookEntry) → k < l.place → IsOverdueOn l.port (get_or l.self k d).request → ⊥
