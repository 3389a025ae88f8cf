use Rattle.std.proofs.Common.{drop, filter}
use Rattle.port_driver.specs.LoanRoom.{HaveRoomForIssuedLoans, book_and_loans}
use Rattle.port_driver.proofs.Settling.{SoFar}
use Rattle.request_queue.specs.BookEntries.{BookEntry, is_of_port}
use Rattle.request_queue.specs.Dispositions.{disposition_of}
use Rattle.port_driver.proofs.served_port.Shared.resolve.Given as goal

abbrev pub invariant-loop-place : goal.invariant-loop-place
invariant-loop-place l =
    SoFar (disposition_of l.stopped.failed l.stopped.revalidation) (filter (λ (e : BookEntry). is_of_port l.fn.port e.request) l.fn.self.book) (book_and_loans l.fn.self.book l.fn.self.table.value l.fn.kept) l.fn.replies.items
    (drop l.place (filter (λ (e : BookEntry). is_of_port l.fn.port e.request) l.fn.self.book)) (book_and_loans l.self.book l.self.table.value l.kept) l.replies.items
    × HaveRoomForIssuedLoans (drop l.place (filter (λ (e : BookEntry). is_of_port l.fn.port e.request) l.fn.self.book)) l.kept
