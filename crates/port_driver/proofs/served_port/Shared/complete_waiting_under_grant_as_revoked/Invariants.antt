use Rattle.std.proofs.Common.{drop, filter}
use Rattle.port_driver.specs.LoanRoom.{book_and_loans}
use Rattle.port_driver.proofs.Settling.{SoFar}
use Rattle.ata_types.specs.declared.request.Outcome.TheVariants.{Revoked}
use Rattle.request_queue.specs.BookEntries.{BookEntry, waits_under}
use Rattle.request_queue.specs.declared.disposition.Disposition.TheVariants.{Complete}
use Rattle.dma_frames.specs.Loan.{Lending}
use Rattle.std.proofs.Common.{List}
use Rattle.port_driver.proofs.served_port.Shared.complete_waiting_under_grant_as_revoked.Given as goal

abbrev pub invariant-loop-place : goal.invariant-loop-place
invariant-loop-place l = (kept : List Lending) → SoFar (λ e. Complete Revoked) (filter (λ (e : BookEntry). waits_under l.fn.client l.fn.number e.request) l.fn.self.book) (book_and_loans l.fn.self.book l.fn.self.table.value kept) l.fn.replies.items
    (drop l.place (filter (λ (e : BookEntry). waits_under l.fn.client l.fn.number e.request) l.fn.self.book)) (book_and_loans l.self.book l.self.table.value kept) l.replies.items
