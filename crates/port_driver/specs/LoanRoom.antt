-- What a port's unanswered requests hold, and room for what is kept of it (this project's own).
use Rattle.std.specs.Prelude.{◌≤◌, ◌<◌, ◌+◌, ◌≡◌, true, List, All, count_by, length}
use Rattle.ata_types.specs.declared.limits.TheConstants.{MOST_UNANSWERED_OF_ALL_CLIENTS}
use Rattle.ata_types.specs.declared.request.Reply.{Reply}
use Rattle.dma_frames.specs.Loan.{Lending}
use Rattle.dma_frames.specs.FrameTables.{OwnersAndLoans}
use Rattle.request_queue.specs.BookEntries.{BookEntry, IsWellFormedEntry, BookIsWellFormed}
use Rattle.request_queue.specs.Dispositions.{BookAndLoans}

-- The book with the loans of the table and the kept loans.
abbrev pub book_and_loans : List BookEntry → OwnersAndLoans → List Lending → BookAndLoans
book_and_loans book table kept = record { book = book; table = table; kept = kept }

-- a book in order, each request of which is as it was accepted, and has its frames lent to it
pub record BookIsSound (table : OwnersAndLoans) (book : List BookEntry) : Type 0 where
  pub book_is_well_formed : BookIsWellFormed book
  pub entries_are_well_formed : All (IsWellFormedEntry table) book

-- each request of a sound book may be answered: there is room for that many replies after these
pub record MayAnswerAll (table : OwnersAndLoans) (book : List BookEntry) (replies : List Reply) : Type 0 where
  pub book_is_sound : BookIsSound table book
  pub replies_have_room : length replies + length book ≤ MOST_UNANSWERED_OF_ALL_CLIENTS

-- there is a place for the request's loan, if it is issued
abbrev pub HasLoanRoomIfIssued : BookEntry → List Lending → Type 0
HasLoanRoomIfIssued request kept = request.request.issued ≡ true → length kept < 32

-- there are places for the loans of these requests that are issued
abbrev pub HaveRoomForIssuedLoans : List BookEntry → List Lending → Type 0
HaveRoomForIssuedLoans requests kept = length kept + count_by (λ e. e.request.issued) requests ≤ 32
