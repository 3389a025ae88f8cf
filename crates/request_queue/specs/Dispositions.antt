-- What becomes of the unanswered requests of a port that was stopped (this project's own).
use Rattle.std.specs.Prelude.{◌≡◌, ◌==◌, ◌++◌, Bool, true, false, List, [], ◌∷◌, Option, None, Some, filter, map, not, if◌then◌else◌}
use Rattle.ata_types.specs.declared.request.Outcome.{Outcome}
use Rattle.ata_types.specs.declared.request.Outcome.TheVariants.{Aborted, DeviceError, PortDead, Revoked, Unplugged}
use Rattle.ata_types.specs.declared.request.Reply.{Reply}
use Rattle.dma_frames.specs.Loan.{Lending}
use Rattle.dma_frames.specs.FrameTables.{OwnersAndLoans, SetsLoanOnly}
use Rattle.request_queue.specs.BookEntries.{BookEntry, GivesBack, update_if_id, request_with_issued_cleared, without_entry}
use Rattle.request_queue.specs.declared.PendingRequest.{PendingRequest}
use Rattle.request_queue.specs.declared.disposition.FailedRequest.{FailedRequest}
use Rattle.request_queue.specs.declared.disposition.Disposition.{Disposition}
use Rattle.request_queue.specs.declared.disposition.Disposition.TheVariants.{Wait, Requeue, Complete}
use Rattle.request_queue.specs.declared.disposition.Revalidation.{Revalidation}
use Rattle.request_queue.specs.declared.disposition.Revalidation.TheVariants.{SameDisk, DiskLost, Dead}

-- ---- the rule

-- One that didn't fail goes again on the disk that it had, if it is issued, unless its grant was revoked, or it was
-- issued four times; if it isn't, it waits. Else it is told what its port is.
abbrev pub disposition_of_unfailed : Revalidation → PendingRequest → Disposition
disposition_of_unfailed SameDisk e =
    if e.issued then (if e.revoked then Complete Revoked
    else (if e.issue_count == 4 then Complete Aborted else Requeue))
    else Wait
disposition_of_unfailed DiskLost e = Complete Unplugged
disposition_of_unfailed Dead e = Complete PortDead

-- and the one that failed is told so
abbrev pub disposition_of : Option FailedRequest → Revalidation → PendingRequest → Disposition
disposition_of None revalidation e = disposition_of_unfailed revalidation e
disposition_of (Some failed) revalidation e = if failed.id.0 == e.id.0
    then Complete (DeviceError failed.status failed.error)
    else disposition_of_unfailed revalidation e

-- its frames stay lent: it was issued, and its port is dead
abbrev pub keeps_loan : Outcome → PendingRequest → Bool
keeps_loan PortDead e = e.issued
keeps_loan _ e = false

-- ---- one after another

-- the unanswered requests of all ports, what is lent, and the loans that are kept of one port
pub record BookAndLoans : Type 0 where
  pub book : List BookEntry
  pub table : OwnersAndLoans
  pub kept : List Lending

-- how the client is told
abbrev pub reply_to : BookEntry → Outcome → Reply
reply_to request outcome = record { id = request.request.id; client = request.request.client; outcome = outcome }

-- its loan is kept, or its frames are given back, and no other changed hands
abbrev pub KeepsOrEndsLoan : Bool → BookEntry → BookAndLoans → BookAndLoans → Type 0
KeepsOrEndsLoan true request old new =
    (new.kept ≡ old.kept ++ record { frames = request.frames; request = request.request.id } ∷ [])
    × (new.table ≡ old.table)
KeepsOrEndsLoan false request old new = (new.kept ≡ old.kept) × SetsLoanOnly old.table new.table request.frames None

-- The request was resolved: it waits as it did, it waits again, or it was answered and has left the book.
abbrev pub IsResolved : BookEntry → Disposition → List Reply → BookAndLoans → BookAndLoans → Type 0
IsResolved request Wait replies old new = (replies ≡ []) × (new ≡ old)
IsResolved request Requeue replies old new = (replies ≡ [])
    × (new ≡ record old { book = map (update_if_id request.request.id request_with_issued_cleared) old.book })
IsResolved request (Complete outcome) replies old new =
    (replies ≡ reply_to request outcome ∷ []) × (new.book ≡ without_entry request.request.id old.book)
    × KeepsOrEndsLoan (keeps_loan outcome request.request) request old new

-- so were these requests, one after another
abbrev pub AreResolved : (PendingRequest → Disposition) → List BookEntry → List Reply → BookAndLoans → BookAndLoans
    → Type 0
AreResolved disposition [] replies old new = (replies ≡ []) × (new ≡ old)
AreResolved disposition (request ∷ requests) replies old new =
    (mid : BookAndLoans) × (its later : List Reply) × (replies ≡ its ++ later)
    × IsResolved request (disposition request.request) its old mid × AreResolved disposition requests later mid new

-- The requests of the book that pass were answered, all with this outcome: the replies tell them so, oldest first, the
-- others are left, and what was lent to those is given back.
pub record CompletesAllWith (passes : PendingRequest → Bool) (outcome : Outcome) (replies : List Reply)
    (old new : BookAndLoans) : Type 0 where
  pub replies_are_of_passing : replies ≡ map (λ e. reply_to e outcome) (filter (λ e. passes e.request) old.book)
  pub others_stay_in_book : new.book ≡ filter (λ e. not (passes e.request)) old.book
  pub loans_are_given_back : GivesBack old.table new.table (filter (λ e. passes e.request) old.book)
  pub kept_is_same : new.kept ≡ old.kept
