-- The unanswered requests of a port that was stopped are resolved in the machine, too (this project's own).
use Rattle.std.specs.Prelude.{ℕ, Bool, ◌≡◌, ◌≢◌, ◌++◌, true, false, List, [], ◌∷◌, All, AllPairs, Contains}
use Rattle.ata_types.specs.declared.Port.{Port}
use Rattle.ata_types.specs.declared.request.Frame.{Frame}
use Rattle.ata_types.specs.declared.request.Outcome.{Outcome}
use Rattle.ata_types.specs.declared.request.Reply.{Reply}
use Rattle.ata_types.specs.declared.request.RequestId.{RequestId}
use Rattle.adapter.specs.Device.{Device}
use Rattle.refinement.specs.Driver.{HasNoSlot, TapeBacksSteps, DriverState, DriverRelation}
use Rattle.block_machine.specs.Events.{AllEnabled, RepliesMatch}
use Rattle.block_machine.specs.Histories.{IsReachable}
use Rattle.block_machine.specs.Expected.{after}
use Rattle.block_machine.specs.State.{Machine, Pending}
use Rattle.block_machine.specs.Steps.{Step, WaitAgain, Answer}
use Rattle.dma_frames.specs.Loan.{Lending}
use Rattle.dma_frames.specs.FrameTables.{lent_to}
use Rattle.request_queue.specs.BookEntries.{BookEntry, IsWellFormedEntry, IsEarlier, BookIsWellFormed}
use Rattle.request_queue.specs.Dispositions.{BookAndLoans, keeps_loan}
use Rattle.request_queue.specs.BookRelation.{BookRelation, EntryRelation}
use Rattle.request_queue.specs.declared.PendingRequest.{PendingRequest}
use Rattle.request_queue.specs.declared.disposition.Disposition.{Disposition}
use Rattle.request_queue.specs.declared.disposition.Disposition.TheVariants.{Complete, Requeue, Wait}
use Rattle.server_history.specs.ServerState.{DifferInRequest, RevokedMarkAgrees}

-- the step is the server's: a request of the port waits again, or is answered
abbrev pub IsResolveStep : Port → Step → Type 0
IsResolveStep port (WaitAgain e) = e.request.port ≡ port
IsResolveStep port (Answer e outcome) = e.request.port ≡ port
IsResolveStep port step = ⊥

-- it is answered, and its loan is kept
abbrev pub completes_keeping_loan : Disposition → PendingRequest → Bool
completes_keeping_loan (Complete outcome) e = keeps_loan outcome e
completes_keeping_loan _ e = false

-- the loan of a request that the machine keeps
abbrev pub loan_of : Pending → Lending
loan_of e = record { frames = e.request.asked.frames.items; request = e.request.id }

-- the loans of these, the last first
abbrev pub loans_newest_first : List Pending → List Lending
loans_newest_first [] = []
loans_newest_first (e ∷ rest) = loans_newest_first rest ++ loan_of e ∷ []

-- The machine has the book and the loans. These are requests of the port in the book, each with a mark that says
-- whether the machine has its grant. No slot serves one of them whose loan isn't kept.
pub record AreResolvable (port : Port) (disposition : PendingRequest
    → Disposition) (requests : List BookEntry) (now : BookAndLoans)
    (k : DriverState)
    (m : Machine) : Type 0 where
  pub reached : IsReachable m
  pub driver_relation : DriverRelation m k
  pub book_relation : BookRelation now.book m.book
  pub loans_agree : (frame : Frame) → m.lent frame ≡ lent_to now.table frame
  pub book_is_well_formed : BookIsWellFormed now.book
  pub entries_are_well_formed : All (IsWellFormedEntry now.table) now.book
  pub are_in_book_of_port : (e : BookEntry) → Contains requests e → Contains now.book e × (e.request.port ≡ port)
  pub revoked_marks_agree : (e : BookEntry) → Contains requests e → RevokedMarkAgrees m.rows e.request
  pub are_in_order : AllPairs IsEarlier requests
  pub released_have_no_slot : (e : BookEntry) → Contains requests e
      → completes_keeping_loan (disposition e.request) e.request ≡ false
      → HasNoSlot k.slot_states e.request.id

-- the request waits again, or is answered and its loan isn't kept
abbrev pub IsRequeuedOrAnsweredWithoutKeptLoan : (PendingRequest → Disposition) → BookEntry → Type 0
IsRequeuedOrAnsweredWithoutKeptLoan disposition e = (disposition e.request ≢ Wait)
    × (completes_keeping_loan (disposition e.request) e.request ≡ false)

-- They are resolved by steps that decide on requests of the port, after which the machine has the book and the loans
-- that are left. Those whose loans are kept are kept in the machine beside those that were, and each has one more loan.
-- What is parked of the port was parked before, and none of it belongs to those that were let go.
pub record AreResolvedInMachine (port : Port) (disposition : PendingRequest → Disposition) (requests : List BookEntry)
    (replies : List Reply)
    (old new : BookAndLoans) (k : DriverState) (m : Machine) : Type 0 where
  pub steps : List Step
  pub parked : ℕ → List RequestId
  pub steps_are_enabled : AllEnabled m steps
  pub steps_are_of_port : All (IsResolveStep port) steps
  pub backed : (d : Device) → TapeBacksSteps d d m steps
  pub driver_relation : DriverRelation (after m steps) (record k { awaiting_disposition = parked })
  pub parked_of_others_is_kept : (q : ℕ) → q ≢ port.0 → parked q ≡ k.awaiting_disposition q
  pub parked_was_parked_and_not_freed : (id : RequestId) → Contains (parked port.0) id
      → Contains (k.awaiting_disposition port.0) id
      × ((e : BookEntry) → Contains requests e → IsRequeuedOrAnsweredWithoutKeptLoan disposition e → e.request.id ≢ id)
  pub book : BookRelation new.book (after m steps).book
  pub loans_agree : (frame : Frame) → (after m steps).lent frame ≡ lent_to new.table frame
  pub newly_kept : List Pending
  pub newly_kept_are_kept : (after m steps).kept ≡ newly_kept ++ m.kept
  pub loans_of_newly_kept : new.kept ≡ old.kept ++ loans_newest_first newly_kept
  pub loans_differ_in_request : AllPairs DifferInRequest (loans_newest_first newly_kept)
  pub newly_kept_are_of_requests : (e : Pending) → Contains newly_kept e → (request : BookEntry)
      × Contains requests request
      × EntryRelation request e
      × (completes_keeping_loan (disposition request.request) request.request ≡ true)
  pub answers_are_as_decided : (e : Pending) (outcome : Outcome) → Contains steps (Answer e outcome)
      → (request : BookEntry)
      × Contains requests request × EntryRelation request e × (disposition request.request ≡ Complete outcome)
  pub requeues_are_as_decided : (e : Pending) → Contains steps (WaitAgain e) → (request : BookEntry)
      × Contains requests request
      × EntryRelation request e × (disposition request.request ≡ Requeue)
  pub replies_match : RepliesMatch steps replies
