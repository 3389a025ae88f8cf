-- Loans that are kept, and end together (this project's own).
use Rattle.std.specs.Prelude.{ℕ, ◌≡◌, ◌≢◌, ◌↔◌, ◌++◌, List, None, All, AllPairs, Contains}
use Rattle.ata_types.specs.declared.request.Frame.{Frame}
use Rattle.dma_frames.specs.Loan.{Lending}
use Rattle.dma_frames.specs.FrameTables.{OwnersAndLoans, lent_to}
use Rattle.server_history.specs.ServerState.{DifferInRequest, IsLentOut, quarantined_at}

-- These loans end: their frames are lent to none, and nothing else changed.
pub record GivesBackLoans (old new : OwnersAndLoans) (Such : Lending → Type 0) : Type 0 where
  pub owners_are_kept : new.owners ≡ old.owners
  pub their_frames_are_free : (loan : Lending) (f : Frame) → Such loan → Contains loan.frames f → lent_to new f ≡ None
  pub other_loans_are_kept : (f : Frame) → ((loan : Lending) → Such loan → Contains loan.frames f → ⊥) → lent_to new f
      ≡ lent_to old f

-- Loans may be given back in parts. If some have ended, a loan of another request is still lent out. If others end
-- then, all of them have ended. Their order doesn't matter.
pub record GivingBackLoansComposes : Type 0 where
  pub other_loan_stays_lent_out : (old new : OwnersAndLoans) (ended : List Lending) (loan : Lending)
      → GivesBackLoans old new (Contains ended)
      → ((other : Lending) → Contains ended other → IsLentOut old other × DifferInRequest other loan)
      → IsLentOut old loan → IsLentOut new loan
  pub endings_compose : (old mid new : OwnersAndLoans) (first later : List Lending)
      → GivesBackLoans old mid (Contains first)
      → All (IsLentOut mid) later → GivesBackLoans mid new (Contains later)
      → GivesBackLoans old new (Contains (first ++ later))
  pub order_does_not_matter : (old new : OwnersAndLoans) (first other : List Lending)
      → GivesBackLoans old new (Contains first)
      → ((loan : Lending) → Contains first loan ↔ Contains other loan) → GivesBackLoans old new (Contains other)

-- the loan is kept of some port
abbrev pub IsKeptIn : List (List Lending) → Lending → Type 0
IsKeptIn kept loan = (port : ℕ) × Contains (quarantined_at kept port) loan

-- The frames of each loan are lent to its request, and no two loans are of one request: so they may be given back, one
-- after another.
pub record MayGiveBack (table : OwnersAndLoans) (kept : List (List Lending)) : Type 0 where
  pub loans_are_lent_out : (port : ℕ) → All (IsLentOut table) (quarantined_at kept port)
  pub differ_in_request : (port : ℕ) → AllPairs DifferInRequest (quarantined_at kept port)
  pub loans_differ_between_ports : (port other : ℕ) (a b : Lending) → port ≢ other
      → Contains (quarantined_at kept port) a
      → Contains (quarantined_at kept other) b → DifferInRequest a b
