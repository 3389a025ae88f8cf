use Rattle.std.proofs.Common.{◌≡◌, ◌↔◌, ◌++◌, List, None, Some, sym, ◌∙◌, get_or, ⊎_elim}
use Rattle.std.specs.List.{All, Contains}
use Rattle.std.proofs.lemmas.List.Elements.{All-contains, Contains-append_cases, Contains-append_left, Contains-append_right}
use Rattle.ata_types.specs.declared.request.Frame.{Frame}
use Rattle.ata_types.specs.declared.request.RequestId.{RequestId}
use Rattle.dma_frames.specs.Loan.{Lending}
use Rattle.dma_frames.specs.FrameTables.{OwnersAndLoans, lent_to}
use Rattle.server_history.specs.KeptLoans.{GivesBackLoans}
use Rattle.server_history.specs.ServerState.{DifferInRequest, IsLentOut}
use Rattle.server_history.proofs.laws.law_giving_back_loans_composes.Goals as goal

same_request : {a b : RequestId} → Some a ≡ Some b → a ≡ b
same_request is = cc

-- a frame of a loan that is lent out is lent to its request
its_frame : (table : OwnersAndLoans) (loan : Lending) (f : Frame) → IsLentOut table loan → Contains loan.frames f → lent_to table f ≡ Some loan.request
its_frame table loan f out here = All-contains (λ (g : Frame). lent_to table g ≡ Some loan.request) loan.frames f out here

-- the frames of a loan stay lent where loans of other requests end
stays : (old new : OwnersAndLoans) (ended : List Lending) (loan : Lending) → GivesBackLoans old new (Contains ended) → ((other : Lending) → Contains ended other → IsLentOut old other × DifferInRequest other loan) → IsLentOut old loan → IsLentOut new loan
stays old new ended loan back others out k d small =
    let f = get_or loan.frames k d in
    back.other_loans_are_kept f (λ other such here. (others other such).1 (same_request (sym (its_frame old other f (others other such).0 here) ∙ out k d small))) ∙ out k d small

-- and loans end that end afterwards
both : (old mid new : OwnersAndLoans) (first later : List Lending) → GivesBackLoans old mid (Contains first) → All (IsLentOut mid) later → GivesBackLoans mid new (Contains later) → GivesBackLoans old new (Contains (first ++ later))
both old mid new first later one out two = record {
  owners_are_kept = two.owners_are_kept ∙ one.owners_are_kept;
  their_frames_are_free = λ loan f such here. ⊎_elim
      (λ (a : Contains first loan).
      let free = one.their_frames_are_free loan f a here in
      two.other_loans_are_kept f (λ other its has. taken other f its has free) ∙ free)
      (λ (b : Contains later loan). two.their_frames_are_free loan f b here)
      (Contains-append_cases first later loan such);
  other_loans_are_kept = λ f apart. two.other_loans_are_kept f (λ loan b here. apart loan (Contains-append_right first later loan b) here) ∙ one.other_loans_are_kept f (λ loan a here. apart loan (Contains-append_left first later loan a) here);
}
  where
    taken : (other : Lending) (f : Frame) → Contains later other → Contains other.frames f → lent_to mid f ≡ None → ⊥
    taken other f its has free = let z : Some other.request ≡ None = sym (its_frame mid other f (All-contains (IsLentOut mid) later other out its) has) ∙ free in cc

alike : (old new : OwnersAndLoans) (first other : List Lending) → GivesBackLoans old new (Contains first) → ((loan : Lending) → Contains first loan ↔ Contains other loan) → GivesBackLoans old new (Contains other)
alike old new first other back same = record {
  owners_are_kept = back.owners_are_kept;
  their_frames_are_free = λ loan f such here. back.their_frames_are_free loan f ((same loan).1 such) here;
  other_loans_are_kept = λ f apart. back.other_loans_are_kept f (λ loan a here. apart loan ((same loan).0 a) here);
}

pub returns : goal.returns
returns c = record { other_loan_stays_lent_out = stays; endings_compose = both; order_does_not_matter = alike }
