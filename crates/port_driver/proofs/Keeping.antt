-- Loans that are given back, one after another.
use Rattle.std.proofs.Common.{ℕ, ◌≡◌, ◌↔◌, ◌+◌, List, [], ◌∷◌, ◌++◌, length, get_or, None, refl, sym, ap, ◌∙◌, subst, arith, ⊎_elim}
use Rattle.std.specs.List.{All, AllPairs, Contains}
use Rattle.std.proofs.Math.ListN.{get_or-append}
use Rattle.std.proofs.Math.Seq.{get_or-append_seam}
use Rattle.std.proofs.lemmas.List.{get_or_default, length-append}
use Rattle.std.proofs.lemmas.List.Elements.{All-contains, Contains-append_cases, Contains-append_left, Contains-append_right}
use Rattle.ata_types.specs.declared.request.Frame.{Frame}
use Rattle.dma_frames.specs.Loan.{Lending}
use Rattle.dma_frames.specs.FrameTables.{SetsLoanOnly, OwnersAndLoans, lent_to}
use Rattle.server_history.specs.KeptLoans.{GivingBackLoansComposes, GivesBackLoans}
use Rattle.server_history.specs.ServerState.{DifferInRequest, IsLentOut}

-- a list of one loan has no other
only : (loan other : Lending) → Contains (loan ∷ []) other → other ≡ loan
only loan other here =
    let head : here.0 ≡ 0 = (let low = here.1 in omega (arith, low)) in
    sym here.2 ∙ ap (λ (n : ℕ). get_or (loan ∷ []) n other) head

-- a loan that is given back ends alone
one_back : (old new : OwnersAndLoans) (loan : Lending) → SetsLoanOnly old new loan.frames None → GivesBackLoans old new (Contains (loan ∷ []))
one_back old new loan lends = record {
  owners_are_kept = lends.owners_are_kept;
  their_frames_are_free = λ other f here inside. All-contains (λ (g : Frame). lent_to new g ≡ None) loan.frames f lends.these_are_lent (subst (λ (l : Lending). Contains l.frames f) (only loan other here) inside);
  other_loans_are_kept = λ f apart. lends.others_are_kept f (λ here. apart loan (0, omega arith, refl) here);
}

-- where no loan ends, nothing changes
pub none_back : (table : OwnersAndLoans) → GivesBackLoans table table (Contains [])
none_back table = record { owners_are_kept = refl; their_frames_are_free = λ loan f such here. absurd (let low = such.1 in omega (arith, low)); other_loans_are_kept = λ f apart. refl }

-- ---- the last of a list

module _ (rest : List Lending) (loan : Lending) where
  abbrev all : List Lending
  all = rest ++ loan ∷ []

  longer : length all ≡ length rest + 1
  longer = length-append rest (loan ∷ [])

  pub is_last : Contains all loan
  is_last = Contains-append_right rest (loan ∷ []) loan (0, omega arith, refl)

  -- whether it is told first or last
  first_or_last : (other : Lending) → Contains ((loan ∷ []) ++ rest) other ↔ Contains all other
  first_or_last other = (
    λ here. ⊎_elim (Contains-append_right rest (loan ∷ []) other) (Contains-append_left rest (loan ∷ []) other) (Contains-append_cases (loan ∷ []) rest other here),
    λ here. ⊎_elim (Contains-append_right (loan ∷ []) rest other) (Contains-append_left (loan ∷ []) rest other) (Contains-append_cases rest (loan ∷ []) other here),
  )

  module _ (two : AllPairs DifferInRequest all) where
    -- the others are of two requests still
    pub two_left : AllPairs DifferInRequest rest
    two_left i j d lt small same =
        two i j d lt (let l = longer in omega (arith, l, small))
        (ap (λ (x : Lending). x.request) (get_or-append rest (loan ∷ []) d i (omega (arith, lt, small))) ∙ same
        ∙ sym (ap (λ (x : Lending). x.request) (get_or-append rest (loan ∷ []) d j small)))

    -- and none is of the last one's
    two_last : (other : Lending) → Contains rest other → DifferInRequest loan other
    two_last other (place, small, is) same =
        two place (length rest) other small (let l = longer in omega (arith, l))
        (ap (λ (x : Lending). x.request) (get_or-append rest (loan ∷ []) other place small ∙ is) ∙ sym same
        ∙ sym (ap (λ (x : Lending). x.request) (get_or-append_seam rest loan [] other)))

  -- The last one is given back, and then the others.
  module _ (law : GivingBackLoansComposes) (old mid : OwnersAndLoans) (lent : All (IsLentOut old) all) (two : AllPairs DifferInRequest all) (lends : SetsLoanOnly old mid loan.frames None) where
    out : (other : Lending) → Contains all other → IsLentOut old other
    out other here = All-contains (IsLentOut old) all other lent here

    pub lent_left : All (IsLentOut mid) rest
    lent_left k d small =
        let b : Lending = get_or rest k d in
        let here : Contains rest b = (k, small, get_or_default rest k b d small) in
        law.other_loan_stays_lent_out old mid (loan ∷ []) b (one_back old mid loan lends)
        (λ other ended. subst (λ (l : Lending). IsLentOut old l × DifferInRequest l b) (sym (only loan other ended)) (out loan is_last, two_last two b here))
        (out b (Contains-append_left rest (loan ∷ []) b here))

    pub all_back : (new : OwnersAndLoans) → GivesBackLoans mid new (Contains rest) → GivesBackLoans old new (Contains all)
    all_back new given = law.order_does_not_matter old new ((loan ∷ []) ++ rest) all (law.endings_compose old mid new (loan ∷ []) rest (one_back old mid loan lends) lent_left given) first_or_last
