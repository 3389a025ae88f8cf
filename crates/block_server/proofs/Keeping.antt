-- Loans that are kept of four ports are given back, port by port.
use Rattle.std.proofs.Common.{ℕ, zero, suc, ◌≡◌, ◌≢◌, ◌≤◌, ◌<◌, ◌+◌, ◌++◌, List, [], length, get_or, set, Some, refl, sym, ap, ◌∙◌, subst, arith, ⊎_elim}
use Rattle.std.specs.List.{All, AllPairs, Contains}
use Rattle.std.proofs.lemmas.Bool.{cases_eq, cases_lt}
use Rattle.std.proofs.lemmas.List.{get_or-set_other, get_or-set_same, get_or_default, get_or_past, length-set}
use Rattle.std.proofs.lemmas.List.Elements.{All-contains, Contains-append_cases, Contains-append_left, Contains-append_right}
use Rattle.ata_types.specs.declared.request.Frame.{Frame}
use Rattle.dma_frames.specs.Loan.{Lending}
use Rattle.dma_frames.specs.FrameTables.{OwnersAndLoans, lent_to}
use Rattle.server_history.specs.KeptLoans.{IsKeptIn, GivingBackLoansComposes, MayGiveBack, GivesBackLoans}
use Rattle.request_queue.specs.BookEntries.{GivesBack, BookEntry, FramesAreLentToIt}
use Rattle.server_history.specs.ServerState.{DifferInRequest, IsLentOut, ServerState, quarantined_at}

-- ---- port by port

-- the loans of the ports below this number
abbrev pub loans_below : List (List Lending) → ℕ → List Lending
loans_below kept zero = []
loans_below kept (suc count) = loans_below kept count ++ quarantined_at kept count

-- each of them is of such a port
abbrev IsBelow : List (List Lending) → ℕ → Lending → Type 0
IsBelow kept count loan = (port : ℕ) × (port < count) × Contains (quarantined_at kept port) loan

of_port : (kept : List (List Lending)) (count : ℕ) (loan : Lending) → Contains (loans_below kept count) loan → IsBelow kept count loan
of_port kept zero loan here = absurd (let low = here.1 in omega (arith, low))
of_port kept (suc count) loan here = ⊎_elim
    (λ (there : Contains (loans_below kept count) loan). let below = of_port kept count loan there in (below.0, (let low = below.1 in omega (arith, low)), below.2))
    (λ (its : Contains (quarantined_at kept count) loan). (count, omega arith, its))
    (Contains-append_cases (loans_below kept count) (quarantined_at kept count) loan here)

is_below : (kept : List (List Lending)) (count : ℕ) (loan : Lending) → IsBelow kept count loan → Contains (loans_below kept count) loan
is_below kept zero loan below = absurd (let low = below.1 in omega (arith, low))
is_below kept (suc count) loan below = ⊎_elim
    (λ (less : below.0 < count). Contains-append_left (loans_below kept count) (quarantined_at kept count) loan (is_below kept count loan (below.0, less, below.2)))
    (λ (most : count ≤ below.0).
    let same : below.0 ≡ count = (let low = below.1 in omega (arith, low, most)) in
    Contains-append_right (loans_below kept count) (quarantined_at kept count) loan (subst (λ (p : ℕ). Contains (quarantined_at kept p) loan) same below.2))
    (cases_lt below.0 count)

module _ (law : GivingBackLoansComposes) (first now : List (List Lending)) (table mid : OwnersAndLoans) (count : ℕ) (may : MayGiveBack table first) (back : GivesBackLoans table mid (Contains (loans_below first count)))
    (here : quarantined_at now count ≡ quarantined_at first count) where
  -- the next port's loans are lent out still
  its_out : All (IsLentOut mid) (quarantined_at first count)
  its_out k d small =
      let b : Lending = get_or (quarantined_at first count) k d in
      let there : Contains (quarantined_at first count) b = (k, small, get_or_default (quarantined_at first count) k b d small) in
      law.other_loan_stays_lent_out table mid (loans_below first count) b back
      (λ loan ended.
      let below = of_port first count loan ended in
      (All-contains (IsLentOut table) (quarantined_at first below.0) loan (may.loans_are_lent_out below.0) below.2, may.loans_differ_between_ports below.0 count loan b (let low = below.1 in omega (arith, low)) below.2 there))
      (may.loans_are_lent_out count k d small)

  pub next_out : All (IsLentOut mid) (quarantined_at now count)
  next_out = subst (All (IsLentOut mid)) (sym here) its_out

  pub next_two : AllPairs DifferInRequest (quarantined_at now count)
  next_two = subst (AllPairs DifferInRequest) (sym here) (may.differ_in_request count)

  pub next_back : (new : OwnersAndLoans) → GivesBackLoans mid new (Contains (quarantined_at now count)) → GivesBackLoans table new (Contains (loans_below first (count + 1)))
  next_back new given =
      let above : suc count ≡ count + 1 = omega arith in
      subst (λ (n : ℕ). GivesBackLoans table new (Contains (loans_below first n))) above
      (law.endings_compose table mid new (loans_below first count) (quarantined_at first count) back its_out (subst (λ (loans : List Lending). GivesBackLoans mid new (Contains loans)) here given))

-- Ports below this number have no loans left, and the others have theirs.
pub record BackSoFar (first now : List (List Lending)) (table mid : OwnersAndLoans) (count : ℕ) : Type 0 where
  pub four : length now ≡ 4
  pub empty : (port : ℕ) → port < count → quarantined_at now port ≡ []
  pub left : (port : ℕ) → count ≤ port → quarantined_at now port ≡ quarantined_at first port
  pub back : GivesBackLoans table mid (Contains (loans_below first count))

pub none_so_far : (first : List (List Lending)) (table : OwnersAndLoans) → length first ≡ 4 → BackSoFar first first table table 0
none_so_far first table four = record {
  four = four;
  empty = λ port low. absurd (omega (arith, low));
  left = λ port high. refl;
  back = record { owners_are_kept = refl; their_frames_are_free = λ loan f ended here. absurd (let low = ended.1 in omega (arith, low)); other_loans_are_kept = λ f apart. refl };
}

pub next_so_far : GivingBackLoansComposes → (first now : List (List Lending)) (table mid new : OwnersAndLoans) (count : ℕ) → MayGiveBack table first → BackSoFar first now table mid count → count < 4
    → GivesBackLoans mid new (Contains (quarantined_at now count)) → BackSoFar first (set now count []) table new (count + 1)
next_so_far law first now table mid new count may so_far low given = record {
  four = length-set now count [] ∙ so_far.four;
  empty = λ port less. ⊎_elim
      (λ (same : port ≡ count). ap (λ (p : ℕ). quarantined_at (set now count []) p) same ∙ get_or-set_same now count [] [] (let four = so_far.four in omega (arith, four, low)))
      (λ (ne : port ≢ count). get_or-set_other now count port [] [] ne ∙ so_far.empty port (omega (arith, less, ne)))
      (cases_eq port count);
  left = λ port high. get_or-set_other now count port [] [] (omega (arith, high)) ∙ so_far.left port (omega (arith, high));
  back = next_back law first now table mid count may so_far.back (so_far.left count (omega arith)) new given;
}

module _ (first now : List (List Lending)) (table mid : OwnersAndLoans) (count : ℕ) (so_far : BackSoFar first now table mid count) (four : length first ≡ 4) (all : 4 ≤ count) where
  -- a port past the fourth has none
  none_past : (port : ℕ) → 4 ≤ port → quarantined_at first port ≡ []
  none_past port high = get_or_past first port [] (omega (arith, four, high))

  pub all_taken : GivesBackLoans table mid (IsKeptIn first)
  all_taken = record {
    owners_are_kept = so_far.back.owners_are_kept;
    their_frames_are_free = λ loan f such here. so_far.back.their_frames_are_free loan f (below loan such) here;
    other_loans_are_kept = λ f apart. so_far.back.other_loans_are_kept f (λ loan ended here. apart loan (let of = of_port first count loan ended in (of.0, of.2)) here);
  }
    where
      below : (loan : Lending) → IsKeptIn first loan → Contains (loans_below first count) loan
      below loan (port, here) = ⊎_elim
          (λ (low : port < 4). is_below first count loan (port, omega (arith, low, all), here))
          (λ (high : 4 ≤ port). let none = subst (λ (loans : List Lending). Contains loans loan) (none_past port high) here in let small = none.1 in absurd (omega (arith, small)))
          (cases_lt port 4)

-- ---- after the book

-- what a law says of a server's kept loans
pub record KeptLaws (s : ServerState) : Type 0 where
  pub lent : (port : ℕ) → All (IsLentOut s.table) (quarantined_at s.kept_loans port)
  pub two : (port : ℕ) → AllPairs DifferInRequest (quarantined_at s.kept_loans port)
  pub one : (port other : ℕ) (a b : Lending) → Contains (quarantined_at s.kept_loans port) a → Contains (quarantined_at s.kept_loans other) b → a.request ≡ b.request → (port ≡ other) × (a ≡ b)
  pub answered : (port : ℕ) (loan : Lending) (e : BookEntry) → Contains (quarantined_at s.kept_loans port) loan → Contains s.book e → e.request.id ≢ loan.request

-- what is kept may be given back once what is lent to the book's requests was
pub may_go_back : (s : ServerState) (new : OwnersAndLoans) → KeptLaws s → All (FramesAreLentToIt s.table) s.book → GivesBack s.table new s.book → MayGiveBack new s.kept_loans
may_go_back s new laws stands given = record {
  loans_are_lent_out = λ port k d small i f inside.
      let b : Lending = get_or (quarantined_at s.kept_loans port) k d in
      let here : Contains (quarantined_at s.kept_loans port) b = (k, small, get_or_default (quarantined_at s.kept_loans port) k b d small) in
      given.other_loans_are_unchanged (get_or b.frames i f) (λ e there own.
      let both : Some e.request.id ≡ Some b.request = sym (All-contains (λ (g : Frame). lent_to s.table g ≡ Some e.request.id) e.frames (get_or b.frames i f) (All-contains (FramesAreLentToIt s.table) s.book e stands there) own)
      ∙ laws.lent port k d small i f inside in
      laws.answered port b e here there cc)
      ∙ laws.lent port k d small i f inside;
  differ_in_request = laws.two;
  loans_differ_between_ports = λ port other a b ne here there same. ne (laws.one port other a b here there same).0;
}
