-- Requests are resolved.
use Rattle.std.proofs.Common.{◌≡◌, ◌≢◌, ◌==◌, ◌+◌, ◌≤◌, ◌++◌, ◌<◌, arith, Option, Some, Bool, true, false, cond, List, [], ◌∷◌, length, filter, map, refl, sym, ap, ◌∙◌, subst, None, append_assoc, append-nil, suc, zero, ℕ, drop, get_or}
use Rattle.std.proofs.lemmas.Bool.{eqb-false, false≢true}
use Rattle.ata_types.specs.declared.request.Outcome.{Outcome}
use Rattle.ata_types.specs.declared.request.Outcome.TheVariants.{Aborted, DeviceError, Ok, PortDead, Revoked, Unplugged}
use Rattle.std.proofs.lemmas.List.{length-map, length_push}
use Rattle.std.proofs.lemmas.List.Kept.{AllPairs-filter}
use Rattle.std.proofs.lemmas.List.Sums.{sum_by-cons}
use Rattle.std.proofs.lemmas.List.Elements.{All-contains, All-contains_itself, All-filter, All-weaker, Contains-append_right}
use Rattle.std.specs.Prelude.{◌↔◌, if◌then◌else◌, count_by}
use Rattle.ata_types.specs.declared.request.Reply.{Reply}
use Rattle.dma_frames.specs.Loan.{Lending}
use Rattle.dma_frames.specs.FrameTables.{OwnersAndLoans, SetsLoanOnly}
use Rattle.ata_types.specs.declared.request.RequestId.{RequestId}
use Rattle.std.specs.List.{All, AllPairs, Contains}
use Rattle.port_driver.proofs.Finishing as finishing
use Rattle.request_queue.specs.BookEntries.{IssuesAreWithinLimit, BookEntry, IsWellFormedEntry, IsEarlier, BookIsWellFormed, update_if_id, ids_where, request_with_issued_cleared, without_entry}
use Rattle.request_queue.specs.Dispositions.{KeepsOrEndsLoan, BookAndLoans, AreResolved, IsResolved, disposition_of, disposition_of_unfailed, keeps_loan, reply_to}
use Rattle.request_queue.specs.declared.PendingRequest.{PendingRequest}
use Rattle.request_queue.specs.declared.disposition.Disposition.{Disposition}
use Rattle.request_queue.specs.declared.disposition.Disposition.TheVariants.{Complete, Requeue, Wait}
use Rattle.request_queue.specs.declared.disposition.FailedRequest.{FailedRequest}
use Rattle.request_queue.specs.declared.disposition.Revalidation.{Revalidation}
use Rattle.request_queue.specs.declared.disposition.Revalidation.TheVariants.{Dead, DiskLost, SameDisk}
use Rattle.port_driver.specs.LoanRoom.{HasLoanRoomIfIssued, HaveRoomForIssuedLoans, BookIsSound, MayAnswerAll, book_and_loans}

-- a loan is kept of an issued request alone
pub kept_issued : (outcome : Outcome) (e : PendingRequest) → keeps_loan outcome e ≡ true → e.issued ≡ true
kept_issued PortDead e is = is
kept_issued Ok e is = absurd (false≢true is)
kept_issued (DeviceError status error) e is = absurd (false≢true is)
kept_issued Aborted e is = absurd (false≢true is)
kept_issued Unplugged e is = absurd (false≢true is)
kept_issued Revoked e is = absurd (false≢true is)

-- one that goes again is issued, and was fewer than four times
again_on : (revalidation : Revalidation) (e : PendingRequest) → disposition_of_unfailed revalidation e ≡ Requeue → (e.issued ≡ true) × ((e.issue_count == 4) ≡ false)
again_on SameDisk e is = by e.issued e.revoked (e.issue_count == 4) is
  where
    by : (a b c : Bool) → (if a then (if b then Complete Revoked else (if c then Complete Aborted else Requeue)) else Wait) ≡ Requeue → (a ≡ true) × (c ≡ false)
    by true true c same = let z : Complete Revoked ≡ Requeue = same in absurd cc
    by true false true same = let z : Complete Aborted ≡ Requeue = same in absurd cc
    by true false false same = (refl, refl)
    by false b c same = let z : Wait ≡ Requeue = same in absurd cc
again_on DiskLost e is = let z : Complete Unplugged ≡ Requeue = is in absurd cc
again_on Dead e is = let z : Complete PortDead ≡ Requeue = is in absurd cc

again_of : (failed : Option FailedRequest) (revalidation : Revalidation) (e : PendingRequest) → disposition_of failed revalidation e ≡ Requeue → (e.issued ≡ true) × ((e.issue_count == 4) ≡ false)
again_of None revalidation e is = again_on revalidation e is
again_of (Some failed) revalidation e is = by (failed.id.0 == e.id.0) is
  where
    by : (b : Bool) → (if b then Complete (DeviceError failed.status failed.error) else disposition_of_unfailed revalidation e) ≡ Requeue → (e.issued ≡ true) × ((e.issue_count == 4) ≡ false)
    by true same = let z : Complete (DeviceError failed.status failed.error) ≡ Requeue = same in absurd cc
    by false same = again_on revalidation e same

pub may_go_again : (failed : Option FailedRequest) (revalidation : Revalidation) (e : BookEntry) (book : List BookEntry) → BookIsWellFormed book → Contains book e → disposition_of failed revalidation e.request ≡ Requeue → (e.request.issued ≡ true) × (e.request.issue_count < 4)
may_go_again failed revalidation e book order here is =
    let a = again_of failed revalidation e.request is in
    let few = (All-contains (λ (x : BookEntry). IssuesAreWithinLimit x.request) book e order.issues_are_within_limit here).0 in
    let other = eqb-false e.request.issue_count 4 a.1 in
    (a.0, omega (arith, few, other))

-- what holds of each that is left
pub left_each : (id : RequestId) (book : List BookEntry) → ((e : BookEntry) → Contains (without_entry id book) e ↔ (Contains book e × (e.request.id ≢ id))) → (P : BookEntry → Type 0) → All P book → All P (without_entry id book)
left_each id book left P all = All-weaker (Contains book) P (λ e here. All-contains P book e all here) (without_entry id book)
    (All-weaker (Contains (without_entry id book)) (Contains book) (λ e here. ((left e).0 here).0) (without_entry id book) (All-contains_itself (without_entry id book)))

-- places for the loans of those that are left
issued_cons : (request : BookEntry) (rest : List BookEntry) → count_by (λ (e : BookEntry). e.request.issued) (request ∷ rest) ≡ cond request.request.issued 1 0 + count_by (λ (e : BookEntry). e.request.issued) rest
issued_cons request rest = sum_by-cons (λ (e : BookEntry). cond e.request.issued 1 0) request rest

pub places_kept : (request : BookEntry) (rest : List BookEntry) (kept : List Lending) (loan : Lending) → request.request.issued ≡ true → HaveRoomForIssuedLoans (request ∷ rest) kept → HaveRoomForIssuedLoans rest (kept ++ loan ∷ [])
places_kept request rest kept loan issued places =
    let n = length_push kept loan in
    let c = issued_cons request rest ∙ ap (λ (b : Bool). cond b 1 0 + count_by (λ (e : BookEntry). e.request.issued) rest) issued in
    omega (arith, n, places, c)

pub places_left : (request : BookEntry) (rest : List BookEntry) (kept : List Lending) → HaveRoomForIssuedLoans (request ∷ rest) kept → HaveRoomForIssuedLoans rest kept
places_left request rest kept places = let c = issued_cons request rest in omega (arith, places, c)

-- the request waits again
pub again : (named id : RequestId) (book later : List BookEntry) (table : OwnersAndLoans) (kept : List Lending) → id ≡ named → later ≡ map (update_if_id named request_with_issued_cleared) book
    → book_and_loans later table kept ≡ record (book_and_loans book table kept) { book = map (update_if_id id request_with_issued_cleared) book }
again named id book later table kept same is = λ i. book_and_loans ((is ∙ ap (λ (x : RequestId). map (update_if_id x request_with_issued_cleared) book) (sym same)) i) table kept

-- a book is shorter once one has left it
pub shorter : (id : RequestId) (book later : List BookEntry) (taken : BookEntry) → Contains book taken → taken.request.id ≡ id → later ≡ without_entry id book → length later < length book
shorter id book later taken here its is = subst (λ (b : List BookEntry). length b < length book) (sym is) (finishing.shorter id book taken here its)

-- the request that left the book is this one, and its loan was kept, or its frames were given back
module _ (request : BookEntry) (outcome : Outcome) (book later : List BookEntry) (old new : OwnersAndLoans) (kept more : List Lending) (loan : Lending)
    (its : record { request = request.request; frames = loan.frames } ≡ request) (whose : loan.request ≡ request.request.id) (rest : later ≡ without_entry request.request.id book) where
  frames_are : loan.frames ≡ request.frames
  frames_are = ap (λ (e : BookEntry). e.frames) its

  pub ends_kept : (disposition : Disposition) → disposition ≡ Complete outcome → keeps_loan outcome request.request ≡ true → more ≡ kept ++ loan ∷ [] → new ≡ old
      → IsResolved request disposition (reply_to request outcome ∷ []) (book_and_loans book old kept) (book_and_loans later new more)
  ends_kept disposition is keeps more_is same = subst (λ (f : Disposition). IsResolved request f (reply_to request outcome ∷ []) (book_and_loans book old kept) (book_and_loans later new more)) (sym is) (
    refl,
    rest,
    subst (λ (b : Bool). KeepsOrEndsLoan b request (book_and_loans book old kept) (book_and_loans later new more)) (sym keeps)
        (more_is ∙ (λ i. kept ++ record { frames = frames_are i; request = whose i } ∷ []), same),
  )

  pub ends_back : (disposition : Disposition) → disposition ≡ Complete outcome → keeps_loan outcome request.request ≡ false → more ≡ kept → SetsLoanOnly old new loan.frames None
      → IsResolved request disposition (reply_to request outcome ∷ []) (book_and_loans book old kept) (book_and_loans later new more)
  ends_back disposition is keeps same lends = subst (λ (f : Disposition). IsResolved request f (reply_to request outcome ∷ []) (book_and_loans book old kept) (book_and_loans later new more)) (sym is) (
    refl,
    rest,
    subst (λ (b : Bool). KeepsOrEndsLoan b request (book_and_loans book old kept) (book_and_loans later new more)) (sym keeps)
        (same, subst (λ frames. SetsLoanOnly old new frames None) frames_are lends),
  )

-- and what is left is sound, once its frames were given back
pub sound_back : (id : RequestId) (book later : List BookEntry) (taken : BookEntry) (old new : OwnersAndLoans) → ((old new : OwnersAndLoans) (entries : List BookEntry) (e : BookEntry) → Contains entries e → SetsLoanOnly old new e.frames None
    → All (IsWellFormedEntry old) entries → All (IsWellFormedEntry new) (without_entry e.request.id entries)) → BookIsWellFormed (without_entry id book) → All (IsWellFormedEntry old) book → Contains book taken → taken.request.id ≡ id → SetsLoanOnly old new taken.frames None → later ≡ without_entry id book
    → BookIsSound new later
sound_back id book later taken old new still ordered accepted here its lends rest = subst (BookIsSound new) (sym rest) (record {
  book_is_well_formed = ordered;
  entries_are_well_formed = subst (λ (i : RequestId). All (IsWellFormedEntry new) (without_entry i book)) its (still old new book taken here lends accepted);
})

-- ---- one after another

-- the requests that pass are the book's, in its order
pub of_book : (passes : PendingRequest → Bool) (book : List BookEntry) (e : BookEntry) → Contains (filter (λ (x : BookEntry). passes x.request) book) e → Contains book e
of_book passes book e here = All-contains (Contains book) (filter (λ (x : BookEntry). passes x.request) book) e (All-filter (λ (x : BookEntry). passes x.request) (Contains book) book (All-contains_itself book)) here

pub passing_ordered : (passes : PendingRequest → Bool) (book : List BookEntry) → BookIsWellFormed book → AllPairs IsEarlier (filter (λ (x : BookEntry). passes x.request) book)
passing_ordered passes book order = AllPairs-filter IsEarlier (λ (x : BookEntry). passes x.request) book order.ids_rise

-- the one at a place is next
pub next_of : (all : List BookEntry) (place : ℕ) → place < length all → (r : BookEntry) × (drop place all ≡ r ∷ drop (place + 1) all) × ((d : RequestId) → get_or (map (λ (e : BookEntry). e.request.id) all) place d ≡ r.request.id)
next_of [] place low = absurd (omega (arith, low))
next_of (x ∷ all) zero low = (x, refl, λ d. refl)
next_of (x ∷ all) (suc place) low =
    let n = next_of all place (omega (arith, low)) in
    let more : suc (place + 1) ≡ suc place + 1 = omega arith in
    (n.0, subst (λ (k : ℕ). drop place all ≡ n.0 ∷ drop k (x ∷ all)) more n.1, n.2)

-- so many have an id
pub as_many : (passes : PendingRequest → Bool) (book : List BookEntry) (ids : List RequestId) (place n : ℕ) → ids ≡ ids_where passes book → n ≡ length ids → place < n → place < length (filter (λ (e : BookEntry). passes e.request) book)
as_many passes book ids place n are value low =
    let m = ap length are ∙ length-map (filter (λ (e : BookEntry). passes e.request) book) (λ (e : BookEntry). e.request.id) in omega (arith, value, low, m)

pub no_more : (passes : PendingRequest → Bool) (book : List BookEntry) (ids : List RequestId) (place n : ℕ) → ids ≡ ids_where passes book → n ≡ length ids → n ≤ place → length (filter (λ (e : BookEntry). passes e.request) book) ≤ place
no_more passes book ids place n are value most =
    let m = ap length are ∙ length-map (filter (λ (e : BookEntry). passes e.request) book) (λ (e : BookEntry). e.request.id) in omega (arith, value, most, m)

-- and there is a place for the next one's loan, if it is issued
pub next_place : (request : BookEntry) (rest : List BookEntry) (kept : List Lending) → HaveRoomForIssuedLoans (request ∷ rest) kept → HasLoanRoomIfIssued request kept
next_place request rest kept places issued = let c = issued_cons request rest ∙ ap (λ (b : Bool). cond b 1 0 + count_by (λ (e : BookEntry). e.request.issued) rest) issued in omega (arith, places, c)

-- These are left of the requests; and what they come to yet, the whole comes to.
pub record SoFar (disposition : PendingRequest → Disposition) (all : List BookEntry) (start : BookAndLoans) (before : List Reply) (left : List BookEntry) (now : BookAndLoans) (replies : List Reply) : Type 0 where
  pub here : (e : BookEntry) → Contains left e → Contains now.book e
  pub ordered : AllPairs IsEarlier left
  pub rest : (later : List Reply) (end : BookAndLoans) → AreResolved disposition left later now end → (its : List Reply) × (replies ++ later ≡ before ++ its) × AreResolved disposition all its start end
  pub may : MayAnswerAll now.table now.book replies

module _ (disposition : PendingRequest → Disposition) (all : List BookEntry) (start : BookAndLoans) (before : List Reply) where
  pub begins : ((e : BookEntry) → Contains all e → Contains start.book e) → AllPairs IsEarlier all → MayAnswerAll start.table start.book before
      → SoFar disposition all start before all start before
  begins here ordered may = record { here = here; ordered = ordered; rest = λ later end meet. (later, refl, meet); may = may }

  -- the next one was resolved
  pub goes_on : (request : BookEntry) (left : List BookEntry) (now new : BookAndLoans) (replies more its : List Reply) → SoFar disposition all start before (request ∷ left) now replies
      → more ≡ replies ++ its → IsResolved request (disposition request.request) its now new → ((e : BookEntry) → Contains now.book e → e.request.id ≢ request.request.id → Contains new.book e)
      → MayAnswerAll new.table new.book more → SoFar disposition all start before left new more
  goes_on request left now new replies more its f same meets others may = record {
    here = λ e there. others e (f.here e (Contains-append_right (request ∷ []) left e there))
        (λ is. let lt = All-contains (IsEarlier request) left e earlier there in let id = ap (λ (i : RequestId). i.0) is in omega (arith, lt, id));
    ordered = λ i j d lt below. f.ordered (suc i) (suc j) d (omega (arith, lt)) (omega (arith, below));
    rest = λ later end meet.
        let whole = f.rest (its ++ later) end (new, its, later, refl, meets, meet) in
        (whole.0, ap (λ (x : List Reply). x ++ later) same ∙ append_assoc replies its later ∙ whole.1, whole.2);
    may = may;
  }
    where
      earlier : All (IsEarlier request) left
      earlier i d small = f.ordered 0 (suc i) d (omega arith) (omega (arith, small))

  pub ends : (now : BookAndLoans) (replies : List Reply) → SoFar disposition all start before [] now replies → (its : List Reply) × (replies ≡ before ++ its) × AreResolved disposition all its start now
  ends now replies f = let whole = f.rest [] now (refl, refl) in (whole.0, sym (append-nil replies) ∙ whole.1, whole.2)
