-- What is left of a book once requests of a port met their fates.
use Rattle.std.proofs.Common.{ℕ, ◌≤◌, ◌+◌, cond, length, le_refl, eq-eqb, eqb-true, suc, ◌≡◌, ◌≢◌, ◌<◌, ◌==◌, Bool, true, false, not, if◌then◌else◌, List, [], ◌∷◌, map, Option, None, Some, refl, sym, ap, ◌∙◌, subst, arith, ⊎_elim, ◌⊎◌, inl, inr}
use Rattle.std.specs.List.{All, AllPairs, Contains}
use Rattle.std.proofs.lemmas.Bool.{eqb-false}
use Rattle.std.proofs.lemmas.List.{length-append}
use Rattle.std.proofs.lemmas.List.Elements.{All-contains, All-contains_itself, All-filter, filter_passes}
use Rattle.std.proofs.lemmas.List.Kept.{AllPairs-filter}
use Rattle.std.specs.Prelude.{filter}
use Rattle.ata_types.specs.declared.Port.{Port}
use Rattle.ata_types.specs.declared.request.Outcome.{Outcome}
use Rattle.ata_types.specs.declared.request.Outcome.TheVariants as outcome
use Rattle.ata_types.specs.declared.request.Reply.{Reply}
use Rattle.ata_types.specs.declared.request.RequestId.{RequestId}
use Rattle.server_history.proofs.state.ListMembers.{contains_cases, contains_there, map_in}
use Rattle.dma_frames.specs.FrameTables.{OwnersAndLoans}
use Rattle.request_queue.specs.BookEntries.{IssuesAreWithinLimit, BookEntry, IsWellFormedEntry, IsEarlier, BookIsWellFormed, update_if_id, has_id, is_of_port, request_with_issued_cleared, without_entry}
use Rattle.request_queue.specs.Dispositions.{KeepsOrEndsLoan, BookAndLoans, AreResolved, IsResolved, disposition_of, disposition_of_unfailed, keeps_loan}
use Rattle.request_queue.specs.declared.PendingRequest.{PendingRequest}
use Rattle.request_queue.specs.declared.disposition.FailedRequest.{FailedRequest}
use Rattle.request_queue.specs.declared.disposition.Disposition.{Disposition}
use Rattle.request_queue.specs.declared.disposition.Disposition.TheVariants.{Complete, Requeue, Wait}
use Rattle.request_queue.specs.declared.disposition.Revalidation.{Revalidation}
use Rattle.request_queue.specs.declared.disposition.Revalidation.TheVariants.{Dead, DiskLost, SameDisk}
use Rattle.server_history.specs.Prerequisites.{PrerequisiteLaws}
use Rattle.server_history.specs.ErrorHandling.{book_and_loans_of, requests_of}
use Rattle.server_history.specs.ServerState.{RevokedMarkInvariant, ServerState}
use Rattle.server_history.proofs.dispositions.FittingFates.{AllFit, FitsEntry}
use Rattle.server_history.proofs.state.LoanCounts.{counts, fewer_issued, issued_of, kept_issued, one_fewer, requeued_issued}
use Rattle.server_history.proofs.state.FirstMembers.{nowhere, first_here}
use Rattle.ata_types.specs.declared.grant.GrantRow.{GrantRow}

-- ---- fates

-- where the disk isn't the same, each is answered
ends_on : (revalidation : Revalidation) → revalidation ≢ SameDisk → (e : PendingRequest) → (o : Outcome) × (disposition_of_unfailed revalidation e ≡ Complete o)
ends_on SameDisk other e = absurd (other refl)
ends_on DiskLost other e = (outcome.Unplugged, refl)
ends_on Dead other e = (outcome.PortDead, refl)

pub ends_of : (failed : Option FailedRequest) (revalidation : Revalidation) → revalidation ≢ SameDisk → (e : PendingRequest) → (o : Outcome) × (disposition_of failed revalidation e ≡ Complete o)
ends_of None revalidation other e = ends_on revalidation other e
ends_of (Some failed) revalidation other e = by (failed.id.0 == e.id.0) refl
  where
    by : (b : Bool) → (failed.id.0 == e.id.0) ≡ b → (o : Outcome) × (disposition_of (Some failed) revalidation e ≡ Complete o)
    by true x = (outcome.DeviceError failed.status failed.error, (λ i. if x i then Complete (outcome.DeviceError failed.status failed.error) else disposition_of_unfailed revalidation e))
    by false x =
        let is : disposition_of (Some failed) revalidation e ≡ disposition_of_unfailed revalidation e = (λ i. if x i then Complete (outcome.DeviceError failed.status failed.error) else disposition_of_unfailed revalidation e) in
        let e = ends_on revalidation other e in (e.0, is ∙ e.1)

-- ---- what is left

-- the requests are of the port in a book as a server has it, in its order
pub record MayDecide (port : Port) (requests : List BookEntry) (now : BookAndLoans) : Type 0 where
  pub here : (e : BookEntry) → Contains requests e → Contains now.book e × (e.request.port ≡ port)
  pub earlier : AllPairs IsEarlier requests
  pub ordered : BookIsWellFormed now.book
  pub accepted : All (IsWellFormedEntry now.table) now.book

-- so it is with all of the port's
pub its_requests : (port : Port) (s : ServerState) → BookIsWellFormed s.book → All (IsWellFormedEntry s.table) s.book → MayDecide port (requests_of port s.book) (book_and_loans_of port s)
its_requests port s ordered accepted = record { here = here; earlier = AllPairs-filter IsEarlier own s.book ordered.ids_rise; ordered = ordered; accepted = accepted }
  where
    own : BookEntry → Bool
    own e = is_of_port port e.request

    here : (e : BookEntry) → Contains (requests_of port s.book) e → Contains s.book e × (e.request.port ≡ port)
    here e there = (
      All-contains (Contains s.book) (filter own s.book) e (All-filter own (Contains s.book) s.book (All-contains_itself s.book)) there,
      ap (λ (n : ℕ). record { 0 = n }) (eqb-true e.request.port.0 port.0 (All-contains (λ (x : BookEntry). own x ≡ true) (filter own s.book) e (filter_passes own s.book) there)),
    )

-- it was in the book before, as another that waited or not, but for a marked one, which doesn't wait again
pub record WasIn (book : List BookEntry) (e : BookEntry) : Type 0 where
  pub was : BookEntry
  pub there : Contains book was
  pub id : e.request.id ≡ was.request.id
  pub client : e.request.client ≡ was.request.client
  pub grant : e.request.grant ≡ was.request.grant
  pub port : e.request.port ≡ was.request.port
  pub op : e.request.op ≡ was.request.op
  pub revoked : e.request.revoked ≡ was.request.revoked
  pub waiting : e.request.issued ≡ false → (was.request.issued ≡ false) ⊎ (e.request.revoked ≡ false)

-- The book is as a server has it still; it has no request that it hadn't, and none of these that was answered; each frame has its owner; and no more places are needed for loans
-- of the port.
pub record IsLeft (port : Port) (disposition : PendingRequest → Disposition) (requests : List BookEntry) (old new : BookAndLoans) : Type 0 where
  pub ordered : BookIsWellFormed new.book
  pub accepted : All (IsWellFormedEntry new.table) new.book
  pub owners : new.table.owners ≡ old.table.owners
  pub from : (e : BookEntry) → Contains new.book e → WasIn old.book e
  pub gone : (e : BookEntry) (o : Outcome) → Contains requests e → disposition e.request ≡ Complete o → (x : BookEntry) → Contains new.book x → x.request.id ≢ e.request.id
  pub places : length new.kept + issued_of port new.book ≤ length old.kept + issued_of port old.book
  pub fewer : (q : Port) → issued_of q new.book ≤ issued_of q old.book

pub was_itself : (book : List BookEntry) (e : BookEntry) → Contains book e → WasIn book e
was_itself book e here = record { was = e; there = here; id = refl; client = refl; grant = refl; port = refl; op = refl; revoked = refl; waiting = λ waits. inl waits }

pub was_more : (old mid : List BookEntry) (e : BookEntry) → ((x : BookEntry) → Contains mid x → WasIn old x) → WasIn mid e → WasIn old e
was_more old mid e before w =
    let v = before w.was w.there in
    record {
      was = v.was;
      there = v.there;
      id = w.id ∙ v.id;
      client = w.client ∙ v.client;
      grant = w.grant ∙ v.grant;
      port = w.port ∙ v.port;
      op = w.op ∙ v.op;
      revoked = w.revoked ∙ v.revoked;
      waiting = λ waits. ⊎_elim
          (λ between. ⊎_elim (λ first. inl first) (λ plain. inr (w.revoked ∙ plain)) (v.waiting between))
          (λ plain. inr plain)
          (w.waiting waits);
    }

-- and so it is marked as it was
pub marked_as : (rows : List GrantRow) (book : List BookEntry) (e : BookEntry) (w : WasIn book e) → RevokedMarkInvariant rows w.was → RevokedMarkInvariant rows e
marked_as rows book e w m =
    record {
      revoked_mark_agrees = (
        λ plain. let has = m.revoked_mark_agrees.0 (sym w.revoked ∙ plain) in (has.0, has.1, (has.2.0 ∙ sym w.client, has.2.1 ∙ sym w.grant)),
        λ has. w.revoked ∙ m.revoked_mark_agrees.1 (has.0, has.1, (has.2.0 ∙ w.client, has.2.1 ∙ w.grant)),
      );
      waiting_is_unmarked = λ waits. ⊎_elim (λ waited. w.revoked ∙ m.waiting_is_unmarked waited) (λ plain. plain) (w.waiting waits);
    }

pub marked_from : (rows : List GrantRow) (book : List BookEntry) → All (RevokedMarkInvariant rows) book → (e : BookEntry) → WasIn book e → RevokedMarkInvariant rows e
marked_from rows book all e w = marked_as rows book e w (All-contains (RevokedMarkInvariant rows) book w.was all w.there)

module _ (laws : PrerequisiteLaws) (port : Port) (disposition : PendingRequest → Disposition) where
  -- ---- one request

  -- it met its fate, and the others may meet theirs
  record HasMet (request : BookEntry) (rest : List BookEntry) (old mid : BookAndLoans) : Type 0 where
    may : MayDecide port rest mid
    owners : mid.table.owners ≡ old.table.owners
    from : (e : BookEntry) → Contains mid.book e → WasIn old.book e
    gone : (o : Outcome) → disposition request.request ≡ Complete o → (x : BookEntry) → Contains mid.book x → x.request.id ≢ request.request.id
    places : length mid.kept + issued_of port mid.book ≤ length old.kept + issued_of port old.book
    fewer : (q : Port) → issued_of q mid.book ≤ issued_of q old.book

  module _ (request : BookEntry) (rest : List BookEntry) (old mid : BookAndLoans) (may : MayDecide port (request ∷ rest) old) where
    its : Contains old.book request
    its = (may.here request (first_here request rest)).0

    differs : (e : BookEntry) → Contains rest e → e.request.id ≢ request.request.id
    differs e there same =
        let lt : request.request.id.0 < e.request.id.0 = All-contains (IsEarlier request) rest e (λ i d small. may.earlier 0 (suc i) d (omega arith) (omega (arith, small))) there in
        let id = ap (λ (i : RequestId). i.0) same in omega (arith, lt, id)

    earlier : AllPairs IsEarlier rest
    earlier i j d lt below = may.earlier (suc i) (suc j) d (omega (arith, lt)) (omega (arith, below))

    of_rest : (e : BookEntry) → Contains rest e → Contains old.book e × (e.request.port ≡ port)
    of_rest e there = may.here e (contains_there request rest e there)

    waited : mid ≡ old → ((o : Outcome) → disposition request.request ≡ Complete o → ⊥) → HasMet request rest old mid
    waited is never = subst (HasMet request rest old) (sym is) (record {
      may = record { here = of_rest; earlier = earlier; ordered = may.ordered; accepted = may.accepted };
      owners = refl;
      from = was_itself old.book;
      gone = λ o ends. absurd (never o ends);
      places = le_refl (length old.kept + issued_of port old.book);
      fewer = λ q. le_refl (issued_of q old.book);
    })

    -- it waits again
    requeued_was : request.request.revoked ≡ false → (e : BookEntry) → Contains (map (update_if_id request.request.id request_with_issued_cleared) old.book) e → WasIn old.book e
    requeued_was plain e there =
        let w = map_in (update_if_id request.request.id request_with_issued_cleared) old.book e there in
        subst (WasIn old.book) (sym w.2) (by w.0 w.1 (has_id request.request.id w.0) refl)
      where
        is_it : (x : BookEntry) → Contains old.book x → has_id request.request.id x ≡ true → x ≡ request
        is_it x here same = laws.an_id_is_one_entry old.book x request may.ordered here its (ap (λ (n : ℕ). record { 0 = n }) (eqb-true x.request.id.0 request.request.id.0 same))

        by : (x : BookEntry) → Contains old.book x → (b : Bool) → has_id request.request.id x ≡ b → WasIn old.book (if b then record x { request = request_with_issued_cleared x.request } else x)
        by x here true same = record {
          was = x;
          there = here;
          id = refl;
          client = refl;
          grant = refl;
          port = refl;
          op = refl;
          revoked = refl;
          waiting = λ waits. inr (ap (λ (y : BookEntry). y.request.revoked) (is_it x here same) ∙ plain);
        }
        by x here false same = was_itself old.book x here

    goes_again : FitsEntry (disposition request.request) request.request → mid ≡ record old { book = map (update_if_id request.request.id request_with_issued_cleared) old.book } → disposition request.request ≡ Requeue → HasMet request rest old mid
    goes_again fit is again = subst (HasMet request rest old) (sym is) (record {
      may = record {
        here = λ e there. let w = of_rest e there in (laws.update_keeps_other_entries old.book request.request.id request_with_issued_cleared e w.0 (differs e there), w.1);
        earlier = earlier;
        ordered = laws.requeueing_keeps_book_well_formed old.book request.request.id may.ordered (request, its, refl, issue.0, few);
        accepted = laws.requeue_keeps_entries_well_formed old.table old.book request.request.id may.accepted;
      };
      owners = refl;
      from = requeued_was issue.2;
      gone = λ o ends. let z : Requeue ≡ Complete o = sym again ∙ ends in absurd cc;
      places = let less = requeued_issued port request.request.id old.book in omega (arith, less);
      fewer = λ q. requeued_issued q request.request.id old.book;
    })
      where
        issue : (request.request.issued ≡ true) × ((request.request.issue_count == 4) ≡ false) × (request.request.revoked ≡ false)
        issue = fit.again again

        few : request.request.issue_count < 4
        few =
            let most = (All-contains (λ (e : BookEntry). IssuesAreWithinLimit e.request) old.book request may.ordered.issues_are_within_limit its).0 in
            let other = eqb-false request.request.issue_count 4 issue.1 in omega (arith, most, other)

    -- it is answered, and its loan is kept, or ends
    loan_left : (kept : Bool) → KeepsOrEndsLoan kept request old mid → (mid.table.owners ≡ old.table.owners) × All (IsWellFormedEntry mid.table) (without_entry request.request.id old.book)
    loan_left true loan = (
      ap (λ (table : OwnersAndLoans). table.owners) loan.1,
      subst (λ (table : OwnersAndLoans). All (IsWellFormedEntry table) (without_entry request.request.id old.book)) (sym loan.1)
          (All-filter (λ (e : BookEntry). not (has_id request.request.id e)) (IsWellFormedEntry old.table) old.book may.accepted),
    )
    loan_left false loan = (loan.1.owners_are_kept, laws.answering_keeps_well_formed old.table mid.table old.book request its loan.1 may.accepted)

    -- and then it is one loan more, and one issued request fewer
    loan_placed : mid.book ≡ without_entry request.request.id old.book → (kept : Bool) → (kept ≡ true → request.request.issued ≡ true) → KeepsOrEndsLoan kept request old mid
        → length mid.kept + issued_of port mid.book ≤ length old.kept + issued_of port old.book
    loan_placed book true issued loan =
        let longer : length mid.kept ≡ length old.kept + 1 = ap length loan.0 ∙ length-append old.kept (record { frames = request.frames; request = request.request.id } ∷ []) in
        let one : counts port request ≡ 1 =
        ap (λ (own : Bool). cond own (cond request.request.issued 1 0) 0) (eq-eqb request.request.port.0 port.0 (ap (λ (p : Port). p.0) (may.here request (first_here request rest)).1))
        ∙ ap (λ (b : Bool). cond b 1 0) (issued refl) in
        let less = one_fewer port (λ (e : BookEntry). not (has_id request.request.id e)) old.book request its (ap not (eq-eqb request.request.id.0 request.request.id.0 refl)) in
        let same = ap (issued_of port) book in
        omega (arith, longer, one, less, same)
    loan_placed book false issued loan =
        let as_long = ap length loan.0 in
        let less = fewer_issued port (λ (e : BookEntry). not (has_id request.request.id e)) old.book in
        let same = ap (issued_of port) book in
        omega (arith, as_long, less, same)

    answered : mid.book ≡ without_entry request.request.id old.book → (kept : Bool) → (kept ≡ true → request.request.issued ≡ true) → KeepsOrEndsLoan kept request old mid → HasMet request rest old mid
    answered book kept issued loan =
        let l = loan_left kept loan in
        record {
          may = record {
            here = λ e there.
                let w = of_rest e there in
                (subst (λ (list : List BookEntry). Contains list e) (sym book) ((laws.removal_keeps_other_entries old.book request.request.id e).1 (w.0, differs e there)), w.1);
            earlier = earlier;
            ordered = subst BookIsWellFormed (sym book) (laws.removing_keeps_book_well_formed old.book request.request.id may.ordered);
            accepted = subst (All (IsWellFormedEntry mid.table)) (sym book) l.1;
          };
          owners = l.0;
          from = λ e there. was_itself old.book e ((laws.removal_keeps_other_entries old.book request.request.id e).0 (subst (λ (list : List BookEntry). Contains list e) book there)).0;
          gone = λ o ends x there. ((laws.removal_keeps_other_entries old.book request.request.id x).0 (subst (λ (list : List BookEntry). Contains list x) book there)).1;
          places = loan_placed book kept issued loan;
          fewer = λ q. subst (λ (list : List BookEntry). issued_of q list ≤ issued_of q old.book) (sym book) (fewer_issued q (λ (e : BookEntry). not (has_id request.request.id e)) old.book);
        }

    meets_one : FitsEntry (disposition request.request) request.request → (f : Disposition) → disposition request.request ≡ f → (told : List Reply) → IsResolved request f told old mid → HasMet request rest old mid
    meets_one fit Wait is told meets = waited meets.1 (λ o ends. let z : Wait ≡ Complete o = sym is ∙ ends in absurd cc)
    meets_one fit Requeue is told meets = goes_again fit meets.1 is
    meets_one fit (Complete o) is told meets = answered meets.1 (keeps_loan o request.request) (kept_issued o request.request) meets.2

  -- ---- one after another

  pub fated : (requests : List BookEntry) → AllFit disposition requests → (replies : List Reply) (old new : BookAndLoans) → MayDecide port requests old → AreResolved disposition requests replies old new
      → IsLeft port disposition requests old new
  fated [] fit replies old new may (none, is) = subst (IsLeft port disposition [] old) (sym is) (record {
    ordered = may.ordered;
    accepted = may.accepted;
    owners = refl;
    from = was_itself old.book;
    gone = λ e o here. absurd (nowhere e here);
    places = le_refl (length old.kept + issued_of port old.book);
    fewer = λ q. le_refl (issued_of q old.book);
  })
  fated (request ∷ rest) fit replies old new may (mid, told, later, split, meets, more) =
      let one : HasMet request rest old mid = meets_one request rest old mid may (fit request (first_here request rest)) (disposition request.request) refl told meets in
      let rests = fated rest (λ e there. fit e (contains_there request rest e there)) later mid new one.may more in
      record {
        ordered = rests.ordered;
        accepted = rests.accepted;
        owners = rests.owners ∙ one.owners;
        from = λ e there. was_more old.book mid.book e one.from (rests.from e there);
        gone = λ e o here ends x there. ⊎_elim
            (λ (is : e ≡ request).
            let w = rests.from x there in
            let E : BookEntry → Type 0 = λ y. disposition y.request ≡ Complete o in
            subst (λ (y : BookEntry). x.request.id ≢ y.request.id) (sym is) (λ same. one.gone o (subst E is ends) w.was w.there (sym w.id ∙ same)))
            (λ (later_on : Contains rest e). rests.gone e o later_on ends x there)
            (contains_cases request rest e here);
        places = let first = one.places in let more_places = rests.places in omega (arith, first, more_places);
        fewer = λ q. let first = one.fewer q in let then_fewer = rests.fewer q in omega (arith, first, then_fewer);
      }
