-- Requests meet their fates in the machine, one after another.
use Rattle.std.proofs.Common.{ℕ, suc, ◌≡◌, ◌≢◌, ◌<◌, ◌==◌, Bool, true, false, not, cond, eq-eqb, if◌then◌else◌, List, [], ◌∷◌, ◌++◌, map, filter, inl, inr, append-nil, append_assoc, refl, sym, ap, ◌∙◌, subst, arith, ⊎_elim}
use Rattle.std.specs.List.{All, AllPairs, Contains}
use Rattle.std.specs.List.Sorted.{IsPermutation}
use Rattle.std.proofs.lemmas.Bool.{cond-true, eqb-false, false≢true, ne_eqb}
use Rattle.std.proofs.lemmas.List.Elements.{All-append, All-cons, All-contains, All-contains_itself, All-filter, All-nil, All-weaker, Contains-append_cases, Contains-append_left, Contains-append_right, filter_passes, Contains-get_or}
use Rattle.std.proofs.lemmas.List.Kept.{AllPairs-cons}
use Rattle.std.proofs.lemmas.List.Sorted.{Contains-permutation, IsPermutation-append, IsPermutation-append_comm, IsPermutation-refl, IsPermutation-trans}
use Rattle.ata_types.specs.declared.Port.{Port}
use Rattle.ata_types.specs.declared.request.Outcome.{Outcome}
use Rattle.ata_types.specs.declared.request.Outcome.TheVariants as outcome
use Rattle.ata_types.specs.declared.request.Reply.{Reply}
use Rattle.ata_types.specs.declared.request.RequestId.{RequestId}
use Rattle.adapter.specs.Memory.{changed}
use Rattle.refinement.specs.Driver.{OthersStayParked, HasNoSlot, DriverState, DriverRelation}
use Rattle.block_machine.specs.Events.{IsByDevice, IsLowerByPortThenId, RepliesMatch, answers_of, reply_of}
use Rattle.block_machine.specs.Histories.{IsReachable}
use Rattle.block_machine.specs.Expected.{after}
use Rattle.block_machine.specs.State.{Machine, Pending}
use Rattle.block_machine.specs.Steps.{Step, WaitAgain, Answer, IsEnabled, after_step, is_kept_at_answer, unlend}
use Rattle.dma_frames.specs.Loan.{Lending}
use Rattle.dma_frames.specs.FrameTables.{OwnersAndLoans, lent_to}
use Rattle.request_queue.specs.BookEntries.{IssuesAreWithinLimit, BookEntry, IsWellFormedEntry, IsEarlier, BookIsWellFormed, update_if_id, request_with_issued_cleared, without_entry}
use Rattle.request_queue.specs.Dispositions.{KeepsOrEndsLoan, BookAndLoans, AreResolved, IsResolved, keeps_loan, reply_to}
use Rattle.request_queue.specs.BookRelation.{BookRelation, EntryRelation}
use Rattle.request_queue.specs.declared.PendingRequest.{PendingRequest}
use Rattle.request_queue.specs.declared.disposition.Disposition.{Disposition}
use Rattle.request_queue.specs.declared.disposition.Disposition.TheVariants.{Complete, Requeue, Wait}
use Rattle.server_history.specs.Prerequisites.{PrerequisiteLaws}
use Rattle.server_history.specs.ResolvedRequests.{IsResolveStep, IsRequeuedOrAnsweredWithoutKeptLoan, AreResolvable, AreResolvedInMachine, completes_keeping_loan, loan_of, loans_newest_first}
use Rattle.server_history.specs.ServerState.{DifferInRequest, RevokedMarkAgrees}
use Rattle.server_history.proofs.dispositions.FittingFates.{AllFit, FitsEntry}
use Rattle.server_history.proofs.healthy_turn.OneAnswer.{given_back}
use Rattle.server_history.proofs.any_turn.JoinedParts.{all_pairs_append, answers_append, answers_there, first_or_later}
use Rattle.std.proofs.lemmas.Bool.Decides.{eqb_tells}
use Rattle.server_history.proofs.state.PairedLists.{at_left}
use Rattle.server_history.proofs.state.FirstMembers.{first_here, nowhere}
use Rattle.server_history.proofs.state.ListMembers.{contains_there}
use Rattle.server_history.proofs.state.RevokedMarks.{tellable, unmarked_has}

-- ---- fates

-- whether it is kept is told by both alike
stays_is : (o : Outcome) (e : PendingRequest) (p : Pending) → p.issued ≡ e.issued → is_kept_at_answer p o ≡ keeps_loan o e
stays_is outcome.Ok e p same = refl
stays_is (outcome.DeviceError status error) e p same = refl
stays_is outcome.Aborted e p same = refl
stays_is outcome.Unplugged e p same = refl
stays_is outcome.Revoked e p same = refl
stays_is outcome.PortDead e p same = same

-- ---- loans that are kept

pub loans_append : (late early : List Pending) → loans_newest_first (late ++ early) ≡ loans_newest_first early ++ loans_newest_first late
loans_append [] early = sym (append-nil (loans_newest_first early))
loans_append (e ∷ late) early = ap (λ (loans : List Lending). loans ++ loan_of e ∷ []) (loans_append late early) ∙ append_assoc (loans_newest_first early) (loans_newest_first late) (loan_of e ∷ [])

-- each is of one of them
pub loans_in : (held : List Pending) (loan : Lending) → Contains (loans_newest_first held) loan → (e : Pending) × Contains held e × (loan ≡ loan_of e)
loans_in [] loan here = absurd (nowhere loan here)
loans_in (x ∷ held) loan here = ⊎_elim
    (λ early. let r = loans_in held loan early in (r.0, Contains-append_right (x ∷ []) held r.0 r.1, r.2))
    (λ last. ⊎_elim
    (λ (is : loan ≡ loan_of x). (x, Contains-get_or (x ∷ held) 0 x (omega arith), is))
    (λ none. absurd (nowhere loan none))
    (first_or_later (loan_of x) [] loan last))
    (Contains-append_cases (loans_newest_first held) (loan_of x ∷ []) loan here)

pub in_loans : (held : List Pending) (e : Pending) → Contains held e → Contains (loans_newest_first held) (loan_of e)
in_loans [] e here = absurd (nowhere e here)
in_loans (x ∷ held) e here = ⊎_elim
    (λ (is : e ≡ x). Contains-append_right (loans_newest_first held) (loan_of x ∷ []) (loan_of e) (0, omega arith, ap loan_of (sym is)))
    (λ there. Contains-append_left (loans_newest_first held) (loan_of x ∷ []) (loan_of e) (in_loans held e there))
    (first_or_later x held e here)

-- ---- what is parked

-- a list with nobody in it
pub nobody : {X : Type 0} (xs : List X) → ((x : X) → Contains xs x → ⊥) → xs ≡ []
nobody [] none = refl
nobody (x ∷ xs) none = absurd (none x (Contains-get_or (x ∷ xs) 0 x (omega arith)))

-- but for this one
abbrev but : RequestId → List RequestId → List RequestId
but id xs = filter (λ (x : RequestId). not (x.0 == id.0)) xs

but_in : (id : RequestId) (xs : List RequestId) (x : RequestId) → Contains (but id xs) x → Contains xs x × (x ≢ id)
but_in id xs x here = (
  All-contains (Contains xs) (but id xs) x (All-filter (λ (y : RequestId). not (y.0 == id.0)) (Contains xs) xs (All-contains_itself xs)) here,
  λ same. false≢true (sym (ap not (eq-eqb x.0 id.0 (ap (λ (y : RequestId). y.0) same)))
      ∙ All-contains (λ (y : RequestId). not (y.0 == id.0) ≡ true) (but id xs) x (filter_passes (λ (y : RequestId). not (y.0 == id.0)) xs) here),
)

in_but : (id : RequestId) (xs : List RequestId) (x : RequestId) → Contains xs x → (x ≡ id → ⊥) → Contains (but id xs) x
in_but id [] x here ne = absurd (nowhere x here)
in_but id (y ∷ xs) x here ne = ⊎_elim
    (λ (same : x ≡ y). subst (λ (list : List RequestId). Contains list x) (sym (kept (passes same))) (Contains-append_left (y ∷ []) (but id xs) x (0, omega arith, sym same)))
    (λ (later : Contains xs x). by (not (y.0 == id.0)) (in_but id xs x later ne))
    (first_or_later y xs x here)
  where
    passes : x ≡ y → not (y.0 == id.0) ≡ true
    passes same = ap not (ne_eqb y.0 id.0 (λ is. ne (same ∙ ap (λ (n : ℕ). record { 0 = n }) is)))

    kept : not (y.0 == id.0) ≡ true → but id (y ∷ xs) ≡ y ∷ but id xs
    kept is = cond-true (not (y.0 == id.0)) (y ∷ but id xs) (but id xs) is

    by : (b : Bool) → Contains (but id xs) x → Contains (cond b (y ∷ but id xs) (but id xs)) x
    by true there = Contains-append_right (y ∷ []) (but id xs) x there
    by false there = there

-- what is parked once this one of the port is decided
abbrev decided : (ℕ → List RequestId) → ℕ → RequestId → ℕ → List RequestId
decided parked port id = changed parked port (but id (parked port))

forgets_it : (parked : ℕ → List RequestId) (port : ℕ) (id : RequestId) → OthersStayParked id parked (decided parked port id)
unfolding changed
forgets_it parked port id q other here ne =
    elim (eqb_tells q port) [
      | inl both ↦ rw both.0 (in_but id (parked port) other (subst (λ (p : ℕ). Contains (parked p) other) both.1 here) ne)
      | inr both ↦ rw both.0 here
    ]

decided_here : (parked : ℕ → List RequestId) (port : ℕ) (id : RequestId) → decided parked port id port ≡ but id (parked port)
unfolding changed
decided_here parked port id = rw (eq-eqb port port refl) refl

decided_elsewhere : (parked : ℕ → List RequestId) (port : ℕ) (id : RequestId) (q : ℕ) → q ≢ port → decided parked port id q ≡ parked q
unfolding changed
decided_elsewhere parked port id q ne = rw (ne_eqb q port ne) refl

-- ---- one request

module _ (laws : PrerequisiteLaws) (port : Port) (disposition : PendingRequest → Disposition) where
  module _ (request : BookEntry) (rest : List BookEntry) (now mid : BookAndLoans) (k : DriverState) (m : Machine) (may : AreResolvable port disposition (request ∷ rest) now k m) where
    pub here : Contains now.book request
    here = (may.are_in_book_of_port request (Contains-get_or (request ∷ rest) 0 request (omega arith))).0

    its_port : request.request.port ≡ port
    its_port = (may.are_in_book_of_port request (Contains-get_or (request ∷ rest) 0 request (omega arith))).1

    in_rest : (e : BookEntry) → Contains rest e → Contains (request ∷ rest) e
    in_rest e there = Contains-append_right (request ∷ []) rest e there

    pub later_id : (e : BookEntry) → Contains rest e → request.request.id.0 < e.request.id.0
    later_id e there = All-contains (IsEarlier request) rest e (λ i d small. may.are_in_order 0 (suc i) d (omega arith) (omega (arith, small))) there

    differs : (e : BookEntry) → Contains rest e → e.request.id ≢ request.request.id
    differs e there same = let lt = later_id e there in let id = ap (λ (i : RequestId). i.0) same in omega (arith, lt, id)

    earlier : AllPairs IsEarlier rest
    earlier i j d lt below = may.are_in_order (suc i) (suc j) d (omega (arith, lt)) (omega (arith, below))

    abbrev pub entry : (p : Pending) × Contains m.book p × EntryRelation request p
    entry = at_left EntryRelation now.book m.book may.book_relation request here

    abbrev pub p : Pending
    p = entry.0

    id_is : p.request.id ≡ request.request.id
    id_is = entry.2.id

    its_mark : RevokedMarkAgrees m.rows request.request
    its_mark = may.revoked_marks_agree request (Contains-get_or (request ∷ rest) 0 request (omega arith))

    unserved : completes_keeping_loan (disposition request.request) request.request ≡ false → HasNoSlot k.slot_states p.request.id
    unserved never = subst (HasNoSlot k.slot_states) (sym id_is) (may.released_have_no_slot request (Contains-get_or (request ∷ rest) 0 request (omega arith)) never)

    abbrev pub left_known : DriverState
    left_known = record k { awaiting_disposition = decided k.awaiting_disposition port.0 request.request.id }

    forgets : OthersStayParked p.request.id k.awaiting_disposition (decided k.awaiting_disposition port.0 request.request.id)
    forgets = subst (λ (id : RequestId). OthersStayParked id k.awaiting_disposition (decided k.awaiting_disposition port.0 request.request.id)) (sym id_is) (forgets_it k.awaiting_disposition port.0 request.request.id)

    -- what is parked then was before, and isn't this one
    left_parked : (id : RequestId) → Contains (decided k.awaiting_disposition port.0 request.request.id port.0) id → Contains (k.awaiting_disposition port.0) id × (request.request.id ≢ id)
    left_parked id there =
        let b = but_in request.request.id (k.awaiting_disposition port.0) id (subst (λ (list : List RequestId). Contains list id) (decided_here k.awaiting_disposition port.0 request.request.id) there) in
        (b.0, λ same. b.1 (sym same))

    -- ---- with those that come after it

    -- this step decides it, by which these are kept
    module _ (step : Step) (its later replies : List Reply) (new : BookAndLoans) (split : replies ≡ its ++ later) (comes : IsEnabled m step) (of_port : IsResolveStep port step) (own : IsByDevice step → ⊥)
        (parked : ℕ → List RequestId) (elsewhere : (q : ℕ) → q ≢ port.0 → parked q ≡ k.awaiting_disposition q)
        (its_still : (id : RequestId) → Contains (parked port.0) id → Contains (k.awaiting_disposition port.0) id × (IsRequeuedOrAnsweredWithoutKeptLoan disposition request → request.request.id ≢ id))
        (gone : List Pending) (keeps : (after_step m step).kept ≡ gone ++ m.kept) (lends : mid.kept ≡ now.kept ++ loans_newest_first gone) (alone : AllPairs DifferInRequest (loans_newest_first gone))
        (its_own : (e : Pending) → Contains gone e → EntryRelation request e × (completes_keeping_loan (disposition request.request) request.request ≡ true))
        (told : (e : Pending) (o : Outcome) → Answer e o ≡ step → EntryRelation request e × (disposition request.request ≡ Complete o))
        (waits : (e : Pending) → WaitAgain e ≡ step → EntryRelation request e × (disposition request.request ≡ Requeue))
        (r : AreResolvedInMachine port disposition rest later mid new (record k { awaiting_disposition = parked }) (after_step m step)) where
      whole_is : after m (r.steps ++ step ∷ []) ≡ after (after_step m step) r.steps
      whole_is = laws.steps_and_accesses.after_joins m r.steps (step ∷ [])

      answered_by : (e : Pending) (o : Outcome) → Contains (r.steps ++ step ∷ []) (Answer e o) → (y : BookEntry) × Contains (request ∷ rest) y × EntryRelation y e × (disposition y.request ≡ Complete o)
      answered_by e o there = ⊎_elim
          (λ early. let w = r.answers_are_as_decided e o early in (w.0, in_rest w.0 w.1, w.2, w.3))
          (λ last. ⊎_elim
          (λ (is : Answer e o ≡ step). let w = told e o is in (request, Contains-get_or (request ∷ rest) 0 request (omega arith), w.0, w.1))
          (λ none. absurd (nowhere (Answer e o) none))
          (first_or_later step [] (Answer e o) last))
          (Contains-append_cases r.steps (step ∷ []) (Answer e o) there)

      again_by : (e : Pending) → Contains (r.steps ++ step ∷ []) (WaitAgain e) → (y : BookEntry) × Contains (request ∷ rest) y × EntryRelation y e × (disposition y.request ≡ Requeue)
      again_by e there = ⊎_elim
          (λ early. let w = r.requeues_are_as_decided e early in (w.0, in_rest w.0 w.1, w.2, w.3))
          (λ last. ⊎_elim
          (λ (is : WaitAgain e ≡ step). let w = waits e is in (request, Contains-get_or (request ∷ rest) 0 request (omega arith), w.0, w.1))
          (λ none. absurd (nowhere (WaitAgain e) none))
          (first_or_later step [] (WaitAgain e) last))
          (Contains-append_cases r.steps (step ∷ []) (WaitAgain e) there)

      kept_by : (e : Pending) → Contains (r.newly_kept ++ gone) e → (y : BookEntry) × Contains (request ∷ rest) y × EntryRelation y e × (completes_keeping_loan (disposition y.request) y.request ≡ true)
      kept_by e there = ⊎_elim
          (λ late. let w = r.newly_kept_are_of_requests e late in (w.0, in_rest w.0 w.1, w.2, w.3))
          (λ first. let w = its_own e first in (request, Contains-get_or (request ∷ rest) 0 request (omega arith), w.0, w.1))
          (Contains-append_cases r.newly_kept gone e there)

      two : AllPairs DifferInRequest (loans_newest_first (r.newly_kept ++ gone))
      two = subst (AllPairs DifferInRequest) (sym (loans_append r.newly_kept gone)) (all_pairs_append DifferInRequest (loans_newest_first gone) (loans_newest_first r.newly_kept) alone r.loans_differ_in_request (λ a b first late same.
          let x = loans_in gone a first in
          let y = loans_in r.newly_kept b late in
          let w = r.newly_kept_are_of_requests y.0 y.1 in
          differs w.0 w.1 (sym w.2.id ∙ sym (ap (λ (l : Lending). l.request) y.2) ∙ sym same ∙ ap (λ (l : Lending). l.request) x.2 ∙ (its_own x.0 x.1).0.id)))

      still_by : (id : RequestId) → Contains (r.parked port.0) id → Contains (k.awaiting_disposition port.0) id × ((e : BookEntry) → Contains (request ∷ rest) e → IsRequeuedOrAnsweredWithoutKeptLoan disposition e → e.request.id ≢ id)
      still_by id there =
          let late = r.parked_was_parked_and_not_freed id there in
          let first = its_still id late.0 in (
            first.0,
            λ e here goes. ⊎_elim
                (λ (same : e ≡ request). subst (λ (y : BookEntry). y.request.id ≢ id) (sym same) (first.1 (subst (IsRequeuedOrAnsweredWithoutKeptLoan disposition) same goes)))
                (λ (later_on : Contains rest e). late.1 e later_on goes)
                (first_or_later request rest e here),
          )

      pub decides : RepliesMatch (r.steps ++ step ∷ []) replies → AreResolvedInMachine port disposition (request ∷ rest) replies now new k m
      decides tells = record {
        steps = r.steps ++ step ∷ [];
        parked = r.parked;
        steps_are_enabled = laws.steps_and_accesses.enabled_lists_join m r.steps (step ∷ []) (tt, comes) r.steps_are_enabled;
        steps_are_of_port = All-append (IsResolveStep port) r.steps (step ∷ []) r.steps_are_of_port (All-cons (IsResolveStep port) step [] of_port (All-nil (IsResolveStep port)));
        backed = λ d. laws.backed_parts_join d d d m (step ∷ []) r.steps (laws.drivers_own_step_is_backed d m step own) (r.backed d);
        driver_relation = subst (λ (n : Machine). DriverRelation n (record k { awaiting_disposition = r.parked })) (sym whole_is) r.driver_relation;
        parked_of_others_is_kept = λ q ne. r.parked_of_others_is_kept q ne ∙ elsewhere q ne;
        parked_was_parked_and_not_freed = still_by;
        book = subst (λ (n : Machine). BookRelation new.book n.book) (sym whole_is) r.book;
        loans_agree = λ frame. ap (λ (n : Machine). n.lent frame) whole_is ∙ r.loans_agree frame;
        newly_kept = r.newly_kept ++ gone;
        newly_kept_are_kept = ap (λ (n : Machine). n.kept) whole_is ∙ r.newly_kept_are_kept ∙ ap (λ (kept : List Pending). r.newly_kept ++ kept) keeps ∙ sym (append_assoc r.newly_kept gone m.kept);
        loans_of_newly_kept = r.loans_of_newly_kept ∙ ap (λ (loans : List Lending). loans ++ loans_newest_first r.newly_kept) lends ∙ append_assoc now.kept (loans_newest_first gone) (loans_newest_first r.newly_kept) ∙ ap (λ (loans : List Lending). now.kept ++ loans) (sym (loans_append r.newly_kept gone));
        loans_differ_in_request = two;
        newly_kept_are_of_requests = kept_by;
        answers_are_as_decided = answered_by;
        requeues_are_as_decided = again_by;
        replies_match = tells;
      }

  -- ---- one that ends

  module _ (request : BookEntry) (rest : List BookEntry) (now mid new : BookAndLoans) (its later replies : List Reply) (k : DriverState) (m : Machine) (may : AreResolvable port disposition (request ∷ rest) now k m) (split : replies ≡ its ++ later)
      (more : (k : DriverState) (m : Machine) → AreResolvable port disposition rest mid k m → AreResolvedInMachine port disposition rest later mid new k m) (fit : FitsEntry (disposition request.request) request.request) (o : Outcome) (is : disposition request.request ≡ Complete o) (meets : IsResolved request (Complete o) its now mid) where
    abbrev x : Pending
    x = p request rest now mid k m may

    its_entry : EntryRelation request x
    its_entry = (entry request rest now mid k m may).2

    comes : IsEnabled m (Answer x o)
    comes = (
      (entry request rest now mid k m may).1,
      tellable m request x o its_entry (its_mark request rest now mid k m may) (λ told. fit.revoked (is ∙ ap Complete told)) (λ told. fit.aborted (is ∙ ap Complete told)),
    )

    of_port : x.request.port ≡ port
    of_port = its_entry.port ∙ its_port request rest now mid k m may

    fate_is : completes_keeping_loan (disposition request.request) request.request ≡ keeps_loan o request.request
    fate_is = ap (λ (f : Disposition). completes_keeping_loan f request.request) is

    stay : is_kept_at_answer x o ≡ keeps_loan o request.request
    stay = stays_is o request.request x its_entry.issued

    reply_is : reply_to request o ≡ reply_of (x, o)
    reply_is = λ i. record { id = sym its_entry.id i; client = sym its_entry.client i; outcome = o }

    reached : IsReachable (after_step m (Answer x o))
    reached = laws.steps_and_accesses.reachable_stays_reachable m (Answer x o ∷ []) may.reached (tt, comes)

    book : BookRelation mid.book (after_step m (Answer x o)).book
    book = subst (λ (book : List BookEntry). BookRelation book (after_step m (Answer x o)).book) (sym meets.1)
        (subst (λ (id : RequestId). BookRelation (without_entry id now.book) (after_step m (Answer x o)).book) (id_is request rest now mid k m may) (laws.answer_keeps_book_relation now.book m x o may.book_relation))

    ordered : BookIsWellFormed mid.book
    ordered = subst BookIsWellFormed (sym meets.1) (laws.removing_keeps_book_well_formed now.book request.request.id may.book_is_well_formed)

    still : (e : BookEntry) → Contains rest e → Contains mid.book e × (e.request.port ≡ port)
    still e there =
        let w = may.are_in_book_of_port e (in_rest request rest now mid k m may e there) in
        (subst (λ (book : List BookEntry). Contains book e) (sym meets.1) ((laws.removal_keeps_other_entries now.book request.request.id e).1 (w.0, differs request rest now mid k m may e there)), w.1)

    -- what comes of it, once the rest met their fates
    module _ (parked : ℕ → List RequestId) (elsewhere : (q : ℕ) → q ≢ port.0 → parked q ≡ k.awaiting_disposition q)
        (its_still : (id : RequestId) → Contains (parked port.0) id → Contains (k.awaiting_disposition port.0) id × (IsRequeuedOrAnsweredWithoutKeptLoan disposition request → request.request.id ≢ id)) (gone : List Pending) (keeps : (after_step m (Answer x o)).kept ≡ gone ++ m.kept)
        (lends : mid.kept ≡ now.kept ++ loans_newest_first gone) (alone : AllPairs DifferInRequest (loans_newest_first gone)) (its_own : (e : Pending) → Contains gone e → EntryRelation request e × (completes_keeping_loan (disposition request.request) request.request ≡ true))
        (goes : AreResolvable port disposition rest mid (record k { awaiting_disposition = parked }) (after_step m (Answer x o))) where
      r : AreResolvedInMachine port disposition rest later mid new (record k { awaiting_disposition = parked }) (after_step m (Answer x o))
      r = more (record k { awaiting_disposition = parked }) (after_step m (Answer x o)) goes

      -- it is told first
      first : All (IsLowerByPortThenId (x, o)) r.replies_match.answers
      first = All-weaker (Contains r.replies_match.answers) (IsLowerByPortThenId (x, o)) (λ a there.
          let w = r.answers_are_as_decided a.0 a.1 (answers_there r.steps a (Contains-permutation r.replies_match.answers (answers_of r.steps) a r.replies_match.is_permutation there)) in
          let lt = later_id request rest now mid k m may w.0 w.1 in
          let mine = ap (λ (i : RequestId). i.0) its_entry.id in
          let other = ap (λ (i : RequestId). i.0) w.2.id in
          inr (of_port ∙ sym (w.2.port ∙ (may.are_in_book_of_port w.0 (in_rest request rest now mid k m may w.0 w.1)).1), omega (arith, lt, mine, other))) r.replies_match.answers (All-contains_itself r.replies_match.answers)

      answers : AreResolvedInMachine port disposition (request ∷ rest) replies now new k m
      answers =
          decides request rest now mid k m may (Answer x o) its later replies new split comes of_port (λ none. none) parked elsewhere its_still gone keeps lends alone its_own
          (λ e other same.
          let e_is : e ≡ x = (let z : Answer e other ≡ Answer x o = same in cc) in
          let o_is : other ≡ o = (let z : Answer e other ≡ Answer x o = same in cc) in
          (subst (EntryRelation request) (sym e_is) its_entry, is ∙ ap Complete (sym o_is)))
          (λ e same. let z : WaitAgain e ≡ Answer x o = same in absurd cc)
          r
          (record {
            answers = (x, o) ∷ r.replies_match.answers;
            is_permutation = subst (IsPermutation ((x, o) ∷ r.replies_match.answers)) (sym (answers_append r.steps (Answer x o ∷ [])))
                (IsPermutation-trans _ _ _ (IsPermutation-append_comm ((x, o) ∷ []) r.replies_match.answers) (IsPermutation-append _ _ _ _ r.replies_match.is_permutation (IsPermutation-refl ((x, o) ∷ []))));
            ordered = AllPairs-cons IsLowerByPortThenId (x, o) r.replies_match.answers first r.replies_match.ordered;
            replies_are_of_answers = split ∙ ap (λ (y : List Reply). y ++ later) meets.0 ∙ (λ i. reply_is i ∷ r.replies_match.replies_are_of_answers i);
          })

    by : (b : Bool) → keeps_loan o request.request ≡ b → AreResolvedInMachine port disposition (request ∷ rest) replies now new k m
    by false never =
        answers (decided k.awaiting_disposition port.0 request.request.id) (decided_elsewhere k.awaiting_disposition port.0 request.request.id)
        (λ id there. let w = left_parked request rest now mid k m may id there in (w.0, λ goes. w.1)) []
        (ap (λ (b : Bool). if b then x ∷ m.kept else m.kept) (stay ∙ never)) (loan.0 ∙ sym (append-nil now.kept)) (λ i j d lt below. absurd (omega (arith, lt, below))) (λ e there. absurd (nowhere e there))
        (record {
          reached = reached;
          driver_relation = laws.slots.answered_agrees k m x o (decided k.awaiting_disposition port.0 request.request.id) may.reached may.driver_relation comes.0 (stay ∙ never) (unserved request rest now mid k m may (fate_is ∙ never)) (forgets request rest now mid k m may);
          book_relation = book;
          loans_agree = λ frame. ap (λ (b : Bool). (if b then m.lent else unlend x.request.id m.lent) frame) (stay ∙ never)
              ∙ given_back laws m request x now.table mid.table may.reached (inl comes.0) its_entry may.loans_agree (All-contains (IsWellFormedEntry now.table) now.book request may.entries_are_well_formed (here request rest now mid k m may)).frames_are_lent loan.1 frame;
          book_is_well_formed = ordered;
          entries_are_well_formed = subst (All (IsWellFormedEntry mid.table)) (sym meets.1) (laws.answering_keeps_well_formed now.table mid.table now.book request (here request rest now mid k m may) loan.1 may.entries_are_well_formed);
          are_in_book_of_port = still;
          revoked_marks_agree = λ e there. may.revoked_marks_agree e (in_rest request rest now mid k m may e there);
          are_in_order = earlier request rest now mid k m may;
          released_have_no_slot = λ e there none. may.released_have_no_slot e (in_rest request rest now mid k m may e there) none;
        })
      where
        loan : KeepsOrEndsLoan false request now mid
        loan = subst (λ (b : Bool). KeepsOrEndsLoan b request now mid) never meets.2
    by true keeps =
        answers k.awaiting_disposition (λ q ne. refl) (λ id there. (there, λ goes. absurd (false≢true (sym goes.1 ∙ fate_is ∙ keeps)))) (x ∷ [])
        (ap (λ (b : Bool). if b then x ∷ m.kept else m.kept) (stay ∙ keeps)) (loan.0 ∙ ap (λ (l : Lending). now.kept ++ l ∷ []) loan_is) (λ i j d lt below. absurd (omega (arith, lt, below)))
        (λ e there. ⊎_elim (λ (same : e ≡ x). (subst (EntryRelation request) (sym same) its_entry, fate_is ∙ keeps)) (λ none. absurd (nowhere e none)) (first_or_later x [] e there))
        (record {
          reached = reached;
          driver_relation = laws.slots.kept_agrees k m x o may.reached may.driver_relation comes.0 (stay ∙ keeps);
          book_relation = book;
          loans_agree = λ frame. ap (λ (b : Bool). (if b then m.lent else unlend x.request.id m.lent) frame) (stay ∙ keeps) ∙ may.loans_agree frame ∙ ap (λ (t : OwnersAndLoans). lent_to t frame) (sym loan.1);
          book_is_well_formed = ordered;
          entries_are_well_formed = subst (All (IsWellFormedEntry mid.table)) (sym meets.1) (subst (λ (t : OwnersAndLoans). All (IsWellFormedEntry t) (without_entry request.request.id now.book)) (sym loan.1)
              (All-weaker (Contains (without_entry request.request.id now.book)) (IsWellFormedEntry now.table) (λ e there. All-contains (IsWellFormedEntry now.table) now.book e may.entries_are_well_formed ((laws.removal_keeps_other_entries now.book request.request.id e).0 there).0)
              (without_entry request.request.id now.book) (All-contains_itself (without_entry request.request.id now.book))));
          are_in_book_of_port = still;
          revoked_marks_agree = λ e there. may.revoked_marks_agree e (in_rest request rest now mid k m may e there);
          are_in_order = earlier request rest now mid k m may;
          released_have_no_slot = λ e there none. may.released_have_no_slot e (in_rest request rest now mid k m may e there) none;
        })
      where
        loan : KeepsOrEndsLoan true request now mid
        loan = subst (λ (b : Bool). KeepsOrEndsLoan b request now mid) keeps meets.2

        loan_is : record { frames = request.frames; request = request.request.id } ≡ loan_of x
        loan_is = λ i. record { frames = sym its_entry.frames i; request = sym its_entry.id i }

    pub meet_end : AreResolvedInMachine port disposition (request ∷ rest) replies now new k m
    meet_end = by (keeps_loan o request.request) refl

  -- ---- each fate

  meet_one : (request : BookEntry) (rest : List BookEntry) (now mid new : BookAndLoans) (its later replies : List Reply) (k : DriverState) (m : Machine) → AreResolvable port disposition (request ∷ rest) now k m → replies ≡ its ++ later
      → ((k : DriverState) (m : Machine) → AreResolvable port disposition rest mid k m → AreResolvedInMachine port disposition rest later mid new k m) → FitsEntry (disposition request.request) request.request → (f : Disposition) → disposition request.request ≡ f → IsResolved request f its now mid
      → AreResolvedInMachine port disposition (request ∷ rest) replies now new k m
  meet_one request rest now mid new its later replies k m may split more fit Wait is meets = record {
    steps = r.steps;
    parked = r.parked;
    steps_are_enabled = r.steps_are_enabled;
    steps_are_of_port = r.steps_are_of_port;
    backed = r.backed;
    driver_relation = r.driver_relation;
    parked_of_others_is_kept = r.parked_of_others_is_kept;
    parked_was_parked_and_not_freed = λ id there. let w = r.parked_was_parked_and_not_freed id there in (
      w.0,
      λ e here goes. ⊎_elim
          (λ (same : e ≡ request). absurd (goes.0 (ap (λ (y : BookEntry). disposition y.request) same ∙ is)))
          (λ (later_on : Contains rest e). w.1 e later_on goes)
          (first_or_later request rest e here),
    );
    book = r.book;
    loans_agree = r.loans_agree;
    newly_kept = r.newly_kept;
    newly_kept_are_kept = r.newly_kept_are_kept;
    loans_of_newly_kept = r.loans_of_newly_kept ∙ ap (λ (h : BookAndLoans). h.kept ++ loans_newest_first r.newly_kept) meets.1;
    loans_differ_in_request = r.loans_differ_in_request;
    newly_kept_are_of_requests = λ e here. let w = r.newly_kept_are_of_requests e here in (w.0, in_rest request rest now mid k m may w.0 w.1, w.2, w.3);
    answers_are_as_decided = λ e o here. let w = r.answers_are_as_decided e o here in (w.0, in_rest request rest now mid k m may w.0 w.1, w.2, w.3);
    requeues_are_as_decided = λ e here. let w = r.requeues_are_as_decided e here in (w.0, in_rest request rest now mid k m may w.0 w.1, w.2, w.3);
    replies_match = subst (RepliesMatch r.steps) (sym (split ∙ ap (λ (x : List Reply). x ++ later) meets.0)) r.replies_match;
  }
    where
      goes : AreResolvable port disposition rest now k m
      goes = record {
        reached = may.reached;
        driver_relation = may.driver_relation;
        book_relation = may.book_relation;
        loans_agree = may.loans_agree;
        book_is_well_formed = may.book_is_well_formed;
        entries_are_well_formed = may.entries_are_well_formed;
        are_in_book_of_port = λ e there. may.are_in_book_of_port e (in_rest request rest now mid k m may e there);
        revoked_marks_agree = λ e there. may.revoked_marks_agree e (in_rest request rest now mid k m may e there);
        are_in_order = earlier request rest now mid k m may;
        released_have_no_slot = λ e there never. may.released_have_no_slot e (in_rest request rest now mid k m may e there) never;
      }

      r : AreResolvedInMachine port disposition rest later mid new k m
      r = more k m (subst (λ (h : BookAndLoans). AreResolvable port disposition rest h k m) (sym meets.1) goes)
  meet_one request rest now mid new its later replies k m may split more fit Requeue is meets =
      decides request rest now mid k m may (WaitAgain x) its later replies new split comes of_port (λ none. none) (decided k.awaiting_disposition port.0 request.request.id)
      (decided_elsewhere k.awaiting_disposition port.0 request.request.id)
      (λ id there. let w = left_parked request rest now mid k m may id there in (w.0, λ goes. w.1)) [] refl
      (ap (λ (h : BookAndLoans). h.kept) meets.1 ∙ sym (append-nil now.kept)) (λ i j d lt below. absurd (omega (arith, lt, below))) (λ e there. absurd (nowhere e there))
      (λ e o same. let z : Answer e o ≡ WaitAgain x = same in absurd cc)
      (λ e same. let e_is : e ≡ x = (let z : WaitAgain e ≡ WaitAgain x = same in cc) in (subst (EntryRelation request) (sym e_is) (entry request rest now mid k m may).2, is))
      r
      (record {
        answers = r.replies_match.answers;
        is_permutation = subst (IsPermutation r.replies_match.answers) (sym (answers_append r.steps (WaitAgain x ∷ []) ∙ append-nil (answers_of r.steps))) r.replies_match.is_permutation;
        ordered = r.replies_match.ordered;
        replies_are_of_answers = split ∙ ap (λ (y : List Reply). y ++ later) meets.0 ∙ r.replies_match.replies_are_of_answers;
      })
    where
      x : Pending
      x = p request rest now mid k m may

      its_issue : (request.request.issued ≡ true) × ((request.request.issue_count == 4) ≡ false) × (request.request.revoked ≡ false)
      its_issue = fit.again is

      few : request.request.issue_count < 4
      few =
          let most = (All-contains (λ (e : BookEntry). IssuesAreWithinLimit e.request) now.book request may.book_is_well_formed.issues_are_within_limit (here request rest now mid k m may)).0 in
          let other = eqb-false request.request.issue_count 4 its_issue.1 in omega (arith, most, other)

      comes : IsEnabled m (WaitAgain x)
      comes =
          let e = entry request rest now mid k m may in
          (e.1, e.2.issued ∙ its_issue.0, subst (λ (n : ℕ). n < 4) (sym e.2.issues) few, unmarked_has m request x e.2 (its_mark request rest now mid k m may) its_issue.2)

      of_port : x.request.port ≡ port
      of_port = (entry request rest now mid k m may).2.port ∙ its_port request rest now mid k m may

      goes : AreResolvable port disposition rest (record now { book = map (update_if_id request.request.id request_with_issued_cleared) now.book }) (left_known request rest now mid k m may) (after_step m (WaitAgain x))
      goes = record {
        reached = laws.steps_and_accesses.reachable_stays_reachable m (WaitAgain x ∷ []) may.reached (tt, comes);
        driver_relation = laws.slots.wait_again_agrees k m x (decided k.awaiting_disposition port.0 request.request.id) may.reached may.driver_relation comes.0 (unserved request rest now mid k m may (ap (λ (f : Disposition). completes_keeping_loan f request.request) is)) (forgets request rest now mid k m may);
        book_relation = subst (λ (id : RequestId). BookRelation (map (update_if_id id request_with_issued_cleared) now.book) (after_step m (WaitAgain x)).book) (id_is request rest now mid k m may) (laws.requeue_keeps_book_relation now.book m x may.book_relation);
        loans_agree = may.loans_agree;
        book_is_well_formed = laws.requeueing_keeps_book_well_formed now.book request.request.id may.book_is_well_formed (request, here request rest now mid k m may, refl, its_issue.0, few);
        entries_are_well_formed = laws.requeue_keeps_entries_well_formed now.table now.book request.request.id may.entries_are_well_formed;
        are_in_book_of_port = λ e there.
            let w = may.are_in_book_of_port e (in_rest request rest now mid k m may e there) in
            (laws.update_keeps_other_entries now.book request.request.id request_with_issued_cleared e w.0 (differs request rest now mid k m may e there), w.1);
        revoked_marks_agree = λ e there. may.revoked_marks_agree e (in_rest request rest now mid k m may e there);
        are_in_order = earlier request rest now mid k m may;
        released_have_no_slot = λ e there never. may.released_have_no_slot e (in_rest request rest now mid k m may e there) never;
      }

      r : AreResolvedInMachine port disposition rest later mid new (left_known request rest now mid k m may) (after_step m (WaitAgain x))
      r = more (left_known request rest now mid k m may) (after_step m (WaitAgain x)) (subst (λ (h : BookAndLoans). AreResolvable port disposition rest h (left_known request rest now mid k m may) (after_step m (WaitAgain x))) (sym meets.1) goes)
  meet_one request rest now mid new its later replies k m may split more fit (Complete o) is meets = meet_end request rest now mid new its later replies k m may split more fit o is meets

pub meet : PrerequisiteLaws → (port : Port) (disposition : PendingRequest → Disposition) (requests : List BookEntry) → AllFit disposition requests → (replies : List Reply) (old new : BookAndLoans) (k : DriverState) (m : Machine)
    → AreResolvable port disposition requests old k m → AreResolved disposition requests replies old new → AreResolvedInMachine port disposition requests replies old new k m
meet laws port disposition [] fit replies old new k m may (none, is) = record {
  steps = [];
  parked = k.awaiting_disposition;
  steps_are_enabled = tt;
  steps_are_of_port = All-nil (IsResolveStep port);
  backed = λ d. laws.empty_steps_are_backed d m;
  driver_relation = may.driver_relation;
  parked_of_others_is_kept = λ q ne. refl;
  parked_was_parked_and_not_freed = λ id here. (here, λ e none goes same. nowhere e none);
  book = subst (λ (h : BookAndLoans). BookRelation h.book m.book) (sym is) may.book_relation;
  loans_agree = λ frame. may.loans_agree frame ∙ ap (λ (h : BookAndLoans). lent_to h.table frame) (sym is);
  newly_kept = [];
  newly_kept_are_kept = refl;
  loans_of_newly_kept = ap (λ (h : BookAndLoans). h.kept) is ∙ sym (append-nil old.kept);
  loans_differ_in_request = λ i j d lt below. absurd (omega (arith, lt, below));
  newly_kept_are_of_requests = λ e here. absurd (nowhere e here);
  answers_are_as_decided = λ e o here. absurd (nowhere (Answer e o) here);
  requeues_are_as_decided = λ e here. absurd (nowhere (WaitAgain e) here);
  replies_match = record { answers = []; is_permutation = IsPermutation-refl []; ordered = λ i j d lt below. absurd (omega (arith, lt, below)); replies_are_of_answers = none };
}
meet laws port disposition (request ∷ rest) fit replies old new k m may (mid, its, later, split, meets, more) =
    meet_one laws port disposition request rest old mid new its later replies k m may split
    (λ n machine next. meet laws port disposition rest (λ e there. fit e (contains_there request rest e there)) later mid new n machine next more)
    (fit request (first_here request rest)) (disposition request.request) refl meets

-- Where no loan is kept, and who was parked of the port are issued ones among these, none of the port is.
pub none_parked : (port : Port) (disposition : PendingRequest → Disposition) (requests : List BookEntry) → AllFit disposition requests → (replies : List Reply) (old new : BookAndLoans) (k : DriverState) (m : Machine)
    (r : AreResolvedInMachine port disposition requests replies old new k m) → ((e : PendingRequest) → completes_keeping_loan (disposition e) e ≡ false)
    → ((id : RequestId) → Contains (k.awaiting_disposition port.0) id → (e : BookEntry) × Contains requests e × (e.request.id ≡ id) × (e.request.issued ≡ true)) → r.parked port.0 ≡ []
none_parked port disposition requests fit replies old new k m r quiet its = nobody (r.parked port.0) (λ id here.
    let s = r.parked_was_parked_and_not_freed id here in
    let w = its id s.0 in
    s.1 w.0 w.1 (λ waits. false≢true (sym ((fit w.0 w.1).waits waits) ∙ w.3), quiet w.0.request) w.2)
