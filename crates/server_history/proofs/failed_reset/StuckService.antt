-- A service of a server since a reset that got stuck: the requests of its dead ports are told, port by port.
use Rattle.std.proofs.Common.{ℕ, true, false, ◌≡◌, ◌≢◌, ◌+◌, ◌<◌, ◌≤◌, ◌++◌, List, [], ◌∷◌, Option, None, length, get_or, append_assoc, append-nil, refl, sym, ap, ◌∙◌, subst, arith, ⊎_elim, eq-eqb, inl, inr}
use Rattle.std.specs.List.{All, Contains}
use Rattle.std.proofs.lemmas.Bool.{cases_eq, false≢true, cases_lt}
use Rattle.std.proofs.lemmas.List.Elements.{All-append, All-contains, All-contains_itself, All-nil, All-weaker}
use Rattle.std.proofs.lemmas.List.Sorted.{IsPermutation-refl}
use Rattle.ata_types.specs.declared.Port.{Port}
use Rattle.ata_types.specs.declared.PortState.TheVariants.{Dead, Absent, Foreign, Ready as ReadyState, Unfit}
use Rattle.ata_types.specs.declared.request.ClientId.{ClientId}
use Rattle.ata_types.specs.declared.request.Frame.{Frame}
use Rattle.ata_types.specs.declared.request.Outcome.TheVariants as outcome
use Rattle.ata_types.specs.declared.request.Reply.{Reply}
use Rattle.ata_types.specs.declared.request.RequestId.{RequestId}
use Rattle.refinement.specs.Relation.{port_at}
use Rattle.refinement.specs.Fragments.{driver_state_of}
use Rattle.refinement.specs.Driver.{HasNoSlot, TapeBacksSteps, DriverState}
use Rattle.block_machine.specs.Events.{AllEnabled, AnswersService, AbstractState, Replied, Service}
use Rattle.block_machine.specs.Histories.{IsReachable, JointEvent, JointState, joint_state_after}
use Rattle.block_machine.specs.Expected.{after}
use Rattle.block_machine.specs.State.{Machine, Pending}
use Rattle.block_machine.specs.Steps.{Step, WaitAgain, Answer}
use Rattle.dma_frames.specs.Loan.{Lending}
use Rattle.dma_frames.specs.FrameTables.{OwnersAndLoans}
use Rattle.host_boot.specs.TakeOver.{probe_result_of}
use Rattle.host_boot.specs.declared.ProbeResult.{ProbeResult}
use Rattle.host_boot.specs.declared.ProbeResult.TheVariants.{Ready, Unready, Unserved}
use Rattle.identify.specs.declared.DiskInfo.{DiskInfo}
use Rattle.request_queue.specs.BookEntries.{BookEntry, IsWellFormedEntry, is_of_port}
use Rattle.request_queue.specs.Dispositions.{disposition_of, disposition_of_unfailed, BookAndLoans, AreResolved}
use Rattle.request_queue.specs.BookRelation.{EntryRelation}
use Rattle.request_queue.specs.declared.PendingRequest.{PendingRequest}
use Rattle.request_queue.specs.declared.disposition.Disposition.{Disposition}
use Rattle.request_queue.specs.declared.disposition.Disposition.TheVariants.{Complete, Requeue}
use Rattle.request_queue.specs.declared.disposition.Revalidation.{Revalidation}
use Rattle.request_queue.specs.declared.disposition.Revalidation.TheVariants.{SameDisk, DiskLost, Dead as NoEnd}
use Rattle.server_history.specs.Histories.{ExtendsToStuck, LeadsToServer}
use Rattle.block_machine.specs.Ports.{MayBecomeInService, Ports, SamePort}
use Rattle.driver_history.specs.Histories.{IsForeignOrUnfit, IsServedAndNotDead, ProbesDisk}
use Rattle.driver_history.specs.AccessTrace.{UsesPortsAndNotGhc, WritesNeitherCmdNorSctl}
use Rattle.server_history.proofs.state.HistorySteps.{lead_by, ports_same}
use Rattle.server_history.proofs.healthy_turn.CallPart.{none_last}
use Rattle.server_history.proofs.state.CallEvidence.{no_evidence, told_by, uninterrupted}
use Rattle.adapter.specs.declared.access.DeviceStep.{DeviceStep}
use Rattle.adapter.specs.Device.{Device}
use Rattle.std.proofs.lemmas.List.{set_past}
use Rattle.server_history.proofs.recovery_turn.ReplacedPort.{is_listed}
use Rattle.server_history.specs.Prerequisites.{PrerequisiteLaws}
use Rattle.server_history.specs.ResolvedRequests.{IsResolveStep, AreResolvable, AreResolvedInMachine, completes_keeping_loan, loans_newest_first}
use Rattle.server_history.specs.ErrorHandling.{book_and_loans_of, requests_of}
use Rattle.server_history.specs.Resets.{IsResetRevalidation, MayResolve, ResolvesEachPort, ResolvesPort, with_book_and_loans}
use Rattle.server_history.specs.ServerState.{KeptRequestsRelation, ServerState, MachineRelation, is_served, quarantined_at, ports_of, state_of, RevokedMarkInvariant}
use Rattle.server_history.specs.StuckServer.{ServerInvariant, StuckInvariant}
use Rattle.server_history.proofs.failed_reset.ServerBook.{kept_other, kept_same, left, may_settle, settles_on}
use Rattle.server_history.proofs.failed_reset.DeadPortSteps.{IsDeath, death_lawful, deaths_grounded, deaths_unplug_none}
use Rattle.server_history.proofs.state.AnswerSteps.{IsAnswerOf, answers_belong, answers_issue_none, answers_lawful, answer_told}
use Rattle.server_history.proofs.recovery_turn.MendedMachine.{deciding_leaves, fates_owners}
use Rattle.server_history.proofs.any_turn.JoinedParts.{AreToldBelow, told_then}
use Rattle.server_history.proofs.dispositions.MoreKeptLoans.{more_kept}
use Rattle.server_history.proofs.state.FirstMembers.{nowhere}
use Rattle.server_history.proofs.dispositions.FittingFates.{fits_each, kept_dead_alone}
use Rattle.server_history.proofs.dispositions.MetFates.{loans_in, meet, nobody, none_parked}
use Rattle.server_history.proofs.dispositions.RemainingBook.{WasIn, its_requests, marked_from, was_itself, was_more}
use Rattle.server_history.proofs.failed_reset.StuckInstant.{booked_then, either, holds_off, never_ready, never_troubled}
use Rattle.server_history.proofs.state.PairedLists.{at_left, at_right}
use Rattle.server_history.proofs.state.RevokedMarks.{tells_of}
use Rattle.server_history.proofs.state.ListMembers.{in_filter}

-- ---- what a dead port's requests may expect

dead_prospect : (was : Option DiskInfo) (found : ProbeResult) (revalidation : Revalidation) → IsResetRevalidation was found revalidation → found ≡ Unready Dead → revalidation ≡ NoEnd
dead_prospect was found SameDisk (before, info, _, is, _) dead = let z : Ready info ≡ Unready Dead = sym is ∙ dead in absurd cc
dead_prospect was found DiskLost x dead = absurd (x.0 dead)
dead_prospect was found NoEnd x dead = refl

-- a port that isn't dead has another prospect
other_prospect : (was : Option DiskInfo) (found : ProbeResult) (revalidation : Revalidation) → IsResetRevalidation was found revalidation → found ≢ Unready Dead → revalidation ≢ NoEnd
other_prospect was found revalidation expects alive is = alive (subst (IsResetRevalidation was found) is expects)

module _ (laws : PrerequisiteLaws) (s : ServerState) (t : StuckInvariant s) where
  abbrev b : ServerInvariant s
  b = t.server_invariant

  -- the server, with these holdings of all ports
  abbrev with_all : OwnersAndLoans → List (List Lending) → List BookEntry → ServerState
  with_all table kept book = record s { table = table; kept_loans = kept; book = book }

  -- Requests of ports below this number were told by these steps, and so it came to this server, by these replies.
  record HaveEnded (m : Machine) (n : ℕ) (c : ServerState) (replies : List Reply) : Type 0 where
    steps : List Step
    may : AllEnabled m steps
    stands : MachineRelation c (after m steps)
    backed : TapeBacksSteps s.device s.device m steps
    deaths : All (IsAnswerOf (IsDeath (ports_of s))) steps
    told : AreToldBelow n steps replies
    settle : MayResolve c
    settings : c ≡ with_all c.table c.kept_loans c.book
    owners : c.table.owners ≡ s.table.owners
    from : (e : BookEntry) → Contains c.book e → WasIn s.book e
    emptied : (q : Port) → q.0 < n → (e : BookEntry) → Contains c.book e → e.request.port ≢ q

  begin : (m : Machine) → MachineRelation s m → HaveEnded m 0 s []
  begin m is = record {
    steps = [];
    may = tt;
    stands = is;
    backed = laws.empty_steps_are_backed s.device m;
    deaths = All-nil (IsAnswerOf (IsDeath (ports_of s)));
    told = record { answers = []; permuted = IsPermutation-refl []; ordered = λ i j d lt below. absurd (omega (arith, lt, below)); low = All-nil (λ a. a.0.request.port.0 < 0); told = refl };
    settle = may_settle s b;
    settings = refl;
    owners = refl;
    from = was_itself s.book;
    emptied = λ q small. absurd (omega (arith, small));
  }

  -- a request is of a served port
  served_one : (e : BookEntry) → Contains s.book e → is_served (probe_result_of s.probe_results e.request.port.0) ≡ true
  served_one e here = All-contains (λ (x : BookEntry). is_served (probe_result_of s.probe_results x.request.port.0) ≡ true) s.book e b.requests_are_of_served_ports here

  module _ (m : Machine) (reached : IsReachable m) (n : ℕ) (low : n < 4) (table : OwnersAndLoans) (kept : List (List Lending)) (book : List BookEntry) (before its : List Reply) (mid : ServerState)
      (p : HaveEnded m n (with_all table kept book) before) (one : ResolvesPort (port_at n) its (with_all table kept book) mid) where
    abbrev c : ServerState
    c = with_all table kept book

    abbrev new : ServerState
    new = with_book_and_loans (port_at n) one.book_and_loans_after c

    abbrev disposition : PendingRequest → Disposition
    disposition = disposition_of None one.revalidation

    abbrev requests : List BookEntry
    requests = requests_of (port_at n) book

    abbrev w : Machine
    w = after m p.steps

    w_reached : IsReachable w
    w_reached = laws.steps_and_accesses.reachable_stays_reachable m p.steps reached p.may

    abbrev k : DriverState
    k = driver_state_of p.stands.uses p.stands.awaiting_disposition s.device

    of_its : (e : BookEntry) → Contains requests e → Contains book e × (e.request.port ≡ port_at n)
    of_its = (its_requests (port_at n) c p.settle.book_is_well_formed p.settle.entries_are_well_formed).here

    -- a port that isn't served has none
    none_unserved : probe_result_of s.probe_results n ≡ Unserved → (e : BookEntry) → Contains book e → e.request.port.0 ≡ n → ⊥
    none_unserved unserved e here own =
        let x = p.from e here in
        false≢true (sym (ap is_served unserved) ∙ ap (λ (q : ℕ). is_served (probe_result_of s.probe_results q)) (sym own ∙ ap (λ (q : Port). q.0) x.port) ∙ served_one x.was x.there)

    ends_dead : probe_result_of s.probe_results n ≡ Unready Dead → (e : PendingRequest) → disposition e ≡ Complete outcome.PortDead
    ends_dead dead e = ap (λ (x : Revalidation). disposition_of_unfailed x e) (dead_prospect _ (probe_result_of s.probe_results n) one.revalidation one.is_revalidation dead)

    keeps_issued : probe_result_of s.probe_results n ≡ Unready Dead → (e : PendingRequest) → completes_keeping_loan (disposition e) e ≡ e.issued
    keeps_issued dead e = ap (λ (f : Disposition). completes_keeping_loan f e) (ends_dead dead e)

    -- on a port that isn't served no loan is kept
    quiet : probe_result_of s.probe_results n ≢ Unready Dead → (e : PendingRequest) → completes_keeping_loan (disposition e) e ≡ false
    quiet alive e = kept_dead_alone None one.revalidation e (other_prospect _ (probe_result_of s.probe_results n) one.revalidation one.is_revalidation alive)

    not_dead : probe_result_of s.probe_results n ≡ Unserved → probe_result_of s.probe_results n ≢ Unready Dead
    not_dead unserved dead = let z : Unserved ≡ Unready Dead = sym unserved ∙ dead in cc

    unserved : (e : BookEntry) → Contains requests e → completes_keeping_loan (disposition e.request) e.request ≡ false → HasNoSlot p.stands.uses e.request.id
    unserved e here never = ⊎_elim
        (λ none. absurd (none_unserved none e (of_its e here).0 (ap (λ (q : Port). q.0) (of_its e here).1)))
        (λ dead.
        let x = at_left EntryRelation book w.book p.stands.book e (of_its e here).0 in
        let waits : x.0.issued ≡ false = x.2.issued ∙ sym (keeps_issued dead e.request) ∙ never in
        subst (HasNoSlot p.stands.uses) x.2.id (laws.slots.waiting_has_no_slot p.stands.uses w s.device w_reached p.stands.driver_relation.state_relation x.0 x.1 waits))
        (either s t.served_ports_are_dead n)

    may_meet : AreResolvable (port_at n) disposition requests (book_and_loans_of (port_at n) c) k w
    may_meet = record {
      reached = w_reached;
      driver_relation = p.stands.driver_relation;
      book_relation = p.stands.book;
      loans_agree = p.stands.lent;
      book_is_well_formed = p.settle.book_is_well_formed;
      entries_are_well_formed = p.settle.entries_are_well_formed;
      are_in_book_of_port = of_its;
      revoked_marks_agree = λ e there. tells_of w.rows s.grants e.request p.stands.rows (marked_from s.grants s.book b.revoked_marks_agree e (p.from e (of_its e there).0)).revoked_mark_agrees;
      are_in_order = (its_requests (port_at n) c p.settle.book_is_well_formed p.settle.entries_are_well_formed).earlier;
      released_have_no_slot = unserved;
    }

    met : AreResolvedInMachine (port_at n) disposition requests its (book_and_loans_of (port_at n) c) one.book_and_loans_after k w
    met = meet laws (port_at n) disposition requests (fits_each None one.revalidation requests) its (book_and_loans_of (port_at n) c) one.book_and_loans_after k w may_meet one.are_resolved

    abbrev z : Machine
    z = after w met.steps

    -- who was parked of a port that isn't dead is decided on
    none_left : probe_result_of s.probe_results n ≢ Unready Dead → met.parked n ≡ []
    none_left alive =
        none_parked (port_at n) disposition requests (fits_each None one.revalidation requests) its (book_and_loans_of (port_at n) c) one.book_and_loans_after k w met (quiet alive)
        (λ id here. absurd (nowhere id (subst (λ (ids : List RequestId). Contains ids id) (p.stands.only_dead_ports_park n alive) here)))

    -- ---- its steps

    its_death : (step : Step) → Contains met.steps step → IsResolveStep (port_at n) step → IsAnswerOf (IsDeath (ports_of s)) step
    its_death (Answer e o) here own = ⊎_elim
        (λ free. absurd (let x = met.answers_are_as_decided e o here in none_unserved free x.0 (of_its x.0 x.1).0 (ap (λ (q : Port). q.0) (of_its x.0 x.1).1)))
        (λ dead.
        let x = met.answers_are_as_decided e o here in
        let same : Complete outcome.PortDead ≡ Complete o = sym (ends_dead dead x.0.request) ∙ x.3 in
        let is : outcome.PortDead ≡ o = cc in
        (sym is, ap (λ (q : Port). state_of (probe_result_of s.probe_results q.0)) own ∙ ap state_of dead))
        (either s t.served_ports_are_dead n)
    its_death (WaitAgain e) here own = absurd (⊎_elim
        (λ free. let x = met.requeues_are_as_decided e here in none_unserved free x.0 (of_its x.0 x.1).0 (ap (λ (q : Port). q.0) (of_its x.0 x.1).1))
        (λ dead. let x = met.requeues_are_as_decided e here in let same : Complete outcome.PortDead ≡ Requeue = sym (ends_dead dead x.0.request) ∙ x.3 in cc)
        (either s t.served_ports_are_dead n))
    its_death step here own = absurd own

    its_deaths : All (IsAnswerOf (IsDeath (ports_of s))) met.steps
    its_deaths = All-weaker (Contains met.steps) (IsAnswerOf (IsDeath (ports_of s))) (λ step here. its_death step here (All-contains (IsResolveStep (port_at n)) met.steps step met.steps_are_of_port here)) met.steps (All-contains_itself met.steps)

    -- ---- the machine

    dies : (e : Pending) → Contains met.newly_kept e → (e.request.port ≡ port_at n) × (probe_result_of s.probe_results n ≡ Unready Dead)
    dies e here =
        let x = met.newly_kept_are_of_requests e here in (
          x.2.port ∙ (of_its x.0 x.1).1,
          ⊎_elim (λ free. absurd (false≢true (sym (quiet (not_dead free) x.0.request) ∙ x.3))) (λ dead. dead) (either s t.served_ports_are_dead n),
        )

    -- a loan that was kept is of another request
    crossed : (x y : Lending) → Contains (quarantined_at kept n) x → Contains (loans_newest_first met.newly_kept) y → x.request ≢ y.request
    crossed x y here there same =
        let old = p.stands.quarantine_relation.each_loan_has_its_request n x here in
        let e = loans_in met.newly_kept y there in
        let r = met.newly_kept_are_of_requests e.0 e.1 in
        let q = at_left EntryRelation book w.book p.stands.book r.0 (of_its r.0 r.1).0 in
        laws.frame_holders.kept_is_not_in_book w q.0 old.0 w_reached q.1 old.1
        (ap (λ (id : RequestId). id.0) (q.2.id ∙ sym r.2.id ∙ sym (ap (λ (l : Lending). l.request) e.2) ∙ sym same ∙ old.3.0))

    are_kept : KeptRequestsRelation s.probe_results new.kept_loans z.kept
    are_kept = subst (KeptRequestsRelation s.probe_results new.kept_loans) (sym met.newly_kept_are_kept)
        (more_kept (port_at n) s.probe_results s.probe_results kept new.kept_loans met.newly_kept w.kept p.stands.quarantine_relation
        (kept_same laws c mid (port_at n) its low p.settle one ∙ met.loans_of_newly_kept)
        (kept_other laws c mid (port_at n) its low p.settle one)
        p.stands.quarantine_relation.quarantine_ports_are_dead dies met.loans_differ_in_request crossed)

    leaves : (z.rows ≡ w.rows) × ((frame : Frame) → z.owner frame ≡ w.owner frame) × (z.next_id ≡ w.next_id)
    leaves = deciding_leaves (port_at n) w met.steps met.steps_are_of_port

    owners_then : one.book_and_loans_after.table.owners ≡ table.owners
    owners_then = fates_owners disposition requests its (book_and_loans_of (port_at n) c) one.book_and_loans_after one.are_resolved

    stands_then : MachineRelation new z
    stands_then = record {
      uses = p.stands.uses;
      slot_states_agree_unless_dead = p.stands.slot_states_agree_unless_dead;
      awaiting_disposition = met.parked;
      only_dead_ports_park = λ q alive. ⊎_elim
          (λ (same : q ≡ n). ap met.parked same ∙ none_left (λ dead. alive (ap (probe_result_of s.probe_results) same ∙ dead)))
          (λ (other : q ≢ n). met.parked_of_others_is_kept q other ∙ p.stands.only_dead_ports_park q alive)
          (cases_eq q n);
      driver_relation = met.driver_relation;
      book = met.book;
      quarantine_relation = are_kept;
      rows = leaves.0 ∙ p.stands.rows;
      owner = λ frame. leaves.1 frame ∙ p.stands.owner frame ∙ ap (λ (owners : List (Option ClientId)). get_or owners frame.0 None) (sym owners_then);
      lent = met.loans_agree;
      next_id_is = leaves.2 ∙ p.stands.next_id_is;
    }

    -- ---- its book

    from_then : (e : BookEntry) → Contains one.book_and_loans_after.book e → WasIn s.book e
    from_then e here =
        was_more s.book book e p.from ((left laws c mid (port_at n) its low p.settle one).from e here)

    none_here : (e : BookEntry) → Contains one.book_and_loans_after.book e → e.request.port.0 ≡ n → ⊥
    none_here e here own =
        let l = left laws c mid (port_at n) its low p.settle one in
        let x = l.from e here in
        let was_own : x.was.request.port.0 ≡ n = ap (λ (q : Port). q.0) (sym x.port) ∙ own in
        ⊎_elim
        (λ free. none_unserved free x.was x.there was_own)
        (λ dead.
        l.gone x.was outcome.PortDead (in_filter (λ (y : BookEntry). is_of_port (port_at n) y.request) book x.was x.there (eq-eqb x.was.request.port.0 n was_own)) (ends_dead dead x.was.request) e here x.id)
        (either s t.served_ports_are_dead n)

    emptied_then : (q : Port) → q.0 < n + 1 → (e : BookEntry) → Contains one.book_and_loans_after.book e → e.request.port ≢ q
    emptied_then q small e here own = ⊎_elim
        (λ (same : q.0 ≡ n). none_here e here (ap (λ (r : Port). r.0) own ∙ same))
        (λ (other : q.0 ≢ n).
        let x = (left laws c mid (port_at n) its low p.settle one).from e here in
        p.emptied q (omega (arith, small, other)) x.was x.there (sym x.port ∙ own))
        (cases_eq q.0 n)

    has_ended : HaveEnded m (n + 1) mid (before ++ its)
    has_ended = subst (λ (x : ServerState). HaveEnded m (n + 1) x (before ++ its)) (sym one.server_is) (record {
      steps = met.steps ++ p.steps;
      may = laws.steps_and_accesses.enabled_lists_join m met.steps p.steps p.may met.steps_are_enabled;
      stands = subst (MachineRelation new) (sym (laws.steps_and_accesses.after_joins m met.steps p.steps)) stands_then;
      backed = laws.backed_parts_join s.device s.device s.device m p.steps met.steps p.backed (met.backed s.device);
      deaths = All-append (IsAnswerOf (IsDeath (ports_of s))) met.steps p.steps its_deaths p.deaths;
      told = told_then n p.steps met.steps before its p.told met.replies_match (λ e o here. All-contains (IsResolveStep (port_at n)) met.steps (Answer e o) met.steps_are_of_port here);
      settle = subst MayResolve one.server_is (settles_on laws c mid (port_at n) its low p.settle one);
      settings = refl;
      owners = owners_then ∙ p.owners;
      from = from_then;
      emptied = emptied_then;
    })

  -- a port beyond the four has no request, and no loan is kept of it: it ends as it is
  module _ (m : Machine) (n : ℕ) (high : 4 ≤ n) (table : OwnersAndLoans) (kept : List (List Lending)) (book : List BookEntry) (before its : List Reply) (mid : ServerState)
      (p : HaveEnded m n (with_all table kept book) before) (one : ResolvesPort (port_at n) its (with_all table kept book) mid) where
    abbrev here : ServerState
    here = with_all table kept book

    none_beyond : (e : BookEntry) → Contains book e → e.request.port.0 ≢ n
    none_beyond e there own =
        let x = p.from e there in
        let low = b.served_are_below_4 x.was.request.port.0 (served_one x.was x.there) in
        let same = ap (λ (q : Port). q.0) x.port in
        omega (arith, high, low, same, own)

    meets_none : (its ≡ []) × (one.book_and_loans_after ≡ book_and_loans_of (port_at n) here)
    meets_none = subst (λ (list : List BookEntry). AreResolved (disposition_of None one.revalidation) list its (book_and_loans_of (port_at n) here) one.book_and_loans_after)
        (nobody (requests_of (port_at n) book) (λ e there.
        let x = (its_requests (port_at n) here p.settle.book_is_well_formed p.settle.entries_are_well_formed).here e there in
        none_beyond e x.0 (ap (λ (q : Port). q.0) x.1)))
        one.are_resolved

    same_then : mid ≡ here
    same_then =
        one.server_is ∙ ap (λ (now : BookAndLoans). with_book_and_loans (port_at n) now here) meets_none.1
        ∙ ap (λ (list : List (List Lending)). with_all table list book) (set_past kept n (quarantined_at kept n) (let four = p.settle.kept_loans_are_of_four_ports in omega (arith, four, high)))

    beyond_ended : HaveEnded m (n + 1) mid (before ++ its)
    beyond_ended =
        subst (λ (r : List Reply). HaveEnded m (n + 1) mid (before ++ r)) (sym meets_none.0)
        (subst (HaveEnded m (n + 1) mid) (sym (append-nil before))
        (subst (λ (x : ServerState). HaveEnded m (n + 1) x before) (sym same_then) (record {
          steps = p.steps;
          may = p.may;
          stands = p.stands;
          backed = p.backed;
          deaths = p.deaths;
          told = record {
            answers = p.told.answers;
            permuted = p.told.permuted;
            ordered = p.told.ordered;
            low = All-weaker (λ a. a.0.request.port.0 < n) (λ a. a.0.request.port.0 < n + 1) (λ a lt. omega (arith, lt)) p.told.answers p.told.low;
            told = p.told.told;
          };
          settle = p.settle;
          settings = refl;
          owners = p.owners;
          from = p.from;
          emptied = λ q small e there own. ⊎_elim
              (λ (same : q.0 ≡ n). none_beyond e there (ap (λ (r : Port). r.0) own ∙ same))
              (λ (other : q.0 ≢ n). p.emptied q (omega (arith, small, other)) e there own)
              (cases_eq q.0 n);
        })))

  -- ---- one after another

  next : (m : Machine) → IsReachable m → (n : ℕ) (c mid : ServerState) (before its : List Reply) → HaveEnded m n c before → ResolvesPort (port_at n) its c mid → HaveEnded m (n + 1) mid (before ++ its)
  next m reached n c mid before its p one =
      let from_all : HaveEnded m n (with_all c.table c.kept_loans c.book) before = subst (λ (x : ServerState). HaveEnded m n x before) p.settings p in
      let settles : ResolvesPort (port_at n) its (with_all c.table c.kept_loans c.book) mid = subst (λ (x : ServerState). ResolvesPort (port_at n) its x mid) p.settings one in
      ⊎_elim
      (λ (low : n < 4). has_ended m reached n low c.table c.kept_loans c.book before its mid from_all settles)
      (λ (high : 4 ≤ n). beyond_ended m n high c.table c.kept_loans c.book before its mid from_all settles)
      (cases_lt n 4)

  go : (m : Machine) → IsReachable m → (rest : List ProbeResult) (n : ℕ) (c new : ServerState) (before replies : List Reply) → ResolvesEachPort n rest replies c new → HaveEnded m n c before
      → HaveEnded m (n + length rest) new (before ++ replies)
  go m reached [] n c new before replies (none, same) p =
      subst (λ (r : List Reply). HaveEnded m (n + 0) new (before ++ r)) (sym none)
      (subst (HaveEnded m (n + 0) new) (sym (append-nil before))
      (subst (λ (x : ServerState). HaveEnded m (n + 0) x before) (sym same) (let is : n ≡ n + 0 = omega arith in subst (λ (i : ℕ). HaveEnded m i c before) is p)))
  go m reached (found ∷ rest) n c new before replies (mid, its, later, split, one, more) p =
      subst (λ (r : List Reply). HaveEnded m (n + length (found ∷ rest)) new (before ++ r)) (sym split)
      (subst (HaveEnded m (n + length (found ∷ rest)) new) (append_assoc before its later)
      (let is : (n + 1) + length rest ≡ n + length (found ∷ rest) = omega arith in
      subst (λ (i : ℕ). HaveEnded m i new ((before ++ its) ++ later)) is
      (go m reached rest (n + 1) mid new (before ++ its) later more (next m reached n c mid before its p one))))

  -- ---- the whole

  module _ (new : ServerState) (replies : List Reply) (settles : ResolvesEachPort 0 s.probe_results replies s new) where
    ended : (m : Machine) → IsReachable m → MachineRelation s m → HaveEnded m (length s.probe_results) new replies
    ended m reached is = let none : 0 + length s.probe_results ≡ length s.probe_results = omega arith in subst (λ (i : ℕ). HaveEnded m i new replies) none (go m reached s.probe_results 0 s new [] replies settles (begin m is))

    -- the server then
    abbrev n : ServerState
    n = with_all new.table new.kept_loans new.book

    same_server : new ≡ n
    same_server = (ended b.machine b.reached b.machine_relation).settings

    -- no request is left
    nobody_left : (m : Machine) → HaveEnded m (length s.probe_results) new replies → (e : BookEntry) → Contains new.book e → ⊥
    nobody_left m x e here =
        let w = x.from e here in
        x.emptied e.request.port (is_listed s.probe_results e.request.port.0 (ap (λ (q : Port). is_served (probe_result_of s.probe_results q.0)) w.port ∙ served_one w.was w.there)) e here refl

    nothing_left : (P : BookEntry → Type 0) → All P new.book
    nothing_left P = All-weaker (Contains new.book) P (λ e here. absurd (nobody_left b.machine (ended b.machine b.reached b.machine_relation) e here)) new.book (All-contains_itself new.book)

    stalled_then : StuckInvariant n
    stalled_then =
        let x = ended b.machine b.reached b.machine_relation in
        record {
          server_invariant = booked_then s s.grants new.table new.kept_loans new.book b b.rows_are_valid x.owners x.settle.kept_loans_are_of_four_ports x.settle.kept_loans_have_room (nothing_left (IsWellFormedEntry new.table)) x.settle.book_is_well_formed (nothing_left (RevokedMarkInvariant s.grants))
              (nothing_left (λ e. e.request.id.0 ≤ s.last_id)) (nothing_left (λ e. is_served (probe_result_of s.probe_results e.request.port.0) ≡ true)) (after b.machine x.steps) (laws.steps_and_accesses.reachable_stays_reachable b.machine x.steps b.reached x.may)
              (subst (λ (y : ServerState). MachineRelation y (after b.machine x.steps)) same_server x.stands);
          adapter_is_not_on = t.adapter_is_not_on;
          served_ports_are_dead = t.served_ports_are_dead;
        }

    -- ---- the event

    module _ (first : JointState Device) (past : List (JointEvent Device DeviceStep)) (leads : LeadsToServer first past s) where
      abbrev old : AbstractState
      old = (joint_state_after first past).abstract

      reached_old : IsReachable old.machine
      reached_old = laws.steps_and_accesses.history_machine_is_reachable s.wanted first past leads.history

      x : HaveEnded old.machine (length s.probe_results) new replies
      x = ended old.machine reached_old leads.state_is_at_history_end.machine_stands_for_it

      stands : MachineRelation n (after old.machine x.steps)
      stands = subst (λ (y : ServerState). MachineRelation y (after old.machine x.steps)) same_server x.stands

      same_ports : (port : Port) → SamePort old.ports (ports_of s) port
      same_ports = ports_same old.ports (ports_of s) leads.state_is_at_history_end.ports_are

      was_never : (port : Port) → old.ports.state port ≢ ReadyState
      was_never port ready = never_ready s t.served_ports_are_dead port.0 (ap (λ (p : Ports). p.state port) (sym leads.state_is_at_history_end.ports_are) ∙ ready)

      becomes : (port : Port) → MayBecomeInService old.ports (told_by s.device old.ports) (ports_of s) port
      becomes port =
          let same = same_ports port in (
            (λ dead. same),
            (λ alive. (
              record {
                served_is_unchanged = same.0;
                dead_exactly_if_stuck = (λ dead. absurd (alive (sym same.1 ∙ dead)), λ here. absurd (nowhere port here));
                disk_is_remembered_unless_ready = λ unready. (same.2, same.3);
              },
              inl same,
            )),
          )

      nobody_waits : (port : Port) (e : Pending) → Contains (after old.machine x.steps).book e → e.request.port ≢ port
      nobody_waits port e here own = let a = at_right EntryRelation new.book (after old.machine x.steps).book stands.book e here in nobody_left old.machine x a.0 a.1

      answers : AnswersService old (told_by s.device old.ports) x.steps replies (record { machine = after old.machine x.steps; ports = ports_of s })
      answers = record {
        replies_match = record { answers = x.told.answers; is_permutation = x.told.permuted; ordered = x.told.ordered; replies_are_of_answers = x.told.told };
        dead_ports_tell_only_port_dead = λ e o here is. (answer_told (IsDeath (ports_of s)) x.steps x.deaths e o here).0;
        unplugged_outcome_empties_port = deaths_unplug_none (ports_of s) x.steps x.deaths (after old.machine x.steps);
        none_is_due_where_ready = λ port ready. absurd (never_ready s t.served_ports_are_dead port.0 ready);
        empty_unless_ready = λ port unready. nobody_waits port;
        answers_ok_what_had_ended = λ port ready. absurd (never_ready s t.served_ports_are_dead port.0 ((same_ports port).1 ∙ ready));
        port_is_serviced = becomes;
        shown_disk_was_in_or_came = λ port. inl (same_ports port);
      }

      -- what isn't dead isn't served, so that no disk is tried
      probes : (port : Port) → old.ports.served port ≡ true → ProbesDisk [] (record { device = s.device; abstract = old }) (ports_of s) s.device port
      probes port its = record {
        absent_with_device_is_booted_dead_or_has_plug_event = λ absent. absurd (let y : Dead ≡ Absent = sym (is_dead port its) ∙ absent in cc);
        absent_gets_first_fis_or_dead_or_no_device = λ absent. absurd (let y : Dead ≡ Absent = sym (is_dead port its) ∙ absent in cc);
        missing_disk_makes_absent_or_dead = λ bad. absurd (not_bad port its bad);
        changed_disk_is_booted_or_absent_or_dead = λ bad. absurd (not_bad port its bad);
      }
        where
          is_dead : (port : Port) → old.ports.served port ≡ true → old.ports.state port ≡ Dead
          is_dead port its = ap (λ (p : Ports). p.state port) leads.state_is_at_history_end.ports_are ∙ ap state_of (t.served_ports_are_dead port.0 (ap (λ (p : Ports). p.served port) (sym leads.state_is_at_history_end.ports_are) ∙ its))

          not_bad : (port : Port) → old.ports.served port ≡ true → IsForeignOrUnfit old.ports port → ⊥
          not_bad port its (inl foreign) = let y : Dead ≡ Foreign = sym (is_dead port its) ∙ foreign in cc
          not_bad port its (inr (cause, unfit)) = let y : Dead ≡ Unfit cause = sym (is_dead port its) ∙ unfit in cc

      event : (h : JointEvent Device DeviceStep) × (h.event.call ≡ Service) × (h.event.result ≡ Replied replies) × LeadsToServer first (h ∷ past) n
      event = lead_by laws first past s n Service (Replied replies) x.steps refl refl leads (holds_off n stalled_then.server_invariant t.served_ports_are_dead t.adapter_is_not_on)
          x.may (answers_belong (IsDeath (ports_of s)) Service (ports_of s) (λ e o death. tt) x.steps x.deaths) (none_last x.steps (λ id. answers_issue_none (IsDeath (ports_of s)) id x.steps x.deaths))
          (answers_lawful (IsDeath (ports_of s)) old no_evidence (ports_of s) (death_lawful (ports_of s) old no_evidence) x.steps x.deaths)
          answers
          (deaths_grounded (ports_of s) (told_by s.device old.ports) x.steps x.deaths)
          []
          (refl, All-nil (UsesPortsAndNotGhc (IsServedAndNotDead old.ports)))
          (λ port. All-nil (WritesNeitherCmdNorSctl port))
          (λ port ready. absurd (never_ready s t.served_ports_are_dead port.0 ready))
          (λ port. record {
            finds_done = λ ready. absurd (was_never port ready);
            lone_plain_faults_are_told_unless_dead = λ alone. absurd (was_never port alone.ready);
            probes_disk = λ its none. probes port its;
            boots_anew = ((λ ready. absurd (was_never port ready)), inl (same_ports port));
            loses_no_error = never_troubled s t.served_ports_are_dead (told_by s.device old.ports) (record { device = s.device; abstract = old }) (ports_of s) s.device port leads.state_is_at_history_end.ports_are (never_ready s t.served_ports_are_dead port.0);
            runs_well_anew = λ i. absurd (uninterrupted s.device old.ports port i);
            handles_evidence = λ ready. absurd (was_never port ready);
          })
          x.backed
          stands

    pub stalled_service : ExtendsToStuck s new Service (Replied replies)
    stalled_service = subst (λ (y : ServerState). ExtendsToStuck s y Service (Replied replies)) (sym same_server) (record { stuck_invariant = stalled_then; extends_history = event })
