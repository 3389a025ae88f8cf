-- A request that is accepted adds an event, and the server keeps what it keeps.
use Rattle.std.proofs.Common.{ℕ, ◌≡◌, ◌≢◌, ◌+◌, ◌≤◌, ◌<◌, ◌==◌, cond, Bool, true, false, List, [], ◌∷◌, ◌++◌, not, Option, Some, None, Ok, inr, refl, sym, ap, ◌∙◌, subst, arith, ⊎_elim, eqb-true, eq-eqb}
use Rattle.std.specs.List.{All, Contains, list_any}
use Rattle.std.specs.Prelude.{slice_index_or}
use Rattle.std.proofs.lemmas.Bool.{cond-true, cond-false, false≢true, ne_eqb, or_cases}
use Rattle.std.proofs.lemmas.List.Elements.{All-contains, All-push, All-weaker}
use Rattle.ata_types.specs.declared.Port.{Port}
use Rattle.ata_types.specs.declared.PortState.TheVariants.{Ready as ReadyState}
use Rattle.ata_types.specs.declared.grant.GrantRow.{GrantRow}
use Rattle.ata_types.specs.declared.request.ClientId.{ClientId}
use Rattle.ata_types.specs.declared.request.Frame.{Frame}
use Rattle.ata_types.specs.declared.request.Request.{Request}
use Rattle.ata_types.specs.declared.request.RequestId.{RequestId}
use Rattle.adapter.specs.Device.{Device}
use Rattle.adapter.specs.declared.access.DeviceStep.{DeviceStep}
use Rattle.block_machine.specs.DueRequests.{NoneDue, is_plain, requests_of_port}
use Rattle.block_machine.specs.Events as events
use Rattle.block_machine.specs.Events.{Submit, Submitted, NoneDueWhereReady, issues_id}
use Rattle.block_machine.specs.Histories.{JointState, JointEvent, IsReachable, joint_state_after}
use Rattle.block_machine.specs.Expected.{after}
use Rattle.block_machine.specs.Ports.{SamePorts}
use Rattle.block_machine.specs.Refusals.{AdmissionContext, IsAcceptable}
use Rattle.block_machine.specs.Rules.{IsNamed}
use Rattle.block_machine.specs.State as machine
use Rattle.block_machine.specs.State.{Machine}
use Rattle.block_machine.specs.Steps.{Step, Accept, MayAccept, after_step, lend}
use Rattle.block_machine.specs.declared.due.Unanswered.{Unanswered}
use Rattle.server_history.proofs.state.ListMembers.{append_in, contains_there, some_in}
use Rattle.refinement.specs.Fragments.{IsDrivenBy, driver_state_of}
use Rattle.dma_frames.specs.FrameTables.{OwnersAndLoans, lent_to, SetsLoanOnly}
use Rattle.host_boot.specs.TakeOver.{probe_result_of}
use Rattle.host_boot.specs.declared.ProbeResult.{ProbeResult}
use Rattle.request_queue.specs.BookEntries.{BookEntry, IsWellFormedEntry, IsEarlier, as_unanswered, unanswered_of, due_ids}
use Rattle.driver_history.specs.Histories.{IssuesDue, StoresOrWritesSactOrCi}
use Rattle.driver_history.specs.AccessTrace.{WritesOneToNoTroubleBit, WritesNeitherCmdNorSctl}
use Rattle.refinement.specs.PreservedParts.{DoesNotWrite}
use Rattle.hba_regs.specs.declared.reg.Reg.TheVariants.{Ghc, Px}
use Rattle.hba_regs.specs.declared.reg.PortReg.TheVariants.{Ci, Sact}
use Rattle.hba_regs.specs.declared.reg.PortReg.TheVariants as register
use Rattle.adapter.specs.Access.{Access}
use Rattle.adapter.specs.Access.Access.{Loading, Reading, Storing, Writing}
use Rattle.server_history.specs.Prerequisites.{PrerequisiteLaws}
use Rattle.server_history.specs.Histories.{ExtendsToNoneDue, LeadsToServer}
use Rattle.ncq.specs.Batches.{IsCommandIssueAccess}
use Rattle.server_history.specs.IssuingAndAnswering.{AcceptsAndIssues, IssuesDueOfPort, accepted_as, with_accepted}
use Rattle.server_history.specs.ServerState.{ServerState, InCallInvariant, MachineRelation, InvariantWithNoneDue, mode_in, ports_of, admission_context, state_of, used_for, RevokedMarkInvariant}
use Rattle.slots.specs.declared.SlotUse.{SlotUse}
use Rattle.block_machine.specs.declared.due.QueueMode.{QueueMode}
use Rattle.server_history.proofs.state.DueRequests.{none_due}
use Rattle.server_history.proofs.plain_calls.RefusalsAndBytes.{reached, situation_is}
use Rattle.server_history.proofs.state.TurnAccesses.{issuing_is, issuing_leaves}
use Rattle.server_history.proofs.state.HistorySteps.{holding, kept_then, lead_by, ports_same, with_device}
use Rattle.server_history.proofs.plain_calls.AcceptableRequests.{has_room, is_accepted, is_new, on_ready, request_in, entry_in, unlent}
use Rattle.server_history.proofs.plain_calls.IssueRounds.{AreIssued, accepts_on, any_append, belong_on, dues, dues_carried, each_driven, each_issued, each_settings, last_on, lawful_on, or_none, settled}
use Rattle.server_history.proofs.state.PortSlots.{ready_found, served_request, serves_used, used_ready}
use Rattle.server_history.proofs.state.CallEvidence.{no_evidence, told_by, uninterrupted}
use Rattle.server_history.proofs.state.FirstMembers.{first_here}

-- ---- what issuing writes

-- neither GHC, nor a bit that tells of trouble
pub issuing_spares_host : (port : Port) (access : Access) → IsCommandIssueAccess port access → DoesNotWrite Ghc access
issuing_spares_host port (Writing r v) here =
    λ q. ⊎_elim (λ (is : r ≡ Px port Sact). let z : Px port Sact ≡ Ghc = sym is ∙ q in absurd cc) (λ (is : r ≡ Px port Ci). let z : Px port Ci ≡ Ghc = sym is ∙ q in absurd cc) here
issuing_spares_host port (Storing at bytes) here = tt
issuing_spares_host port (Loading at bytes) here = absurd here
issuing_spares_host port (Reading r v) here = absurd here

pub issuing_clears_none : (port other : Port) (access : Access) → IsCommandIssueAccess port access → WritesOneToNoTroubleBit other access
issuing_clears_none port other (Writing r v) here = record {
  pxis_trouble_is_kept = λ q. absurd (⊎_elim (λ (is : r ≡ Px port Sact). let z : Px port Sact ≡ Px other register.Is = sym is ∙ q in absurd cc) (λ (is : r ≡ Px port Ci). let z : Px port Ci ≡ Px other register.Is = sym is ∙ q in absurd cc) here);
  serr_trouble_is_kept = λ q. absurd (⊎_elim (λ (is : r ≡ Px port Sact). let z : Px port Sact ≡ Px other register.Serr = sym is ∙ q in absurd cc) (λ (is : r ≡ Px port Ci). let z : Px port Ci ≡ Px other register.Serr = sym is ∙ q in absurd cc) here);
}
issuing_clears_none port other (Storing at bytes) here = tt
issuing_clears_none port other (Loading at bytes) here = absurd here
issuing_clears_none port other (Reading r v) here = absurd here

-- ---- lending

pub any_in : {X : Type 0} (p : X → Bool) (xs : List X) → list_any p xs ≡ true → (x : X) × Contains xs x × (p x ≡ true)
any_in p [] h = absurd (false≢true h)
any_in p (y ∷ ys) h = ⊎_elim
    (λ here. (y, first_here y ys, here))
    (λ later. let r = any_in p ys later in (r.0, contains_there y ys r.0 r.1, r.2))
    (or_cases (p y) (list_any p ys) h)

lends_alike : (a : machine.Accepted) (lent : Frame → Option RequestId) (old new : OwnersAndLoans) → ((f : Frame) → lent f ≡ lent_to old f) → SetsLoanOnly old new a.asked.frames.items (Some a.id) → (f : Frame) → lend a lent f ≡ lent_to new f
lends_alike a lent old new alike lends f = by (list_any (λ g. g.0 == f.0) a.asked.frames.items) refl
  where
    frames : List Frame
    frames = a.asked.frames.items

    by : (b : Bool) → list_any (λ g. g.0 == f.0) frames ≡ b → lend a lent f ≡ lent_to new f
    by true is =
        let x = any_in (λ (g : Frame). g.0 == f.0) frames is in
        let same : x.0 ≡ f = ap (λ (n : ℕ). record { 0 = n }) (eqb-true x.0.0 f.0 x.2) in
        cond-true (list_any (λ g. g.0 == f.0) frames) (Some a.id) (lent f) is
        ∙ sym (All-contains (λ g. lent_to new g ≡ Some a.id) frames f lends.these_are_lent (subst (λ (g : Frame). Contains frames g) same x.1))
    by false is =
        cond-false (list_any (λ g. g.0 == f.0) frames) (Some a.id) (lent f) is
        ∙ alike f ∙ sym (lends.others_are_kept f (λ here. false≢true (sym is ∙ some_in (λ (g : Frame). g.0 == f.0) frames f here (eq-eqb f.0 f.0 refl))))

-- ---- the server with one more

-- the others' own requests are as many where one of another port goes last
own_longer : (q : Port) (book : List BookEntry) (e : BookEntry) → e.request.port ≢ q → requests_of_port q (unanswered_of (book ++ e ∷ [])) ≡ requests_of_port q (unanswered_of book)
own_longer q [] e other = cond-false (e.request.port.0 == q.0) (as_unanswered e.request ∷ []) [] (ne_eqb e.request.port.0 q.0 (λ same. other (ap (λ (n : ℕ). record { 0 = n }) same)))
own_longer q (x ∷ book) e other =
    ap (λ (us : List Unanswered). cond (x.request.port.0 == q.0) (as_unanswered x.request ∷ us) us) (own_longer q book e other)

module _ (laws : PrerequisiteLaws) (s : ServerState) (k : InCallInvariant s) (r : Request) (acc : IsAcceptable (admission_context s) r) (row : GrantRow) (named : IsNamed s.grants r row) (port : Port) (port_is : row.port ≡ port)
    (id : RequestId) (id_is : id.0 ≡ s.last_id + 1) (table : OwnersAndLoans) (lends : SetsLoanOnly s.table table r.frames.items (Some id)) where
  abbrev e : BookEntry
  e = accepted_as port r id

  abbrev more : ServerState
  more = with_accepted port r id table s

  ready : state_of (probe_result_of s.probe_results port.0) ≡ ReadyState
  ready = on_ready s r acc row named port port_is

  its : IsWellFormedEntry table e
  its = is_accepted s r acc row named port port_is id id_is laws k table lends

  earlier : All (λ x. IsEarlier x e) s.book
  earlier i d small = let h = k.ids_were_handed_out i d small in omega (arith, h, id_is)

  accepted : All (IsWellFormedEntry table) (s.book ++ e ∷ [])
  accepted =
      All-push (IsWellFormedEntry table) s.book e
      (laws.lending_keeps_well_formed s.table table s.book r.frames.items (Some id) lends (unlent s r acc row named port port_is) k.entries_are_well_formed) its

  module _ (m : Machine) (was : IsReachable m) (is : MachineRelation s m) where
    abbrev request : machine.Accepted
    request = request_in s r acc row named port port_is id id_is m

    fresh : MayAccept m request
    fresh = is_new s r acc row named port port_is id id_is laws m was is

    abbrev next : Machine
    next = after_step m (Accept request)

    reached_next : IsReachable next
    reached_next = laws.steps_and_accesses.reachable_stays_reachable m (Accept request ∷ []) was (tt, fresh)

    stands_next : MachineRelation more next
    stands_next = record {
      uses = is.uses;
      slot_states_agree_unless_dead = is.slot_states_agree_unless_dead;
      awaiting_disposition = is.awaiting_disposition;
      only_dead_ports_park = is.only_dead_ports_park;
      driver_relation = laws.slots.accepted_agrees (driver_state_of is.uses is.awaiting_disposition s.device) m request is.driver_relation;
      book = laws.accept_keeps_book_relation s.book m e request is.book (entry_in s r acc row named port port_is id id_is m);
      quarantine_relation = is.quarantine_relation;
      rows = is.rows;
      owner = λ f. is.owner f ∙ sym (ap (λ (owners : List (Option ClientId)). slice_index_or owners f.0 None) lends.owners_are_kept);
      lent = lends_alike request m.lent s.table table is.lent lends;
      next_id_is = let n = is.next_id_is in omega (arith, n);
    }

  -- each used slot's command is of its request's kind still: the new request has no slot
  kinds_then : (q : Port) (slot : ℕ) (used : SlotUse) (h : BookEntry) → used_for s.slots q.0 slot ≡ Some used → Contains (s.book ++ e ∷ []) h → h.request.id ≡ used.id → used.queued ≡ not (is_plain (mode_in s q) h.request.op)
  kinds_then q slot used h is there same = ⊎_elim
      (λ (old : Contains s.book h). k.slots_queue_as_asked q slot used h is old same)
      (λ (new : h ≡ e).
      let ready = used_ready s q.0 slot used k is in
      let x = served_request s k.machine q.0 slot k.machine_relation ready used.id (serves_used s k.machine q.0 k.machine_relation ready slot used is) in
      let low = All-contains (λ (y : BookEntry). y.request.id.0 ≤ s.last_id) s.book x.request k.ids_were_handed_out x.there in
      let its : x.request.request.id.0 ≡ id.0 = ap (λ (i : RequestId). i.0) (x.id_is ∙ sym same ∙ ap (λ (y : BookEntry). y.request.id) new) in
      absurd (omega (arith, low, its, id_is)))
      (append_in s.book e h there)

  -- it has the grant that it names
  its_mark : RevokedMarkInvariant s.grants e
  its_mark = record { revoked_mark_agrees = (λ plain. (row, named.0, named.1), λ has. refl); waiting_is_unmarked = λ waits. refl }

  pub accept_kept : InCallInvariant more
  accept_kept = kept_then s s.device s.grants table s.slots (s.book ++ e ∷ []) (s.last_id + 1) k k.rows_are_valid k.adapter_is_on (record { disks_tell_sectors = refl; memory_size = refl; cap = refl; pi = refl }) k.port_invariant lends.owners_are_kept k.slots_are_of_four_ports k.slots_invariant kinds_then k.slots_store_commands k.plain_is_alone_in_slot_0 accepted
      (laws.appending_keeps_book_well_formed s.book e k.book_is_well_formed earlier (refl, refl, refl, refl) its.client_is_at_least_1 its.client_is_at_most_8 (has_room s r acc row named port port_is))
      (All-push (RevokedMarkInvariant s.grants) s.book e k.revoked_marks_agree its_mark)
      (All-push (λ (x : BookEntry). x.request.id.0 ≤ s.last_id + 1) s.book e (All-weaker (λ (x : BookEntry). x.request.id.0 ≤ s.last_id) (λ (x : BookEntry). x.request.id.0 ≤ s.last_id + 1) (λ x low. omega (arith, low)) s.book k.ids_were_handed_out) (omega (arith, id_is)))
      (All-push (λ (x : BookEntry). state_of (probe_result_of s.probe_results x.request.port.0) ≡ ReadyState) s.book e k.requests_are_of_ready_ports ready)
      (next k.machine k.reached k.machine_relation) (reached_next k.machine k.reached k.machine_relation) (stands_next k.machine k.reached k.machine_relation)

  -- ---- the event

  module _ (none : (other : Port) → NoneDue (mode_in s other) (unanswered_of s.book) other) (new : ServerState) (issues : IssuesDueOfPort port more new) where
    abbrev ids : List RequestId
    ids = due_ids (mode_in s port) port (unanswered_of more.book)

    none_other : (other : Port) → other ≢ port → NoneDue (mode_in s other) (unanswered_of more.book) other
    none_other other ne u own due =
        none other u own ((laws.due_depends_on_own_port (mode_in s other) other (unanswered_of more.book) (unanswered_of s.book) u (own_longer other s.book e (λ same. ne (sym same))) own).0 due)

    settles : InvariantWithNoneDue new
    settles = settled laws port more new accept_kept none_other issues

    same : new ≡ record more { device = new.device; slots = new.slots; book = new.book }
    same = each_settings laws port ids more new issues

    driven : IsDrivenBy (IsCommandIssueAccess port) s.device new.device
    driven = each_driven laws port ids more new issues

    port_low : port.0 < 4
    port_low = (ready_found s port.0 k ready).0

    pub event : (first : JointState Device) (past : List (JointEvent Device DeviceStep)) → LeadsToServer first past s
        → (h : JointEvent Device DeviceStep) × (h.event.call ≡ Submit r) × (h.event.result ≡ Submitted (Ok id)) × LeadsToServer first (h ∷ past) new
    event first past leads =
        lead_by laws first past s new (Submit r) (Submitted (Ok id)) (x.steps ++ early) (ap (λ (n : ServerState). n.wanted) same) (ap ports_of same) leads (holding new settles.in_call_invariant)
        (laws.steps_and_accesses.enabled_lists_join m x.steps early (tt, fresh m was is) x.may)
        (belong_on mode port {D = DeviceStep} (Submit r) (ports_of new) (λ p own. (its_ready p own, its_mode p own)) x.steps early x.only (tt, inr refl))
        (last_on mode port x.steps early x.only x.last (tt, λ other h i. false≢true h) (λ other i j. false≢true j))
        (lawful_on mode port old.abstract no_evidence (ports_of new) x.steps early x.only tt)
        (allowed, (asked, accepts_on mode port x.steps early x.only, refl), same_ports_are, all_issued)
        tt
        driven.accesses
        (driven.all_are_done, (row, its_row, All-weaker (IsCommandIssueAccess port) (StoresOrWritesSactOrCi row.port) (λ access here. subst (λ (p : Port). StoresOrWritesSactOrCi p access) (sym port_is) (issuing_is port port_low access here)) driven.accesses driven.accesses_are_of_kind))
        (λ other. All-weaker (IsCommandIssueAccess port) (WritesNeitherCmdNorSctl other) (issuing_leaves laws port other) driven.accesses driven.accesses_are_of_kind)
        (λ other is_ready. due_now other)
        (λ other. record { finds_done = tt; lone_plain_faults_are_told_unless_dead = tt; probes_disk = tt; boots_anew = tt; loses_no_error = laws.calls.ordinary_accesses_lose_no_error other (with_device s.device old) new.device driven.accesses (told_by s.device old.abstract.ports) (ports_of new) k.adapter_is_on driven.all_are_done (All-weaker (IsCommandIssueAccess port) (DoesNotWrite Ghc) (issuing_spares_host port) driven.accesses driven.accesses_are_of_kind) (All-weaker (IsCommandIssueAccess port) (WritesOneToNoTroubleBit other) (issuing_clears_none port other) driven.accesses driven.accesses_are_of_kind); runs_well_anew = λ i. absurd (uninterrupted s.device old.abstract.ports other i); handles_evidence = uninterrupted s.device old.abstract.ports other })
        (laws.backed_parts_join s.device s.device new.device m early x.steps (laws.drivers_own_step_is_backed s.device m (Accept asked) (λ no. no)) x.backed)
        stands
      where
        old : JointState Device
        old = joint_state_after first past

        m : Machine
        m = old.abstract.machine

        was : IsReachable m
        was = reached laws first past s leads

        is : MachineRelation s m
        is = leads.state_is_at_history_end.machine_stands_for_it

        asked : machine.Accepted
        asked = request m was is

        early : List Step
        early = Accept asked ∷ []

        x : AreIssued port ids more new (next m was is)
        x = each_issued laws port ids more new accept_kept issues (next m was is) (reached_next m was is) (stands_next m was is)

        stands : MachineRelation new (after m (x.steps ++ early))
        stands = subst (MachineRelation new) (sym (laws.steps_and_accesses.after_joins m x.steps early)) x.stands

        mode : QueueMode
        mode = mode_in s port

        its_mode : (p : machine.Pending) → p.request.port ≡ port → (ports_of new).mode p.request.port ≡ mode
        its_mode p own = ap (mode_in new) own ∙ ap (λ (n : ServerState). mode_in n port) same

        ports_same_too : new.probe_results ≡ s.probe_results
        ports_same_too = ap (λ (n : ServerState). n.probe_results) same

        its_ready : (p : machine.Pending) → p.request.port ≡ port → (ports_of new).state p.request.port ≡ ReadyState
        its_ready p own = ap (λ (q : Port). state_of (probe_result_of new.probe_results q.0)) own ∙ ap (λ (found : List ProbeResult). state_of (probe_result_of found port.0)) ports_same_too ∙ ready

        allowed : IsAcceptable (events.admission_context_of old.abstract) r
        allowed = subst (λ (y : AdmissionContext). IsAcceptable y r) (sym (situation_is laws s old leads.state_is_at_history_end)) acc

        its_row : IsNamed m.rows r row
        its_row = subst (λ (rows : List GrantRow). IsNamed rows r row) (sym is.rows) named

        same_ports_are : SamePorts old.abstract.ports (ports_of new)
        same_ports_are = ports_same old.abstract.ports (ports_of new) (leads.state_is_at_history_end.ports_are ∙ sym (ap ports_of same))

        all_issued : NoneDueWhereReady (record { machine = after m (x.steps ++ early); ports = ports_of new })
        all_issued other on = none_due new (after m (x.steps ++ early)) stands (mode_in new other) other (settles.none_is_due other)

        mode_is : (other : Port) → mode_in new other ≡ mode_in s other
        mode_is other = ap (λ (n : ServerState). mode_in n other) same

        due_now : (other : Port) → IssuesDue (mode_in new other) (x.steps ++ early) (after m (x.steps ++ early)) other
        due_now other =
            subst (λ (takes : QueueMode). IssuesDue takes (x.steps ++ early) (after m (x.steps ++ early)) other) (sym (mode_is other))
            (subst (λ (n : Machine). IssuesDue (mode_in s other) (x.steps ++ early) n other) (sym (laws.steps_and_accesses.after_joins m x.steps early))
            (dues_carried laws (mode_in s other) x.steps (x.steps ++ early) (after (next m was is) x.steps) (after (next m was is) x.steps) other refl
            (λ u here own. sym (any_append (issues_id u.id) x.steps early ∙ or_none (list_any (issues_id u.id) x.steps)))
            (dues laws port more new accept_kept issues (next m was is) x other (none_other other))))

pub acceptance : PrerequisiteLaws → (s new : ServerState) (port : Port) (r : Request) (id : RequestId) → InvariantWithNoneDue s → IsAcceptable (admission_context s) r → AcceptsAndIssues port r id s new → ExtendsToNoneDue s new (Submit r) (Submitted (Ok id))
acceptance laws s new port r id k acc a = record {
  invariant_with_none_due = settles laws s k.in_call_invariant r acc a.row a.named port a.port_is id a.id_is a.table a.lends_only k.none_is_due new a.issues_due;
  extends_history = event laws s k.in_call_invariant r acc a.row a.named port a.port_is id a.id_is a.table a.lends_only k.none_is_due new a.issues_due;
}
