-- Ready ports have their turns one after another, and each leads on what was done so far.
use Rattle.std.proofs.Common.{ℕ, suc, ◌≡◌, ◌≢◌, ◌≤◌, ◌<◌, ◌+◌, ◌-◌, ◌||◌, Bool, true, false, List, [], ◌∷◌, ◌++◌, map, Some, None, refl, sym, ap, ◌∙◌, subst, inl, inr, ⊎_elim, arith, append_assoc, append-nil, ◌⊎◌}
use Rattle.std.specs.List.{All, Contains, list_any}
use Rattle.std.proofs.lemmas.Bool.{cases_Bool, cases_eq, cases_lt, or_left, or_right}
use Rattle.std.proofs.lemmas.List.Elements.{All-nil, All-append, All-contains, All-weaker, Contains-append_cases, Contains-append_left, Contains-append_right}
use Rattle.ata_types.specs.declared.Port.{Port}
use Rattle.ata_types.specs.declared.PortState.{PortState}
use Rattle.ata_types.specs.declared.PortState.TheVariants.{Dead, Ready as ReadyState}
use Rattle.ata_types.specs.declared.request.Reply.{Reply}
use Rattle.ata_types.specs.declared.request.RequestId.{RequestId}
use Rattle.adapter.specs.Access.{Access}
use Rattle.adapter.specs.Commands.{Meaning, is_queued}
use Rattle.adapter.specs.declared.command.Operation.TheVariants.{ReadLog}
use Rattle.adapter.specs.declared.tape.Fault as tape_fault
use Rattle.adapter.specs.Device.{Device}
use Rattle.adapter.specs.declared.access.DeviceStep.{DeviceStep}
use Rattle.adapter.specs.Rules.{IsOn}
use Rattle.refinement.specs.Relation.{port_at}
use Rattle.refinement.specs.Fragments.{IsDrivenBy, AccessesNoOtherPort}
use Rattle.refinement.specs.Slots.{IsMove, ServesRequest}
use Rattle.block_machine.specs.Events.{AbstractCall, AnswersLawfulAndWaitsOnStoppedPorts, AreStepsOfCall, IsIssuedIn, AbstractState, Replied, ShowsDisk, IsIssuedInBook, changes_disk, issues_id}
use Rattle.block_machine.specs.Histories.{JointState, IsReachable}
use Rattle.block_machine.specs.Expected.{after}
use Rattle.block_machine.specs.Ports.{Evidence, RequestFault, Ports, SameSerialAndSize, SamePort}
use Rattle.block_machine.specs.DueRequests.{requests_of_port}
use Rattle.block_machine.specs.State.{Pending, Machine, unanswered}
use Rattle.block_machine.specs.declared.due.Unanswered.{Unanswered}
use Rattle.block_machine.specs.Steps.{Step}
use Rattle.server_history.proofs.state.ListMembers.{map_in}
use Rattle.host_boot.specs.TakeOver.{probe_result_of}
use Rattle.host_boot.specs.declared.ProbeResult.{ProbeResult}
use Rattle.host_boot.specs.declared.ProbeResult.TheVariants.{Unserved, Ready, Unready}
use Rattle.driver_history.specs.Evidence.{BacksPlainFault, BacksQueuedFault, IsEvidencedOf}
use Rattle.error_recovery.specs.Evidence.{BringsLastLogPage, HasFailed}
use Rattle.driver_history.specs.Histories.{IssuesDue}
use Rattle.driver_history.specs.PortTurn.{HasTurnIn, KeepsToAnotherPort, EvidenceAgreesOn}
use Rattle.driver_history.specs.AccessTrace.{UsesPortsAndNotGhc}
use Rattle.server_history.specs.Prerequisites.{PrerequisiteLaws}
use Rattle.server_history.specs.Turns.{IsPortTurn, IsFaultOfCommand, IsByDeviceOrOnSuchPort, SimulatesTurn, EachPortTakesTurn, IsFaultOfUsedSlot, abstract_state_of}
use Rattle.server_history.specs.ServerState.{ServerState, InCallInvariant, MachineRelation, InvariantWithNoneDue, is_served, mode_in, ports_of, state_of, used_for}
use Rattle.server_history.proofs.state.DueRequests.{same_book}
use Rattle.server_history.proofs.any_turn.TurnSteps.{answered_own, issued_before, stood}
use Rattle.server_history.proofs.plain_calls.IssueRounds.{any_append, dues_carried, or_none}
use Rattle.server_history.proofs.state.PortSlots.{IsServedBy, issued_has, ready_found, served_request, serves_used}
use Rattle.slots.specs.declared.SlotUse.{SlotUse}
use Rattle.slots.specs.SlotUses.{PortSlots, use_at}
use Rattle.block_machine.specs.declared.due.QueueMode.{QueueMode}
use Rattle.server_history.proofs.any_turn.TurnsInOrder.{AreTurns, all_of_ports, answered_of, belong_join, lawful_join, lawful_on, present_before, turn_on, unplugs_join}
use Rattle.server_history.proofs.whole_call.ServiceAndTick.{Plan, TakesTurn, Uses, any_said, asks_for, asks_so, belong_on, owes_join, ready_or_silent, ready_takes, turn_at, unserved_waits}
use Rattle.server_history.proofs.whole_call.DutiesSoFar.{serving, ties_carried, ties_turned}
use Rattle.server_history.proofs.whole_call.Progress.{skipped}
use Rattle.server_history.proofs.state.FirstMembers.{nowhere}
use Rattle.server_history.proofs.whole_call.Progress as progress
use Rattle.server_history.proofs.any_turn.JoinedParts.{AreToldBelow, NamesSome, alike_first, alike_then, joined, lawful_lift, names_joined, names_more, names_only, same_at, same_disk, same_then, serviced_lift, told_then}

same_some : {X : Type 0} {a b : X} → Some a ≡ Some b → a ≡ b
same_some is = cc

module _ (plan : Plan) (laws : PrerequisiteLaws) (s : ServerState) (start : InvariantWithNoneDue s) (old : AbstractState) (reached : IsReachable old.machine) (at : MachineRelation s old.machine) (ports_are : old.ports ≡ ports_of s) where
  abbrev kept : InCallInvariant s
  kept = start.in_call_invariant

  abbrev began : JointState Device
  began = record { device = s.device; abstract = old }

  abbrev state_at : ℕ → PortState
  state_at q = state_of (probe_result_of s.probe_results q)

  abbrev HadTurn : ℕ → Port → Type 0
  HadTurn n q = (q.0 < n) × TakesTurn plan (probe_result_of s.probe_results q.0)

  abbrev IsDone : ServerState → List Access → List Step → Evidence → Port → Type 0
  IsDone c accesses steps evidence q = progress.IsDone plan laws s start old reached at ports_are c accesses steps evidence q

  abbrev HasTold : ℕ → ServerState → List Access → RequestFault → Type 0
  HasTold n c accesses told = progress.HasTold plan laws s start old reached at ports_are n c accesses told

  abbrev Progress : ℕ → ServerState → List Reply → Type 0
  Progress n c replies = progress.Progress plan laws s start old reached at ports_are n c replies

  -- ---- a turn

  module _ (n : ℕ) (c mid : ServerState) (before its : List Reply) (low : n < 4) (takes : TakesTurn plan (probe_result_of s.probe_results n)) (p : Progress n c before) (next : InvariantWithNoneDue mid) (part : IsPortTurn (turn_at plan (probe_result_of s.probe_results n) n) (port_at n) its c mid) where
    abbrev m : Machine
    m = after old.machine p.steps

    m_reached : IsReachable m
    m_reached = laws.steps_and_accesses.reachable_stays_reachable old.machine p.steps reached p.turns.may

    abbrev x : SimulatesTurn (turn_at plan (probe_result_of s.probe_results n) n) (port_at n) its part.accesses c mid m
    x = part.simulates_turn m m_reached p.machine_relation

    abbrev all : List Step
    all = x.steps ++ p.steps

    abbrev accesses : List Access
    accesses = p.accesses ++ part.accesses

    abbrev evidence : Evidence
    evidence = joined p.evidence x.evidence

    not_yet : HadTurn n (port_at n) → ⊥
    not_yet served = let lt = served.0 in omega (arith, lt)

    -- it has its turn now
    takes_at : (q : ℕ) → q ≡ n → TakesTurn plan (probe_result_of s.probe_results q)
    takes_at q is = subst (λ (k : ℕ). TakesTurn plan (probe_result_of s.probe_results k)) (sym is) takes

    silent_or_ready : (state_at n ≡ ReadyState) ⊎ ((x.evidence.faults ≡ []) × (x.evidence.lost ≡ []))
    silent_or_ready = ready_or_silent plan (probe_result_of s.probe_results n) n (port_at n) part.accesses c mid m x.evidence x.steps takes x.requeues_and_aborts_fit_turn

    its_driven : IsDrivenBy (AccessesNoOtherPort (port_at n)) c.device mid.device
    its_driven = record { accesses = part.accesses; all_are_done = part.accesses_are_done; accesses_are_of_kind = part.accesses_are_of_port }

    on_mid : IsOn mid.device
    on_mid = laws.one_port_keeps_adapter_on (port_at n) c.device mid.device p.adapter_is_on its_driven

    its_turns : AreTurns old (n + 1) all
    its_turns = turn_on laws old reached n p.steps x.steps p.turns x.steps_are_of_turn x.steps_are_enabled x.issues_are_last

    whole_is : after old.machine all ≡ after m x.steps
    whole_is = laws.steps_and_accesses.after_joins old.machine x.steps p.steps

    -- a port that had its turn is another
    earlier : (q : Port) → q.0 < n → q ≢ port_at n
    earlier q lt same = let is : q.0 ≡ n = ap (λ (r : Port). r.0) same in omega (arith, lt, is)

    -- the turn's accesses are of another port then
    of_other : (q : Port) → q.0 ≢ n → All (KeepsToAnotherPort q) part.accesses
    of_other q ne = All-weaker (AccessesNoOtherPort (port_at n)) (KeepsToAnotherPort q) (λ access of. (port_at n, ne, of)) part.accesses part.accesses_are_of_port

    same_n : SamePort old.ports (ports_of c) (port_at n)
    same_n = subst (λ (ports : Ports). SamePort ports (ports_of c) (port_at n)) (sym ports_are) (same_at s c (port_at n) (p.found (port_at n) not_yet) (p.remembered (port_at n) not_yet) (p.modes (port_at n) not_yet))

    same_other : (q : Port) → q.0 ≢ n → SamePort (ports_of c) (ports_of mid) q
    same_other q ne = same_at c mid q (part.leaves_others.other_probe_results_are_same q.0 ne) (part.leaves_others.other_remembered_are_same q.0 ne) (part.leaves_others.other_modes_are_same q.0 ne)

    same_self : (ports : Ports) (q : Port) → SamePort ports ports q
    same_self ports q = (refl, refl, refl, refl, refl, refl)

    -- ---- evidence

    mine : NamesSome (λ q. q ≡ port_at n) x.evidence
    mine = names_only (port_at n) x.evidence x.names_only_port

    alike_n : EvidenceAgreesOn (port_at n) x.evidence evidence
    alike_n = alike_then (HadTurn n) (port_at n) not_yet p.evidence x.evidence p.names

    alike_other : (q : Port) → q ≢ port_at n → EvidenceAgreesOn q p.evidence evidence
    alike_other q ne = alike_first (λ r. r ≡ port_at n) q ne p.evidence x.evidence mine

    -- the call so far, with the turn after it
    turn_of : HasTurnIn (port_at n) s.device mid.device
    turn_of = record {
      before = p.accesses;
      turn = part.accesses;
      later = [];
      start = c.device;
      end = mid.device;
      leads_to_start = p.turn_is_taken;
      turn_leads_to_end = part.accesses_are_done;
      leads_to_new = refl;
      earlier_are_of_others = p.others (port_at n) not_yet;
      later_are_of_others = All-nil (KeepsToAnotherPort (port_at n));
    }

    -- an earlier port's part of it
    turn_before : (q : Port) → q.0 ≢ n → HasTurnIn q s.device mid.device
    turn_before q ne = record {
      before = [];
      turn = p.accesses;
      later = part.accesses;
      start = s.device;
      end = c.device;
      leads_to_start = refl;
      turn_leads_to_end = p.turn_is_taken;
      leads_to_new = part.accesses_are_done;
      earlier_are_of_others = All-nil (KeepsToAnotherPort q);
      later_are_of_others = of_other q ne;
    }

    undue : (q : Port) → state_at q.0 ≡ ReadyState → (s.device.port q.0).link_due ≡ false
    undue q is = ((kept.port_invariant q.0 (ready_found s q.0 kept is).0).ready_engine_runs is).faults_are_recorded.no_link_is_due

    -- where a link may be due nothing is asked of a port
    state_was : (q : Port) → old.ports.state q ≡ state_at q.0
    state_was q = ap (λ (ports : Ports). ports.state q) ports_are

    undue_n : (old.ports.state (port_at n) ≡ ReadyState) ⊎ Contains x.evidence.lost (port_at n) → (s.device.port n).link_due ≡ false
    undue_n (inl is) = undue (port_at n) (sym (state_was (port_at n)) ∙ is)
    undue_n (inr lost) = ⊎_elim (λ is. undue (port_at n) is) (λ silent. absurd (nowhere (port_at n) (subst (λ (list : List Port). Contains list (port_at n)) silent.1 lost))) silent_or_ready

    undue_before : (q : Port) → (old.ports.state q ≡ ReadyState) ⊎ Contains p.evidence.lost q → (s.device.port q.0).link_due ≡ false
    undue_before q (inl is) = undue q (sym (state_was q) ∙ is)
    undue_before q (inr lost) = undue q (All-contains (λ (r : Port). state_at r.0 ≡ ReadyState) p.evidence.lost q p.lost lost)

    -- who is named as lost was ready
    its_lost : All (λ (r : Port). state_at r.0 ≡ ReadyState) x.evidence.lost
    its_lost = ⊎_elim
        (λ is. All-weaker (λ (r : Port). r ≡ port_at n) (λ (r : Port). state_at r.0 ≡ ReadyState) (λ r same. ap (λ (t : Port). state_at t.0) same ∙ is) x.evidence.lost x.names_only_port.lost)
        (λ silent. subst (All (λ (r : Port). state_at r.0 ≡ ReadyState)) (sym silent.1) (All-nil (λ (r : Port). state_at r.0 ≡ ReadyState)))
        silent_or_ready

    its_evidenced : IsEvidencedOf (asks_for plan) (Replied its) part.accesses (record { device = c.device; abstract = abstract_state_of c m }) (ports_of mid) mid.device x.evidence (port_at n)
    its_evidenced = subst (λ (ask : AbstractCall DeviceStep). IsEvidencedOf ask (Replied its) part.accesses (record { device = c.device; abstract = abstract_state_of c m }) (ports_of mid) mid.device x.evidence (port_at n)) (asks_so plan (probe_result_of s.probe_results n) n) x.is_evidenced

    evidenced_n : IsEvidencedOf (asks_for plan) (Replied []) accesses began (ports_of mid) mid.device evidence (port_at n)
    unfolding turn_of
    evidenced_n = subst (λ (list : List Access). IsEvidencedOf (asks_for plan) (Replied []) (p.accesses ++ list) began (ports_of mid) mid.device evidence (port_at n)) (append-nil part.accesses)
        (laws.calls.turn_evidence_is_calls (port_at n) began (abstract_state_of c m) (ports_of mid) (ports_of mid) mid.device x.evidence evidence (asks_for plan) (Replied []) kept.adapter_is_on undue_n turn_of on_mid same_n
        (same_self (ports_of mid) (port_at n)) alike_n
        (any_said plan its [] part.accesses (record { device = c.device; abstract = abstract_state_of c m }) (ports_of mid) mid.device x.evidence (port_at n) its_evidenced))

    evidenced_before : (q : Port) → q.0 < n → IsEvidencedOf (asks_for plan) (Replied []) p.accesses began (ports_of c) c.device p.evidence q
        → IsEvidencedOf (asks_for plan) (Replied []) accesses began (ports_of mid) mid.device evidence q
    unfolding turn_before
    evidenced_before q lt v =
        laws.calls.turn_evidence_is_calls q began old (ports_of c) (ports_of mid) mid.device p.evidence evidence (asks_for plan) (Replied []) kept.adapter_is_on (undue_before q) (turn_before q (λ same. omega (arith, lt, same))) p.adapter_is_on
        (same_self old.ports q) (same_other q (λ same. omega (arith, lt, same))) (alike_other q (earlier q lt)) v

    -- ---- requests

    one_of : (e y : Pending) → Contains m.book e → Contains m.book y → e.request.id.0 ≡ y.request.id.0 → e ≡ y
    one_of e y here there same = laws.steps_and_accesses.an_id_is_one_request m m_reached e y here there same

    one_old : (e y : Pending) → Contains old.machine.book e → Contains old.machine.book y → e.request.id.0 ≡ y.request.id.0 → e ≡ y
    one_old e y here there same = laws.steps_and_accesses.an_id_is_one_request old.machine reached e y here there same

    -- a request of the port that was issued when the turn began was so when the call began
    was_issued : (id : RequestId) → (o : Pending) → Contains m.book o → o.request.id.0 ≡ id.0 → o.request.port ≡ port_at n → IsIssuedInBook m id → IsIssuedInBook old.machine id
    was_issued id o here same own w =
        let is : w.pending ≡ o = one_of w.pending o w.is_in_book here (ap (λ (i : RequestId). i.0) w.id_is ∙ sym same) in
        let port : w.pending.request.port.0 ≡ n = ap (λ (y : Pending). y.request.port.0) is ∙ ap (λ (q : Port). q.0) own in
        let l = p.turns.origin w.pending w.is_in_book (omega (arith, port)) in
        record { pending = l.0; is_in_book = l.1; id_is = ap (λ r. r.id) (sym l.2.request) ∙ w.id_is; issued = sym l.2.issued ∙ w.issued }

    -- of the port, only the turn issues requests
    own_alike : (u : Unanswered) → Contains (map unanswered (after m x.steps).book) u → u.port ≡ port_at n → list_any (issues_id u.id) x.steps ≡ list_any (issues_id u.id) all
    own_alike u here own = ⊎_elim
        (λ (early : IsIssuedIn u.id p.steps).
        let w = p.turns.issued u.id early in
        let y = map_in unanswered (after m x.steps).book u here in
        let b = its_turns.from y.0 (subst (λ (k : Machine). Contains k.book y.0) (sym whole_is) y.1) in
        let same = one_old w.0 b.was w.1 b.here (w.2 ∙ ap (λ (v : Unanswered). v.id.0) y.2 ∙ ap (λ r. r.id.0) (sym b.request)) in
        let small = w.3 in
        let is = ap (λ (e : Pending). e.request.port.0) same ∙ ap (λ r. r.port.0) b.request ∙ ap (λ (v : Unanswered). v.port.0) (sym y.2) ∙ ap (λ (q : Port). q.0) own in
        absurd (omega (arith, small, is)))
        (λ (none : list_any (issues_id u.id) p.steps ≡ false).
        sym (any_append (issues_id u.id) x.steps p.steps ∙ ap (λ (b : Bool). list_any (issues_id u.id) x.steps || b) none ∙ or_none (list_any (issues_id u.id) x.steps)))
        (cases_Bool (list_any (issues_id u.id) p.steps))

    -- and it issues none of another
    other_alike : (q : Port) → q ≢ port_at n → (u : Unanswered) → Contains (map unanswered m.book) u → u.port ≡ q → list_any (issues_id u.id) p.steps ≡ list_any (issues_id u.id) all
    other_alike q ne u here own = ⊎_elim
        (λ (late : IsIssuedIn u.id x.steps).
        let w = issued_before laws (port_at n) m x.steps x.steps_are_of_turn x.steps_are_enabled u.id late in
        let y = map_in unanswered m.book u here in
        let same = one_of w.pending y.0 w.here y.1 (w.id_is ∙ ap (λ (v : Unanswered). v.id.0) y.2) in
        absurd (ne (sym own ∙ ap (λ (v : Unanswered). v.port) y.2 ∙ ap (λ (e : Pending). e.request.port) (sym same) ∙ w.port_is)))
        (λ (none : list_any (issues_id u.id) x.steps ≡ false). sym (any_append (issues_id u.id) x.steps p.steps ∙ ap (λ (b : Bool). b || list_any (issues_id u.id) p.steps) none))
        (cases_Bool (list_any (issues_id u.id) x.steps))

    due_now : (q : Port) → state_of (probe_result_of mid.probe_results q.0) ≡ ReadyState → IssuesDue (mode_in mid q) all (after old.machine all) q
    due_now q is = subst (λ (k : Machine). IssuesDue (mode_in mid q) all k q) (sym whole_is) (⊎_elim
        (λ (same : q.0 ≡ n).
        subst (λ (r : Port). IssuesDue (mode_in mid r) all (after m x.steps) r) (ap port_at (sym same))
        (dues_carried laws (mode_in mid (port_at n)) x.steps all (after m x.steps) (after m x.steps) (port_at n) refl own_alike (x.issues_due (ap (λ (k : ℕ). state_of (probe_result_of mid.probe_results k)) (sym same) ∙ is))))
        (λ (ne : q.0 ≢ n).
        let apart : q ≢ port_at n = λ same. ne (ap (λ (r : Port). r.0) same) in
        dues_carried laws (mode_in mid q) p.steps all m (after m x.steps) q
        (ap (requests_of_port q) (same_book c.book m.book p.machine_relation.book) ∙ sym (part.leaves_others.others_requests_are_same q apart) ∙ ap (requests_of_port q) (sym (same_book mid.book (after m x.steps).book x.machine_relation.book)))
        (other_alike q apart)
        (subst (λ (mode : QueueMode). IssuesDue mode p.steps m q) (sym (part.leaves_others.other_modes_are_same q.0 ne)) (p.due q (ap state_of (sym (part.leaves_others.other_probe_results_are_same q.0 ne)) ∙ is))))
        (cases_eq q.0 n))

    -- ---- what is lawful

    joined_lawful : AnswersLawfulAndWaitsOnStoppedPorts old evidence (ports_of mid) all
    joined_lawful = lawful_join old evidence (ports_of mid) x.steps p.steps
        (lawful_on (abstract_state_of c m) old x.evidence evidence (ports_of mid) (ports_of mid) x.steps
        (λ e o here.
        let own = answered_of (λ q. q ≡ port_at n) x.steps x.steps_are_of_turn e o here in
        let w = answered_own laws (port_at n) m x.steps x.steps_are_of_turn x.steps_are_enabled e o here in
        lawful_lift (abstract_state_of c m) old x.evidence evidence (ports_of mid) (ports_of mid) e o
        (was_issued e.request.id w.pending w.here w.id_is w.port_is)
        (λ told there. Contains-append_right p.evidence.faults x.evidence.faults told there)
        (λ there. Contains-append_right p.evidence.lost x.evidence.lost e.request.port there)
        (λ there. Contains-append_right p.evidence.stopped x.evidence.stopped e.request.port there)
        refl
        (λ d. subst (λ (q : Port). SameSerialAndSize old.ports (ports_of mid) q) (sym own)
        (same_disk old.ports (ports_of c) (ports_of mid) (ports_of mid) (port_at n) same_n (same_self (ports_of mid) (port_at n)) (subst (λ (q : Port). SameSerialAndSize (ports_of c) (ports_of mid) q) own d))))
        (λ e here there. Contains-append_right p.evidence.stopped x.evidence.stopped e.request.port there)
        x.answers_are_lawful)
        (lawful_on old old p.evidence evidence (ports_of c) (ports_of mid) p.steps
        (λ e o here.
        let lt = answered_of (λ q. q.0 < n) p.steps p.turns.below e o here in
        let same = same_other e.request.port (λ is. omega (arith, lt, is)) in
        lawful_lift old old p.evidence evidence (ports_of c) (ports_of mid) e o (λ w. w)
        (λ told there. Contains-append_left p.evidence.faults x.evidence.faults told there)
        (λ there. Contains-append_left p.evidence.lost x.evidence.lost e.request.port there)
        (λ there. Contains-append_left p.evidence.stopped x.evidence.stopped e.request.port there)
        same.1
        (λ d. same_disk old.ports old.ports (ports_of c) (ports_of mid) e.request.port (same_self old.ports e.request.port) same d))
        (λ e here there. Contains-append_left p.evidence.stopped x.evidence.stopped e.request.port there)
        p.lawful)

    -- ---- answers

    told_all : AreToldBelow (n + 1) all (before ++ its)
    told_all = told_then n p.steps x.steps before its (record { answers = p.answers; permuted = p.permuted; ordered = p.book_is_in_order; low = p.low; told = p.told }) x.replies_match
        (λ e o here. answered_of (λ q. q ≡ port_at n) x.steps x.steps_are_of_turn e o here)

    -- ---- each port

    done_n : IsDone mid accesses all evidence (port_at n)
    done_n = record {
      becomes = serviced_lift old.ports (ports_of c) (ports_of mid) (ports_of mid) x.evidence evidence (port_at n) same_n (same_self (ports_of mid) (port_at n)) alike_n x.port_is_serviced;
      disk = ⊎_elim
          (λ same. inl (same_then old.ports (ports_of c) (ports_of mid) (port_at n) same_n same))
          (λ had. inr (λ shows. ⊎_elim
          (λ present. ⊎_elim (λ was. inl was) (λ changed. inr (any_append (changes_disk (port_at n)) x.steps p.steps ∙ or_right _ _ changed)) (present_before old.machine (port_at n) p.steps present))
          (λ changed. inr (any_append (changes_disk (port_at n)) x.steps p.steps ∙ or_left _ _ changed))
          (had shows)))
          x.shown_disk_was_in_or_came;
      keeps = ⊎_elim
          (λ d. inl (same_disk old.ports (ports_of c) (ports_of mid) (ports_of mid) (port_at n) same_n (same_self (ports_of mid) (port_at n)) d))
          (λ none. inr (λ e here. none e (subst (λ (k : Machine). Contains k.book e) whole_is here)))
          x.same_disk_or_none_unanswered;
      evidenced = evidenced_n;
      ties = ties_turned plan laws s start old reached at ports_are n c mid before its takes p next part m_reached on_mid evidence alike_n same_n;
    }

    done_before : (q : Port) → q.0 < n → IsDone c p.accesses p.steps p.evidence q → IsDone mid accesses all evidence q
    done_before q lt d = record {
      becomes = serviced_lift old.ports old.ports (ports_of c) (ports_of mid) p.evidence evidence q (same_self old.ports q) same alike d.becomes;
      disk = ⊎_elim
          (λ was. inl (same_then old.ports (ports_of c) (ports_of mid) q was same))
          (λ had. inr (λ shows. ⊎_elim
          (λ present. inl present)
          (λ changed. inr (any_append (changes_disk q) x.steps p.steps ∙ or_right _ _ changed))
          (had (subst ShowsDisk same.1 shows))))
          d.disk;
      keeps = ⊎_elim
          (λ was. inl (same_disk old.ports old.ports (ports_of c) (ports_of mid) q (same_self old.ports q) same was))
          (λ none. inr (λ e here own.
          let b = stood laws (port_at n) m x.steps x.steps_are_of_turn e (subst (λ (k : Machine). Contains k.book e) whole_is here) in
          none b.was b.here (ap (λ r. r.port) b.request ∙ own)))
          d.keeps;
      evidenced = evidenced_before q lt d.evidenced;
      ties = ties_carried plan laws s start old reached at ports_are n c mid before its p part m_reached q (earlier q lt) d evidence alike same;
    }
      where
        same : SamePort (ports_of c) (ports_of mid) q
        same = same_other q (λ is. omega (arith, lt, is))

        alike : EvidenceAgreesOn q p.evidence evidence
        alike = alike_other q (earlier q lt)

    -- ---- faults

    -- the request of a slot that was used when the turn began was in the slot when the call began
    module _ (ready : state_at n ≡ ReadyState) (told : RequestFault) (f : IsFaultOfUsedSlot (port_at n) part.accesses c mid told) where
      used_s : used_for s.slots n f.slot ≡ Some f.used
      used_s = ap (λ (slots : PortSlots). use_at slots f.slot) (sym (p.slots (port_at n) not_yet)) ∙ f.slot_use_is

      by : IsServedBy s old.machine n f.slot f.used.id
      by = served_request s old.machine n f.slot at ready f.used.id (serves_used s old.machine n at ready f.slot f.used used_s)

      port_is : by.serves.pending.request.port ≡ port_at n
      port_is = ap port_at by.serves.port_is

      -- its command is queued if it was issued so
      kind_is : is_queued by.serves.command.operation ≡ f.used.queued
      kind_is =
          let h = kept.slots_store_commands n f.slot f.used used_s in
          let same = laws.slots.decoding_is_unique s.device.memory (s.device.port n).bases.clb f.slot by.serves.command h.command by.serves.places h.places by.serves.slot_decodes_to.decodes_to h.stored.slot_decodes_to.decodes_to in
          ap (λ (y : Meaning). is_queued y.operation) same.0 ∙ h.is_queued_as_given

      -- what the turn had of a fault and of a page, the call had
      its_failed : (fault : tape_fault.Fault) → HasFailed (port_at n) part.accesses c.device mid.device fault → HasFailed (port_at n) accesses s.device mid.device fault
      unfolding turn_of
      its_failed fault had = subst (λ (list : List Access). HasFailed (port_at n) (p.accesses ++ list) s.device mid.device fault) (append-nil part.accesses) (laws.calls.turn_failure_is_calls (port_at n) s.device mid.device fault kept.adapter_is_on turn_of had)

      its_page : (page : List ℕ) → BringsLastLogPage (port_at n) c.device mid.device page → BringsLastLogPage (port_at n) s.device mid.device page
      unfolding turn_of
      its_page page brings = laws.calls.turn_log_page_is_calls (port_at n) s.device mid.device page kept.adapter_is_on turn_of ([], sym (append-nil mid.device.tape), All-nil (λ e. IsMove n ReadLog e → ⊥)) brings

      -- an issued request of the port has a slot, and a plain one's is the only one
      alone : f.used.queued ≡ false → (other : Pending) → Contains old.machine.book other → other.request.port ≡ port_at n → other.issued ≡ true → other.request.id ≡ by.serves.pending.request.id
      alone plain other there own issued =
          let h = issued_has s old.machine (port_at n) at kept ready other there own issued in
          let a = kept.plain_is_alone_in_slot_0 n f.slot f.used used_s plain in
          sym h.id_is ∙ ⊎_elim
          (λ (head : h.slot ≡ 0). let z : Some h.used ≡ Some f.used = sym h.used_is ∙ ap (used_for s.slots n) (head ∙ sym a.0) ∙ used_s in ap (λ (u : SlotUse). u.id) (same_some z))
          (λ (other_slot : h.slot ≢ 0). let z : None ≡ Some h.used = sym (a.1 h.slot other_slot) ∙ h.used_is in absurd cc)
          (cases_eq h.slot 0) ∙ sym by.serves.id_is

      plainly : f.used.queued ≡ false → BacksPlainFault began mid.device accesses by.serves.pending f.slot told
      plainly plain =
          let i : IsFaultOfCommand false (port_at n) part.accesses c.device mid.device f.slot told = subst (λ (b : Bool). IsFaultOfCommand b (port_at n) part.accesses c.device mid.device f.slot told) plain f.is_fault_of_command in
          record {
            is_only_issued = λ other there own issued. alone plain other there (own ∙ port_is) issued;
            fault = i.0;
            failed = subst (λ (q : Port). HasFailed q accesses s.device mid.device i.0) (sym port_is) (its_failed i.0 i.1);
            slot_is = i.2;
            status_is = i.3;
            error_is = i.4;
          }

      by_log : f.used.queued ≡ true → BacksQueuedFault began mid.device accesses by.serves.pending f.slot told
      by_log queued =
          let i : IsFaultOfCommand true (port_at n) part.accesses c.device mid.device f.slot told = subst (λ (b : Bool). IsFaultOfCommand b (port_at n) part.accesses c.device mid.device f.slot told) queued f.is_fault_of_command in
          record {
            fault = i.0.0;
            failed = subst (λ (q : Port). HasFailed q accesses s.device mid.device i.0.0) (sym port_is) (its_failed i.0.0 i.0.1);
            page = i.1.0;
            brings_log = subst (λ (q : Port). BringsLastLogPage q s.device mid.device i.1.0) (sym port_is) (its_page i.1.0 i.1.1);
            page_tells_error = i.1.2;
          }

      fault_n : HasTold (n + 1) mid accesses told
      fault_n = record {
        its = record {
          pending = by.serves.pending;
          is_in_book = by.here;
          issued = by.issued;
          id_is = by.serves.id_is ∙ f.id_is;
          slot = f.slot;
          serves = subst (λ (q : ℕ). ServesRequest old.machine s.device.memory (s.device.port q) q f.slot told.id) (sym (ap (λ (q : Port). q.0) port_is))
              (subst (λ (id : RequestId). ServesRequest old.machine s.device.memory (s.device.port n) n f.slot id) f.id_is by.serves);
          backs_plain_fault = λ plain. plainly (sym kind_is ∙ kind_same ∙ plain);
          backs_queued_fault = λ queued. by_log (sym kind_is ∙ kind_same ∙ queued);
        };
        served = subst (HadTurn (n + 1)) (sym port_is) (omega arith, takes);
        lives = λ queued dead. f.port_is_not_dead_if_queued (sym kind_is ∙ kind_same ∙ queued) (ap (λ (q : Port). state_of (probe_result_of mid.probe_results q.0)) (sym port_is) ∙ dead);
      }
        where
          kind_same : is_queued by.serves.command.operation ≡ is_queued (subst (λ (q : ℕ). ServesRequest old.machine s.device.memory (s.device.port q) q f.slot told.id) (sym (ap (λ (q : Port). q.0) port_is))
              (subst (λ (id : RequestId). ServesRequest old.machine s.device.memory (s.device.port n) n f.slot id) f.id_is by.serves)).command.operation
          kind_same = refl

    -- a fault that was told of another port is told so still
    module _ (told : RequestFault) (t : HasTold n c p.accesses told) where
      abbrev its_port : Port
      its_port = t.its.pending.request.port

      not_n : its_port.0 ≢ n
      not_n is = let lt = t.served.0 in omega (arith, lt, is)

      still_failed : (fault : tape_fault.Fault) → HasFailed its_port p.accesses s.device c.device fault → HasFailed its_port accesses s.device mid.device fault
      unfolding turn_before
      still_failed fault had = laws.calls.turn_failure_is_calls its_port s.device mid.device fault kept.adapter_is_on (turn_before its_port not_n) had

      still_brought : (page : List ℕ) → state_of (probe_result_of c.probe_results its_port.0) ≢ Dead → BringsLastLogPage its_port s.device c.device page → BringsLastLogPage its_port s.device mid.device page
      unfolding turn_before
      still_brought page lives brings = laws.calls.turn_log_page_is_calls its_port s.device mid.device page kept.adapter_is_on (turn_before its_port not_n) (part.others_get_no_log_unless_dead its_port.0 not_n lives) brings

      fault_before : HasTold (n + 1) mid accesses told
      fault_before = record {
        its = record {
          pending = t.its.pending;
          is_in_book = t.its.is_in_book;
          issued = t.its.issued;
          id_is = t.its.id_is;
          slot = t.its.slot;
          serves = t.its.serves;
          backs_plain_fault = λ plain.
              let y = t.its.backs_plain_fault plain in
              record { is_only_issued = y.is_only_issued; fault = y.fault; failed = still_failed y.fault y.failed; slot_is = y.slot_is; status_is = y.status_is; error_is = y.error_is };
          backs_queued_fault = λ queued.
              let y = t.its.backs_queued_fault queued in
              record { fault = y.fault; failed = still_failed y.fault y.failed; page = y.page; brings_log = still_brought y.page (t.lives queued) y.brings_log; page_tells_error = y.page_tells_error };
        };
        served = let lt = t.served.0 in (omega (arith, lt), t.served.1);
        lives = λ queued dead. t.lives queued (ap state_of (sym (part.leaves_others.other_probe_results_are_same its_port.0 not_n)) ∙ dead);
      }

    -- ---- the turn, with what was before

    had_turn : Progress (n + 1) mid (before ++ its)
    had_turn = record {
      invariant_with_none_due = next;
      wanted = part.leaves_others.wanted ∙ p.wanted;
      adapter_is_on = on_mid;
      accesses = accesses;
      turn_is_taken = laws.steps_and_accesses.does_append p.accesses part.accesses s.device c.device mid.device p.turn_is_taken part.accesses_are_done;
      serving = All-append (UsesPortsAndNotGhc (Uses plan old.ports)) p.accesses part.accesses p.serving
          (serving laws n plan (probe_result_of s.probe_results n) old.ports (ap (λ (ports : Ports). ports.served (port_at n)) ports_are) (state_was (port_at n)) takes its c mid m part x);
      others = λ q none. All-append (KeepsToAnotherPort q) p.accesses part.accesses
          (p.others q (λ served. let lt = served.0 in none (omega (arith, lt), served.1)))
          (of_other q (λ is. none (omega (arith, is), takes_at q.0 is)));
      steps = all;
      turns = its_turns;
      machine_relation = subst (MachineRelation mid) (sym whole_is) x.machine_relation;
      backed = laws.backed_parts_join s.device c.device mid.device old.machine p.steps x.steps p.backed x.is_backed;
      belong = belong_join (asks_for plan) (ports_of mid) x.steps p.steps (subst (λ (ask : AbstractCall DeviceStep). AreStepsOfCall ask (ports_of mid) x.steps) (asks_so plan (probe_result_of s.probe_results n) n) x.steps_are_of_call)
          (belong_on plan (λ q. q.0 < n) (ports_of c) (ports_of mid) (λ q lt. let same = same_other q (λ is. omega (arith, lt, is)) in (same.1, same.5)) p.steps p.turns.below p.belong);
      evidence = evidence;
      lost = All-append (λ (q : Port). state_at q.0 ≡ ReadyState) p.evidence.lost x.evidence.lost p.lost its_lost;
      names = names_joined (HadTurn (n + 1)) p.evidence x.evidence
          (names_more (HadTurn n) (HadTurn (n + 1)) (λ q served. let lt = served.0 in (omega (arith, lt), served.1)) p.evidence p.names)
          (names_more (λ q. q ≡ port_at n) (HadTurn (n + 1)) (λ q is. subst (HadTurn (n + 1)) (sym is) (omega arith, takes)) x.evidence mine);
      lawful = joined_lawful;
      owes = owes_join plan (probe_result_of s.probe_results n) n (port_at n) part.accesses c mid m p.evidence x.evidence p.steps x.steps p.owes x.requeues_and_aborts_fit_turn;
      unplugs = unplugs_join laws old reached n p.steps x.steps p.turns x.steps_are_of_turn x.steps_are_enabled x.issues_are_last p.unplugs x.unplugged_outcome_empties_port;
      answers = told_all.answers;
      permuted = told_all.permuted;
      book_is_in_order = told_all.ordered;
      low = told_all.low;
      told = told_all.told;
      faults = λ told here. ⊎_elim
          (λ early. fault_before told (p.faults told early))
          (λ late. ⊎_elim (λ is. fault_n is told (x.faults_are_told told late)) (λ silent. absurd (nowhere told (subst (λ (list : List RequestFault). Contains list told) silent.0 late))) silent_or_ready)
          (Contains-append_cases p.evidence.faults x.evidence.faults told here);
      done = λ q lt. ⊎_elim
          (λ (less : q.0 < n). done_before q less (p.done q less))
          (λ (most : n ≤ q.0). subst (λ (r : Port). IsDone mid accesses all evidence r) (ap port_at (let e : n ≡ q.0 = omega (arith, lt, most) in e)) done_n)
          (cases_lt q.0 n);
      due = due_now;
      of = All-append (IsByDeviceOrOnSuchPort (HadTurn (n + 1))) x.steps p.steps
          (all_of_ports (λ q. q ≡ port_at n) (HadTurn (n + 1)) (λ q is. subst (HadTurn (n + 1)) (sym is) (omega arith, takes)) x.steps x.steps_are_of_turn)
          (all_of_ports (HadTurn n) (HadTurn (n + 1)) (λ q served. let lt = served.0 in (omega (arith, lt), served.1)) p.steps p.of);
      found = λ q none. part.leaves_others.other_probe_results_are_same q.0 (λ is. none (omega (arith, is), takes_at q.0 is)) ∙ p.found q (still_none q none);
      remembered = λ q none. part.leaves_others.other_remembered_are_same q.0 (λ is. none (omega (arith, is), takes_at q.0 is)) ∙ p.remembered q (still_none q none);
      modes = λ q none. part.leaves_others.other_modes_are_same q.0 (λ is. none (omega (arith, is), takes_at q.0 is)) ∙ p.modes q (still_none q none);
      slots = λ q none. part.leaves_others.other_slots_are_same q.0 (λ is. none (omega (arith, is), takes_at q.0 is)) ∙ p.slots q (still_none q none);
    }
      where
        still_none : (q : Port) → (HadTurn (n + 1) q → ⊥) → HadTurn n q → ⊥
        still_none q none served = let lt = served.0 in none (omega (arith, lt), served.1)

  -- ---- all ports

  -- how far all got, where no port from there on has a turn
  pub record Whole (new : ServerState) (replies : List Reply) : Type 0 where
    pub count : ℕ
    pub steps_since : (port : ℕ) → count ≤ port → TakesTurn plan (probe_result_of s.probe_results port) → ⊥
    pub progress : Progress count new replies

  on : (f : ProbeResult) (found : List ProbeResult) (n : ℕ) → ((i : ℕ) → probe_result_of s.probe_results (n + i) ≡ probe_result_of (f ∷ found) i) → (i : ℕ) → probe_result_of s.probe_results (n + 1 + i) ≡ probe_result_of found i
  on f found n here i = ap (λ (k : ℕ). probe_result_of s.probe_results k) (omega arith) ∙ here (suc i)

  head_is : (f : ProbeResult) (found : List ProbeResult) (n : ℕ) → ((i : ℕ) → probe_result_of s.probe_results (n + i) ≡ probe_result_of (f ∷ found) i) → probe_result_of s.probe_results n ≡ f
  head_is f found n here = ap (λ (k : ℕ). probe_result_of s.probe_results k) (omega arith) ∙ here 0

  -- one that isn't served has none
  unserved : (n : ℕ) → probe_result_of s.probe_results n ≡ Unserved → TakesTurn plan (probe_result_of s.probe_results n) → ⊥
  unserved n is takes = unserved_waits plan (subst (TakesTurn plan) is takes)

  -- each port's turn is a part of the call: a ready one's; and another one's, unless it is passed over
  module _ (Such : Port → List Reply → ServerState → ServerState → Type 0) (Other : Port → ServerState → ServerState → Type 0)
      (is_part : (n : ℕ) (c mid : ServerState) (before its : List Reply) → state_at n ≡ ReadyState → Progress n c before → Such (port_at n) its c mid → IsPortTurn (turn_at plan (probe_result_of s.probe_results n) n) (port_at n) its c mid)
      (is_other : (n : ℕ) (c mid : ServerState) (before : List Reply) (state : PortState) → probe_result_of s.probe_results n ≡ Unready state → Progress n c before → Other (port_at n) c mid
      → ((TakesTurn plan (probe_result_of s.probe_results n) → ⊥) × (mid ≡ c)) ⊎ (TakesTurn plan (probe_result_of s.probe_results n) × IsPortTurn (turn_at plan (probe_result_of s.probe_results n) n) (port_at n) [] c mid)) where
    pub go : (found : List ProbeResult) (n : ℕ) → ((i : ℕ) → probe_result_of s.probe_results (n + i) ≡ probe_result_of found i) → (c new : ServerState) (before replies : List Reply) → Progress n c before → EachPortTakesTurn Such Other n found replies c new
        → Whole new (before ++ replies)
    go [] n here c new before replies p turns = record {
      count = n;
      steps_since = λ q most takes. unserved q (ap (λ (k : ℕ). probe_result_of s.probe_results k) (omega (arith, most)) ∙ here (q - n)) takes;
      progress = subst (λ (x : ServerState). Progress n x (before ++ replies)) (sym turns.1) (subst (Progress n c) (sym (append-nil before) ∙ ap (λ (r : List Reply). before ++ r) (sym turns.0)) p);
    }
    go (Ready info ∷ found) n here c new before replies p (mid, its, later, is, next, turn, more) =
        let its_found = head_is (Ready info) found n here in
        let its_ready = ap state_of its_found in
        subst (Whole new) (append_assoc before its later ∙ ap (λ (r : List Reply). before ++ r) (sym is))
        (go found (n + 1) (on (Ready info) found n here) mid new (before ++ its) later
        (had_turn n c mid before its (ready_found s n kept its_ready).0 (ready_takes plan (probe_result_of s.probe_results n) its_ready) p next (is_part n c mid before its its_ready p turn)) more)
    go (Unserved ∷ found) n here c new before replies p turns =
        go found (n + 1) (on Unserved found n here) c new before replies (skipped plan laws s start old reached at ports_are n c before (unserved n (head_is Unserved found n here)) p) turns
    go (Unready state ∷ found) n here c new before replies p (mid, next, turn, more) =
        let its_found = head_is (Unready state) found n here in
        ⊎_elim
        (λ over. go found (n + 1) (on (Unready state) found n here) c new before replies (skipped plan laws s start old reached at ports_are n c before over.0 p)
        (subst (λ (x : ServerState). EachPortTakesTurn Such Other (n + 1) found replies x new) over.1 more))
        (λ part. subst (λ (list : List Reply). Whole new (list ++ replies)) (append-nil before)
        (go found (n + 1) (on (Unready state) found n here) mid new (before ++ []) replies
        (had_turn n c mid before [] (kept.served_ports_exist n (ap is_served its_found)).0 part.0 p next part.1) more))
        (is_other n c mid before state its_found p turn)

-- a server whose ports had their turns keeps what it keeps
pub turns_kept : (Such : Port → List Reply → ServerState → ServerState → Type 0) (Other : Port → ServerState → ServerState → Type 0) (found : List ProbeResult) (n : ℕ) (s new : ServerState) (replies : List Reply) → InvariantWithNoneDue s → EachPortTakesTurn Such Other n found replies s new → InvariantWithNoneDue new
turns_kept Such Other [] n s new replies keeps turns = subst InvariantWithNoneDue (sym turns.1) keeps
turns_kept Such Other (Ready info ∷ found) n s new replies keeps (mid, its, later, is, next, turn, more) = turns_kept Such Other found (n + 1) mid new later next more
turns_kept Such Other (Unserved ∷ found) n s new replies keeps turns = turns_kept Such Other found (n + 1) s new replies keeps turns
turns_kept Such Other (Unready state ∷ found) n s new replies keeps (mid, next, turn, more) = turns_kept Such Other found (n + 1) mid new replies next more
