-- What a port's turn in a service has done of it, the service has done so far.
use Rattle.std.proofs.Common.{cond, ℕ, ◌≡◌, ◌≢◌, ◌⊎◌, ◌<◌, true, false, List, [], ◌++◌, Some, None, drop, refl, sym, ap, ◌∙◌, subst, inl, inr, ⊎_elim, arith, append-nil}
use Rattle.std.specs.List.{Contains, count_by, list_any}
use Rattle.std.proofs.lemmas.Bool.{cases_Bool, cases_eq, false≢true}
use Rattle.std.proofs.lemmas.List.Elements.{Contains-append_cases, Contains-append_left}
use Rattle.std.proofs.lemmas.List.Sums.{sum_by-append}
use Rattle.ata_types.specs.declared.PortState.{PortState}
use Rattle.ata_types.specs.declared.PortState.TheVariants.{Absent, Dead, Ready as ReadyState}
use Rattle.ata_types.specs.declared.request.Outcome.{Outcome}
use Rattle.ata_types.specs.declared.request.Outcome.TheVariants.{DeviceError}
use Rattle.ata_types.specs.declared.request.Reply.{Reply}
use Rattle.adapter.specs.Access.{Access}
use Rattle.adapter.specs.Commands.{Meaning, is_queued}
use Rattle.adapter.specs.Device.{Device}
use Rattle.adapter.specs.Rules.{InUse, IsOn}
use Rattle.refinement.specs.Relation.{port_at}
use Rattle.refinement.specs.PortFacts.{RecordsFaults, ShowsFault}
use Rattle.refinement.specs.Slots.{ServesRequest}
use Rattle.block_machine.specs.Events.{AbstractState, Replied, Service, changes_disk}
use Rattle.block_machine.specs.Histories.{JointState, IsReachable}
use Rattle.block_machine.specs.Expected.{after}
use Rattle.block_machine.specs.Ports.{Evidence, IsStoppedOrStuck, SamePort}
use Rattle.block_machine.specs.State.{Pending, Machine}
use Rattle.block_machine.specs.Steps.{Step, Answer}
use Rattle.host_boot.specs.TakeOver.{probe_result_of}
use Rattle.host_boot.specs.declared.ProbeResult.{ProbeResult}
use Rattle.driver_history.specs.EvidenceHandling.{ToldOkOr, IsLeftAlone, ServicesReadyPort, tells_fault}
use Rattle.driver_history.specs.Evidence.{ShowsLinkChange, ShowsFailure}
use Rattle.driver_history.specs.Histories.{BootsAnewWhereRequired, FindsDone, IsForeignOrUnfit, HasOnlyTaskFileError, IsAnsweredFaulty, IsIssuedOn, PortCorresponds}
use Rattle.driver_history.specs.PortTurn.{HasTurnIn, EvidenceAgreesOn}
use Rattle.server_history.specs.Prerequisites.{PrerequisiteLaws}
use Rattle.server_history.specs.Turns.{IsPortTurn, LosesNoErrorAndRunsWellAnew, ServingReady, SimulatesTurn, CorrespondsInServiceLosesNoErrorInRestart, Turn, joint_state_of, abstract_state_of, joint_event_of_turn}
use Rattle.server_history.specs.ServerState.{HasStoredCommand, ServerState, InCallInvariant, MachineRelation, InvariantWithNoneDue, ports_of, state_of}
use Rattle.server_history.proofs.any_turn.JoinedParts.{same_then}
use Rattle.server_history.proofs.whole_call.TurnResults as lifting
use Rattle.server_history.proofs.whole_call.TurnResults.{counts_apart}
use Rattle.server_history.proofs.whole_call.ServiceAndTick.{AService, turn_at}
use Rattle.server_history.proofs.whole_call.Progress as progress
use Rattle.server_history.proofs.state.PortSlots.{ready_found, free_unused}
use Rattle.server_history.proofs.unready_turn.UnfitPort.{ready_fits}

module _ (laws : PrerequisiteLaws) (s : ServerState) (start : InvariantWithNoneDue s) (old : AbstractState) (reached : IsReachable old.machine) (at : MachineRelation s old.machine) (ports_are : old.ports ≡ ports_of s) where
  abbrev kept : InCallInvariant s
  kept = start.in_call_invariant

  abbrev began : JointState Device
  began = record { device = s.device; abstract = old }

  abbrev state_at : ℕ → PortState
  state_at q = state_of (probe_result_of s.probe_results q)

  abbrev Progress : ℕ → ServerState → List Reply → Type 0
  Progress n c replies = progress.Progress AService laws s start old reached at ports_are n c replies

  module _ (n : ℕ) (c mid : ServerState) (before its : List Reply) (ready : state_at n ≡ ReadyState) (p : Progress n c before) (next : InvariantWithNoneDue mid) (part : IsPortTurn (turn_at AService (probe_result_of s.probe_results n) n) (port_at n) its c mid)
      (m_reached : IsReachable (after old.machine p.steps)) (on_mid : IsOn mid.device) where
    abbrev m : Machine
    m = after old.machine p.steps

    abbrev x : SimulatesTurn (turn_at AService (probe_result_of s.probe_results n) n) (port_at n) its part.accesses c mid m
    x = part.simulates_turn m m_reached p.machine_relation

    abbrev all : List Step
    all = x.steps ++ p.steps

    abbrev accesses : List Access
    accesses = p.accesses ++ part.accesses

    -- it is ready, and so its turn is one in which it is served
    is_service : turn_at AService (probe_result_of s.probe_results n) n ≡ ServingReady
    is_service = ap (λ (found : ProbeResult). turn_at AService found n) (ready_found s n kept ready).1.1

    its_ties : CorrespondsInServiceLosesNoErrorInRestart ServingReady (port_at n) its part.accesses c mid m x.evidence x.steps
    its_ties = subst (λ (turn : Turn). CorrespondsInServiceLosesNoErrorInRestart turn (port_at n) its part.accesses c mid m x.evidence x.steps) is_service x.turn_corresponds

    low : n < 4
    low = lifting.low AService laws s start old reached at ports_are n c mid before its p next part m_reached on_mid ready

    ready_c : state_of (probe_result_of c.probe_results n) ≡ ReadyState
    ready_c = lifting.ready_c AService laws s start old reached at ports_are n c mid before its p next part m_reached on_mid ready

    was_ready : old.ports.state (port_at n) ≡ ReadyState
    was_ready = lifting.was_ready AService laws s start old reached at ports_are n c mid before its p next part m_reached on_mid ready

    not_early : (e : Pending) (o : Outcome) → Contains p.steps (Answer e o) → e.request.port ≢ port_at n
    not_early = lifting.not_early AService laws s start old reached at ports_are n c mid before its p next part m_reached on_mid

    abbrev t : HasTurnIn (port_at n) s.device mid.device
    t = lifting.t AService laws s start old reached at ports_are n c mid before its p next part m_reached on_mid

    undue : (s.device.port n).link_due ≡ false
    undue = lifting.undue AService laws s start old reached at ports_are n c mid before its p next part m_reached on_mid ready

    abbrev IsLeading : Pending → Type 0
    IsLeading e = lifting.IsLeading AService laws s start old reached at ports_are n c mid before its p next part m_reached on_mid ready e

    leading : (e : Pending) → IsIssuedOn (port_at n) old.machine e → IsLeading e
    leading = lifting.leading AService laws s start old reached at ports_are n c mid before its p next part m_reached on_mid ready

    then_issued : (e : Pending) → IsIssuedOn (port_at n) old.machine e → (h : IsLeading e) → IsIssuedOn (port_at n) m h.now_is
    then_issued = lifting.then_issued AService laws s start old reached at ports_are n c mid before its p next part m_reached on_mid ready

    whole_is : after old.machine all ≡ after m x.steps
    whole_is = lifting.whole_is AService laws s start old reached at ports_are n c mid before its p next part m_reached on_mid

    module _ (evidence : Evidence) (alike : EvidenceAgreesOn (port_at n) x.evidence evidence) (same_n : SamePort old.ports (ports_of c) (port_at n)) where
      abbrev did : PortCorresponds (joint_state_of c m) (joint_event_of_turn ServingReady its mid x.evidence x.steps) part.accesses (port_at n)
      did = its_ties

      abbrev serves : ServicesReadyPort (abstract_state_of c m) x.evidence x.steps (record { machine = after m x.steps; ports = ports_of mid }) (port_at n)
      serves = did.handles_evidence ready_c

      finding : (e : Pending) → IsIssuedOn (port_at n) old.machine e → FindsDone (port_at n) accesses began all
      finding e leads = lifting.finding AService laws s start old reached at ports_are n c mid before its p next part m_reached on_mid ready (x.finds_done is_service (leading e leads).now_is (then_issued e leads (leading e leads))) serves.answers_ok_what_had_ended

      -- ---- a plain request's fault

      module _ (alone : HasOnlyTaskFileError (port_at n) began mid.device) (e : Pending) (slot : ℕ) (own : IsIssuedOn (port_at n) old.machine e) (unended : e.ended ≡ false)
          (says : ServesRequest old.machine s.device.memory (s.device.port n) n slot e.request.id) (plain : is_queued says.command.operation ≡ false) where
        abbrev it : IsLeading e
        it = leading e own

        -- it is in its slot, which was used when the call began
        its_slot : slot ≡ it.has.slot
        unfolding leading
        its_slot = ⊎_elim (λ same. same) (λ apart. absurd (false≢true (sym unended ∙ lifting.has_ended AService laws s start old reached at ports_are n c mid before its p next part m_reached on_mid ready e own slot apart says))) (cases_eq slot it.has.slot)

        -- whose command is a plain one
        used_plain : it.has.used.queued ≡ false
        used_plain =
            let k = subst (HasStoredCommand it.has.used.queued s.device n) (sym its_slot) (kept.slots_store_commands n it.has.slot it.has.used (sym (lifting.used_then AService laws s start old reached at ports_are n c mid before its p next part m_reached on_mid ready it.has.slot) ∙ it.has.used_is)) in
            let same = laws.slots.decoding_is_unique s.device.memory (s.device.port n).bases.clb slot says.command k.command says.places k.places says.slot_decodes_to.decodes_to k.stored.slot_decodes_to.decodes_to in
            sym k.is_queued_as_given ∙ sym (ap (λ (y : Meaning). is_queued y.operation) same.0) ∙ plain

        plain_now : is_queued (lifting.by AService laws s start old reached at ports_are n c mid before its p next part m_reached on_mid ready e it).serves.command.operation ≡ false
        plain_now =
            let k = p.invariant_with_none_due.in_call_invariant.slots_store_commands n it.has.slot it.has.used it.has.used_is in
            let its = (lifting.by AService laws s start old reached at ports_are n c mid before its p next part m_reached on_mid ready e it).serves in
            let same = laws.slots.decoding_is_unique c.device.memory (c.device.port n).bases.clb it.has.slot its.command k.command its.places k.places its.slot_decodes_to.decodes_to k.stored.slot_decodes_to.decodes_to in
            ap (λ (y : Meaning). is_queued y.operation) same.0 ∙ k.is_queued_as_given ∙ used_plain

        -- so it is in the turn
        alone_now : HasOnlyTaskFileError (port_at n) (joint_state_of c m) mid.device
        alone_now = laws.calls.lone_tfes_in_call_is_in_turn (port_at n) began (abstract_state_of c m) mid.device kept.adapter_is_on undue t on_mid ready_c alone

        -- the fault that is shown then is of that slot, which is in use
        faults : RecordsFaults c.device.tape (c.device.port n) n
        faults = ((p.invariant_with_none_due.in_call_invariant.port_invariant n low).ready_engine_runs ready_c).faults_are_recorded

        fault : ShowsFault (drop (c.device.port n).notes.st_set_at c.device.tape) (c.device.port n) n
        fault = faults.shows_last_fault (faults.tfes_tells_fault alone_now.shows_only_tfes.tfes_is_set)

        used_still : InUse (c.device.port n) it.has.slot
        used_still =
            let sole = p.invariant_with_none_due.in_call_invariant.plain_is_alone_in_slot_0 n it.has.slot it.has.used it.has.used_is used_plain in
            subst (InUse (c.device.port n)) (laws.slots.shown_fault_is_of_lone_slot p.machine_relation.uses m c.device n it.has.slot (drop (c.device.port n).notes.st_set_at c.device.tape) p.machine_relation.driver_relation.state_relation fault
            (λ other apart. free_unused c m n p.machine_relation ready_c other (sole.1 other (λ zero. apart (zero ∙ sym sole.0))))) fault.slot_is_issued_or_taken

        -- so it hasn't ended
        unended_now : it.now_is.ended ≡ false
        unended_now = ⊎_elim
            (λ (is : it.now_is.ended ≡ true).
            let over = (laws.slots.ended_clear p.machine_relation.uses m c.device (port_at n) it.has.slot it.now_is m_reached p.machine_relation.driver_relation.state_relation (inl (it.here, it.issued_now)) is (lifting.slot_serves AService laws s start old reached at ports_are n c mid before its p next part m_reached on_mid ready e it)).0.over in
            absurd (⊎_elim (λ issued. false≢true (sym over.is_not_issued ∙ issued)) (λ (taken : _ × _). let z : None ≡ Some taken.0 = sym over.is_not_taken ∙ taken.1 in cc) used_still))
            (λ no. no)
            (cases_Bool it.now_is.ended)

        tfes_read_means_faulted : IsAnsweredFaulty e all ⊎ (state_of (probe_result_of mid.probe_results n) ≡ Dead)
        tfes_read_means_faulted = ⊎_elim
            (λ (a : IsAnsweredFaulty it.now_is x.steps). inl (a.0, a.1, a.2, a.3 ∙ it.same_as.request, Contains-append_left x.steps p.steps (Answer a.0 (DeviceError a.1 a.2)) a.4))
            (λ dead. inr dead)
            (did.lone_plain_faults_are_told_unless_dead alone_now it.now_is it.has.slot (then_issued e own it) unended_now (lifting.by AService laws s start old reached at ports_are n c mid before its p next part m_reached on_mid ready e it).serves plain_now)

      -- ---- what it heeds

      unnamed : IsStoppedOrStuck evidence (port_at n) → IsStoppedOrStuck x.evidence (port_at n)
      unnamed i = ⊎_elim (λ stopped. inl (alike.stopped.1 stopped)) (λ stuck. inr (alike.stuck.1 stuck)) i

      told_whole : (o : Outcome) → ToldOkOr o x.steps (port_at n) → ToldOkOr o all (port_at n)
      told_whole o told e answer here own = ⊎_elim
          (λ late. told e answer late own)
          (λ early. absurd (not_early e answer early own))
          (Contains-append_cases x.steps p.steps (Answer e answer) here)

      counted : count_by (tells_fault (port_at n)) all ≡ count_by (tells_fault (port_at n)) x.steps
      counted =
          let whole = sum_by-append (λ (step : Step). cond (tells_fault (port_at n) step) 1 0) x.steps p.steps in
          let none = counts_apart (port_at n) p.steps not_early in
          omega (arith, whole, none)

      changed_whole : list_any (changes_disk (port_at n)) x.steps ≡ true → list_any (changes_disk (port_at n)) all ≡ true
      changed_whole = lifting.changed_whole AService laws s start old reached at ports_are n c mid before its p next part m_reached on_mid

      heeds_whole : ServicesReadyPort old evidence all (record { machine = after old.machine all; ports = ports_of mid }) (port_at n)
      heeds_whole = record {
        answers_ok_what_had_ended = lifting.ended_whole AService laws s start old reached at ports_are n c mid before its p next part m_reached on_mid ready serves.answers_ok_what_had_ended;
        link_change_leaves_none = λ gone e here. serves.link_change_leaves_none (alike.link_changed.1 gone) e (subst (λ (k : Machine). Contains k.book e) whole_is here);
        link_change_tells_alike = λ gone. ⊎_elim (λ a. inl (told_whole _ a)) (λ b. inr (told_whole _ b)) (serves.link_change_tells_alike (alike.link_changed.1 gone));
        trouble_stops_or_sticks = λ port_error. lifting.named AService laws s start old reached at ports_are n c mid before its p next part m_reached on_mid evidence alike (serves.trouble_stops_or_sticks (⊎_elim (λ failed. inl (alike.showing_error.1 failed)) (λ gone. inr (alike.link_changed.1 gone)) port_error));
        error_or_stop_leaves_no_old_issue = λ port_error. lifting.anew_whole AService laws s start old reached at ports_are n c mid before its p next part m_reached on_mid (serves.error_or_stop_leaves_no_old_issue (⊎_elim (λ failed. inl (alike.showing_error.1 failed)) (λ stopped. inr (alike.stopped.1 stopped)) port_error));
        one_fault_at_most = let one = serves.one_fault_at_most in omega (arith, counted, one);
        fatal_tells_no_fault = λ here. let y = serves.fatal_tells_no_fault (alike.showing_fatal_error.1 here) in (alike.showing_error.0 y.0, counted ∙ y.1);
        shown_disk_was_in_or_came = lifting.disk_whole AService laws s start old reached at ports_are n c mid before its p next part m_reached on_mid serves.shown_disk_was_in_or_came;
        is_left_alone_if_calm = ⊎_elim
            (λ disturbed. inl (⊎_elim (λ failed. inl (alike.showing_error.0 failed)) (λ rest. inr (⊎_elim (λ gone. inl (alike.link_changed.0 gone)) (λ changed. inr (changed_whole changed)) rest)) disturbed))
            (λ (a : IsLeftAlone (ports_of c) x.evidence x.steps (ports_of mid) (port_at n)). inr (record {
              port_is_same = same_then old.ports (ports_of c) (ports_of mid) (port_at n) same_n a.port_is_same;
              only_ok_is_told = told_whole _ a.only_ok_is_told;
              is_neither_stopped_nor_stuck = λ i. a.is_neither_stopped_nor_stuck (unnamed i);
            }))
            serves.is_left_alone_if_calm;
      }

      -- ---- trouble

      same_self : SamePort (ports_of mid) (ports_of mid) (port_at n)
      same_self = (refl, refl, refl, refl, refl, refl)

      -- where the port showed a failure when it began, or a change of its link, the turn stopped it
      stops_troubled : ShowsFailure (c.device.port n) ⊎ ShowsLinkChange (c.device.port n) → IsStoppedOrStuck x.evidence (port_at n)
      stops_troubled port_error = serves.trouble_stops_or_sticks (⊎_elim (λ failure. inl (x.is_evidenced.shown_failure_of_ready_is_named ready_c failure)) (λ change. inr (x.is_evidenced.shown_loss_of_ready_is_named ready_c (inl change))) port_error)

      -- ---- the whole

      not_bad : IsForeignOrUnfit old.ports (port_at n) → ⊥
      not_bad bad = ready_fits (old.ports.state (port_at n)) was_ready bad

      not_absent : old.ports.state (port_at n) ≡ Absent → ⊥
      not_absent absent = let z : Absent ≡ ReadyState = sym absent ∙ was_ready in absurd cc

      heeds_trouble : LosesNoErrorAndRunsWellAnew (port_at n) accesses began evidence (ports_of mid) mid.device
      heeds_trouble = lifting.trouble_whole AService laws s start old reached at ports_are n c mid before its p next part m_reached on_mid evidence alike same_n (λ _. stops_troubled) (λ _. inl undue) (record { loses_no_error = did.loses_no_error; runs_well_anew = did.runs_well_anew })

      pub ties_whole : PortCorresponds began (joint_event_of_turn ServingReady [] mid evidence all) accesses (port_at n)
      ties_whole = record {
        finds_done = λ _ e own. finding e own;
        lone_plain_faults_are_told_unless_dead = λ alone e slot own unended says plain. tfes_read_means_faulted alone e slot own unended says plain;
        probes_disk = λ served coming. record {
          absent_with_device_is_booted_dead_or_has_plug_event = λ absent det. absurd (not_absent absent);
          absent_gets_first_fis_or_dead_or_no_device = λ absent det fresh. absurd (not_absent absent);
          missing_disk_makes_absent_or_dead = λ bad. absurd (not_bad bad);
          changed_disk_is_booted_or_absent_or_dead = λ bad. absurd (not_bad bad);
        };
        boots_anew = subst (λ (list : List Access). BootsAnewWhereRequired Service (Replied []) (p.accesses ++ list) began (ports_of mid) mid.device (port_at n)) (append-nil part.accesses)
            (laws.calls.turn_boots_are_calls (port_at n) began (abstract_state_of c m) (ports_of mid) (ports_of mid) mid.device (Replied its) (Replied []) kept.adapter_is_on (λ _. undue) t on_mid same_self same_n did.boots_anew);
        loses_no_error = heeds_trouble.loses_no_error;
        runs_well_anew = heeds_trouble.runs_well_anew;
        handles_evidence = λ _. heeds_whole;
      }
