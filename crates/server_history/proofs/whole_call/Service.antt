-- A service adds an event to a history.
use Rattle.std.proofs.Common.{ℕ, ◌≡◌, ◌≢◌, List, [], ◌∷◌, refl, sym, ap, ◌∙◌, ⊎_elim, arith, subst, inl, inr, ◌⊎◌}
use Rattle.std.specs.List.{Contains}
use Rattle.std.proofs.lemmas.Bool.{cases_lt}
use Rattle.ata_types.specs.declared.Port.{Port}
use Rattle.ata_types.specs.declared.PortState.{PortState}
use Rattle.ata_types.specs.declared.PortState.TheVariants.{Dead, Ready as ReadyState}
use Rattle.refinement.specs.Relation.{port_at}
use Rattle.ata_types.specs.declared.request.Reply.{Reply}
use Rattle.adapter.specs.Device.{Device}
use Rattle.adapter.specs.declared.access.DeviceStep.{DeviceStep}
use Rattle.block_machine.specs.Events.{AnswersService, UnansweredKeepSerialAndSize, AbstractState, Replied, Service}
use Rattle.block_machine.specs.Histories.{JointState, JointEvent, IsReachable, joint_state_after}
use Rattle.block_machine.specs.Expected.{after}
use Rattle.block_machine.specs.Ports.{Ports}
use Rattle.block_machine.specs.State.{Pending}
use Rattle.host_boot.specs.TakeOver.{probe_result_of}
use Rattle.host_boot.specs.declared.ProbeResult.{ProbeResult}
use Rattle.host_boot.specs.declared.ProbeResult.TheVariants.{Unready}
use Rattle.driver_history.specs.Histories.{PortCorresponds}
use Rattle.server_history.proofs.any_turn.JoinedParts.{dead_or_not}
use Rattle.driver_history.specs.Evidence.{IsEvidenced}
use Rattle.request_queue.specs.BookRelation.{EntryRelation}
use Rattle.server_history.specs.Histories.{ExtendsToNoneDue, LeadsToServer}
use Rattle.server_history.specs.Prerequisites.{PrerequisiteLaws}
use Rattle.server_history.specs.Turns.{IsPortTurn, ServicesEachPort, ServicesPort, ProbesUnready}
use Rattle.server_history.specs.Probing.{FindsReasonToBoot}
use Rattle.server_history.specs.ServerState.{ServerState, InCallInvariant, MachineRelation, InvariantWithNoneDue, mode_in, ports_of, state_of}
use Rattle.server_history.proofs.state.DueRequests.{none_due}
use Rattle.server_history.proofs.start.NewServer.{kept_fit}
use Rattle.server_history.proofs.state.HistorySteps.{holding, happening_with, lead_with, with_device}
use Rattle.server_history.proofs.state.PortSlots.{of_ready, ready_found}
use Rattle.server_history.proofs.state.PairedLists.{at_right}
use Rattle.server_history.proofs.whole_call.ServiceAndTick.{AService, TakesTurn, turn_at}
use Rattle.server_history.proofs.whole_call.Progress.{IsDone, Progress, answered_was, begun, idle_done}
use Rattle.server_history.proofs.whole_call.AllTurns.{Whole, go, turns_kept}

module _ (laws : PrerequisiteLaws) (s new : ServerState) (replies : List Reply) (start : InvariantWithNoneDue s) (serves : ServicesEachPort 0 s.probe_results replies s new) (first : JointState Device) (past : List (JointEvent Device DeviceStep)) (leads : LeadsToServer first past s) where
  abbrev old : AbstractState
  old = (joint_state_after first past).abstract

  at : MachineRelation s old.machine
  at = leads.state_is_at_history_end.machine_stands_for_it

  same : old.ports ≡ ports_of s
  same = leads.state_is_at_history_end.ports_are

  reached : IsReachable old.machine
  reached = laws.steps_and_accesses.history_machine_is_reachable s.wanted first past leads.history

  ready_part : (n : ℕ) (c mid : ServerState) (before its : List Reply) → state_of (probe_result_of s.probe_results n) ≡ ReadyState → Progress AService laws s start old reached at same n c before → ServicesPort (port_at n) its c mid
      → IsPortTurn (turn_at AService (probe_result_of s.probe_results n) n) (port_at n) its c mid
  ready_part n c mid before its is_ready_n p serves = subst (λ (found : ProbeResult). IsPortTurn (turn_at AService found n) (port_at n) its c mid) (sym (ready_found s n start.in_call_invariant is_ready_n).1.1) serves.is_port_turn

  -- a dead port is passed over
  other_part : (n : ℕ) (c mid : ServerState) (before : List Reply) (state : PortState) → probe_result_of s.probe_results n ≡ Unready state → Progress AService laws s start old reached at same n c before → ProbesUnready (port_at n) c mid
      → ((TakesTurn AService (probe_result_of s.probe_results n) → ⊥) × (mid ≡ c)) ⊎ (TakesTurn AService (probe_result_of s.probe_results n) × IsPortTurn (turn_at AService (probe_result_of s.probe_results n) n) (port_at n) [] c mid)
  other_part n c mid before state is p probes = ⊎_elim
      (λ (dead : state ≡ Dead).
      let its_state : probes.does_turn.state ≡ Dead =
      let found : Unready probes.does_turn.state ≡ Unready state = sym probes.does_turn.unready_state_is ∙ p.found (port_at n) (λ served. let lt = served.0 in omega (arith, lt)) ∙ is in
      (let one : probes.does_turn.state ≡ state = cc in one) ∙ dead in
      let looks = subst (λ (of : PortState). FindsReasonToBoot of (port_at n) probes.does_turn.has_found_something c.device probes.does_turn.device_after_look) its_state probes.does_turn.is_looked_at in
      inl (
        λ takes. takes.1 (ap state_of is ∙ dead),
        probes.does_turn.is_left_if_not_found looks.0 ∙ ap (λ (d : Device). record c { device = d }) looks.1,
      ))
      (λ (lives : state ≢ Dead). inr (
        subst (TakesTurn AService) (sym is) (refl, lives),
        subst (λ (found : ProbeResult). IsPortTurn (turn_at AService found n) (port_at n) [] c mid) (sym is) probes.is_port_turn,
      ))
      (dead_or_not state)

  ends : Whole AService laws s start old reached at same new replies
  ends = go AService laws s start old reached at same ServicesPort ProbesUnready ready_part other_part s.probe_results 0 (λ i. ap (λ (k : ℕ). probe_result_of s.probe_results k) (omega arith)) s new [] replies (begun AService laws s start old reached at same) serves

  p : Progress AService laws s start old reached at same ends.count new replies
  p = ends.progress

  abbrev holds : InCallInvariant new
  holds = p.invariant_with_none_due.in_call_invariant

  abbrev began : JointState Device
  began = with_device s.device (joint_state_after first past)

  abbrev end : AbstractState
  end = record { machine = after old.machine p.steps; ports = ports_of new }

  is_ready : (port : Port) → old.ports.state port ≡ state_of (probe_result_of s.probe_results port.0)
  is_ready port = ap (λ (ports : Ports). ports.state port) same

  -- what is so of each port at the end
  done : (port : Port) → IsDone AService laws s start old reached at same new p.accesses p.steps p.evidence port
  done port = ⊎_elim
      (λ less. p.done port less)
      (λ most. idle_done AService laws s start old reached at same ends.count new replies p port (ends.steps_since port.0 most))
      (cases_lt port.0 ends.count)

  none_waits : (port : Port) → state_of (probe_result_of new.probe_results port.0) ≢ ReadyState → (e : Pending) → Contains (after old.machine p.steps).book e → e.request.port ≢ port
  none_waits port other e here own =
      let a = at_right EntryRelation new.book (after old.machine p.steps).book p.machine_relation.book e here in
      other (ap (λ (q : Port). state_of (probe_result_of new.probe_results q.0)) (sym own ∙ a.2.port) ∙ of_ready new holds a.0 a.1)

  all_answered : AnswersService old p.evidence p.steps replies end
  all_answered = record {
    replies_match = record { answers = p.answers; is_permutation = p.permuted; ordered = p.book_is_in_order; replies_are_of_answers = p.told };
    dead_ports_tell_only_port_dead = λ e o h dead. absurd ((answered_was AService laws s start old reached at same ends.count new replies p e o h).1 (sym (is_ready e.request.port) ∙ dead));
    unplugged_outcome_empties_port = p.unplugs;
    none_is_due_where_ready = λ port ready. none_due new (after old.machine p.steps) p.machine_relation (mode_in new port) port (p.invariant_with_none_due.none_is_due port);
    empty_unless_ready = none_waits;
    answers_ok_what_had_ended = λ port ready. ((done port).ties.0.handles_evidence ready).answers_ok_what_had_ended;
    port_is_serviced = λ port. (done port).becomes;
    shown_disk_was_in_or_came = λ port. (done port).disk;
  }

  keeps : UnansweredKeepSerialAndSize old end
  keeps e o here was same_id = ⊎_elim (λ d. d) (λ none. absurd (none e here refl)) (done e.request.port).keeps

  evidenced : IsEvidenced Service (Replied replies) p.accesses began (ports_of new) new.device p.evidence
  evidenced = record {
    faults_are_told = λ told here. (p.faults told here).its;
    each_port_is_evidenced = λ port.
        let v = (done port).evidenced in
        record {
          named_lost_showed_loss_or_changed = v.named_lost_showed_loss_or_changed;
          shown_loss_of_ready_is_named = v.shown_loss_of_ready_is_named;
          named_link_changed_had_change_or_no_device = v.named_link_changed_had_change_or_no_device;
          shown_failure_of_ready_is_named = v.shown_failure_of_ready_is_named;
          named_showing_error_had_error = v.named_showing_error_had_error;
          shown_fatal_of_ready_is_named = v.shown_fatal_of_ready_is_named;
          named_showing_fatal_had_fatal = v.named_showing_fatal_had_fatal;
          engine_is_left_or_stopped = v.engine_is_left_or_stopped;
          named_stopped_was_stopped_or_reset = v.named_stopped_was_stopped_or_reset;
          stuck_only = v.stuck_only;
        };
  }

  -- what the service has done of each port
  port_part : (port : Port) → PortCorresponds began (happening_with p.evidence new.device Service (Replied replies) p.steps (ports_of new)) p.accesses port
  port_part port =
      let did = (done port).ties.0 in
      record { finds_done = did.finds_done; lone_plain_faults_are_told_unless_dead = did.lone_plain_faults_are_told_unless_dead; probes_disk = did.probes_disk; boots_anew = did.boots_anew; loses_no_error = did.loses_no_error; runs_well_anew = did.runs_well_anew; handles_evidence = did.handles_evidence }

  pub service_event : (h : JointEvent Device DeviceStep) × (h.event.call ≡ Service) × (h.event.result ≡ Replied replies) × LeadsToServer first (h ∷ past) new
  service_event =
      lead_with laws first past s new Service (Replied replies) p.evidence p.steps p.wanted leads (holding new holds) (kept_fit new holds)
      p.turns.may p.belong p.turns.last p.lawful keeps all_answered p.owes
      p.accesses
      (p.turn_is_taken, p.serving)
      evidenced
      (λ port ready. p.due port ready)
      port_part
      p.backed p.machine_relation

pub law_services_extend_history : PrerequisiteLaws → (s new : ServerState) (replies : List Reply) → InvariantWithNoneDue s → ServicesEachPort 0 s.probe_results replies s new → ExtendsToNoneDue s new Service (Replied replies)
law_services_extend_history laws s new replies start serves = record { invariant_with_none_due = turns_kept ServicesPort ProbesUnready s.probe_results 0 s new replies start serves; extends_history = λ first past leads. service_event laws s new replies start serves first past leads }
