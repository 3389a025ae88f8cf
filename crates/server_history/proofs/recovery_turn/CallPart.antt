-- A port's turn that mends it is a part of a service, or of a tick, and leaves the server settled.
use Rattle.std.proofs.Common.{ℕ, List, [], map, ◌≡◌, ◌≢◌, inr, refl, sym, ap, ◌∙◌, subst}
use Rattle.std.proofs.lemmas.List.Elements.{All-nil}
use Rattle.ata_types.specs.declared.Port.{Port}
use Rattle.ata_types.specs.declared.PortState.TheVariants.{Ready as ReadyState}
use Rattle.ata_types.specs.declared.request.Reply.{Reply}
use Rattle.adapter.specs.Device.{Device}
use Rattle.adapter.specs.declared.access.DeviceStep.{DeviceStep}
use Rattle.refinement.specs.Acts.{Act}
use Rattle.refinement.specs.Fragments.{AnySlotStates, IsSimulated}
use Rattle.block_machine.specs.declared.due.Unanswered.{Unanswered}
use Rattle.server_history.proofs.state.ListMembers.{map_in}
use Rattle.std.specs.List.{Contains}
use Rattle.server_history.proofs.dispositions.MetFates.{nobody}
use Rattle.block_machine.specs.DueRequests.{due_of, IsDue, NoneDue, requests_of_port}
use Rattle.block_machine.specs.Events.{AreStepsOfCall}
use Rattle.block_machine.specs.Histories.{IsReachable}
use Rattle.block_machine.specs.State.{Machine}
use Rattle.block_machine.specs.declared.due.QueueMode.{QueueMode}
use Rattle.host_boot.specs.TakeOver.{probe_result_of}
use Rattle.host_boot.specs.declared.ProbeResult.TheVariants.{Ready}
use Rattle.identify.specs.declared.DiskInfo.{DiskInfo}
use Rattle.port_control.specs.PortEvents.{IsPxisSstsOrOwnIsAccess}
use Rattle.request_queue.specs.BookEntries.{BookEntry, as_unanswered, unanswered_of, due_ids}
use Rattle.server_history.specs.Prerequisites.{PrerequisiteLaws}
use Rattle.server_history.specs.ErrorHandling.{HasResolved, HandlesPortError}
use Rattle.port_control.specs.declared.events.PortError.TheVariants.{TimedOut}
use Rattle.server_history.specs.ServerState.{InCallInvariant, MachineRelation, InvariantWithNoneDue, ServerState, mode_in, ports_of, state_of}
use Rattle.server_history.specs.Turns.{IsPortTurn, InRestart, ServingReady, SimulatesTurn, RequeuesAndAbortsFitTurn, ServicesPort, CorrespondsInServiceLosesNoErrorInRestart, Turn, ask_of_turn}
use Rattle.server_history.proofs.recovery_turn.TurnAsCall.{heeds_trouble, ties_recovered}
use Rattle.server_history.proofs.recovery_turn.DecidedSteps.{DecidesTurn, recovered_decides}
use Rattle.server_history.proofs.recovery_turn.TurnEvidence.{IsEvident, evident}
use Rattle.server_history.proofs.recovery_turn.DoneRequests.{found_by_masks}
use Rattle.server_history.proofs.recovery_turn.MendedMachine.{adds_fates}
use Rattle.server_history.proofs.recovery_turn.MendedServer.{recovered_kept}
use Rattle.server_history.proofs.recovery_turn.TurnParts.{evidence_by}
use Rattle.server_history.proofs.recovery_turn.RestartedPort.{belongs, owes}
use Rattle.server_history.proofs.plain_calls.IssueRounds.{each_apart, each_settings, settled}
use Rattle.server_history.proofs.state.PortSlots.{of_ready, ready_found}

-- where nobody looked, it is as after a look without accesses
pub unlooked : (port : Port) (old seen : Device) → seen ≡ old → IsSimulated (IsPxisSstsOrOwnIsAccess port) AnySlotStates old seen
unlooked port old seen same = subst (IsSimulated (IsPxisSstsOrOwnIsAccess port) AnySlotStates old) (sym same) (record {
  is_driven = record { accesses = []; all_are_done = refl; accesses_are_of_kind = All-nil (IsPxisSstsOrOwnIsAccess port) };
  acts_reach = λ s m reached knows any. record {
    acts = [];
    acts_are_done = refl;
    accesses_match_acts = refl;
    acts_are_such = record { all_steps_are_by_device = tt; unwritten_ports_keep_slots = λ q issues arms. All-nil (λ (act : Act). act.state_after.slot_states q.0 ≡ s.slot_states q.0) };
  };
})

-- once its requests met their fates, the server keeps what it keeps
pub goes_on : PrerequisiteLaws → (port : Port) (later : List Reply) (old new : ServerState) → InCallInvariant old → state_of (probe_result_of old.probe_results port.0) ≡ ReadyState → (a : HasResolved port later old new)
    → IsSimulated (IsPxisSstsOrOwnIsAccess port) AnySlotStates old.device a.error_handled.device_after_look → InCallInvariant new
goes_on laws port later old new k ready a looks =
    let f = adds_fates laws port later old new k ready a looks k.machine k.reached k.machine_relation in
    recovered_kept laws port later old new k ready a looks _ (laws.steps_and_accesses.reachable_stays_reachable k.machine _ k.reached f.may) f.stands

-- nothing is due on a port that isn't ready, of which no request is unanswered
pub none_due_unready : (s : ServerState) → InCallInvariant s → (port : Port) → state_of (probe_result_of s.probe_results port.0) ≢ ReadyState → (mode : QueueMode) → NoneDue mode (unanswered_of s.book) port
none_due_unready s k port unready mode r own due =
    let y = map_in (λ (x : BookEntry). as_unanswered x.request) s.book r due.is_in_book in
    unready (ap (λ (q : Port). state_of (probe_result_of s.probe_results q.0)) (sym own ∙ ap (λ (u : Unanswered). u.port) y.2) ∙ of_ready s k y.0 y.1)

pub unready_undue : PrerequisiteLaws → (s : ServerState) → InCallInvariant s → (port : Port) → ((info : DiskInfo) → probe_result_of s.probe_results port.0 ≡ Ready info → ⊥) → due_ids (mode_in s port) port (unanswered_of s.book) ≡ []
unready_undue laws s k port unready = ap (map (λ (r : Unanswered). r.id)) (nobody (due_of (mode_in s port) port (unanswered_of s.book)) none)
  where
    none : (r : Unanswered) → Contains (due_of (mode_in s port) port (unanswered_of s.book)) r → ⊥
    none r here =
        let own = laws.due_list_is_of_port (mode_in s port) port (unanswered_of s.book) r here in
        none_due_unready s k port (λ ready. let found = (ready_found s port.0 k ready).1 in unready found.0 found.1) (mode_in s port) r own ((laws.due_list_is_exact (mode_in s port) port (unanswered_of s.book) r own).0 here)

module _ (laws : PrerequisiteLaws) (port : Port) (replies : List Reply) (old new : ServerState) (t : InvariantWithNoneDue old) (ready : state_of (probe_result_of old.probe_results port.0) ≡ ReadyState)
    (r : HandlesPortError port replies old new) (looks : IsSimulated (IsPxisSstsOrOwnIsAccess port) AnySlotStates old.device r.has_resolved.error_handled.device_after_look) where
  abbrev k : InCallInvariant old
  k = t.in_call_invariant

  kept : InCallInvariant r.server_after_resolving
  kept = goes_on laws port r.later_replies old r.server_after_resolving k ready r.has_resolved looks

  e : IsEvident port replies old new r
  e = evident laws port replies old new k ready r looks kept

  -- what it makes of a machine that stands for the server, where it is such a part of its call
  module _ (m : Machine) (reached : IsReachable m) (is : MachineRelation old m) where
    d : DecidesTurn port replies old new r (evidence_by r.has_resolved) m
    d = recovered_decides laws port replies old new k ready r looks kept m reached is

    makes : (turn : Turn) → AreStepsOfCall {D = DeviceStep} (ask_of_turn turn) (ports_of new) d.steps → RequeuesAndAbortsFitTurn turn port e.accesses old new m (evidence_by r.has_resolved) d.steps
        → CorrespondsInServiceLosesNoErrorInRestart turn port replies e.accesses old new m (evidence_by r.has_resolved) d.steps → SimulatesTurn turn port replies e.accesses old new m
    makes turn belong owes ties = record {
      steps = d.steps;
      evidence = evidence_by r.has_resolved;
      steps_are_enabled = d.may;
      machine_relation = d.stands;
      is_backed = d.backed;
      steps_are_of_turn = d.own;
      steps_are_of_call = belong;
      issues_are_last = d.last;
      names_only_port = e.names;
      answers_are_lawful = d.lawful;
      requeues_and_aborts_fit_turn = owes;
      replies_match = d.tells;
      unplugged_outcome_empties_port = d.unplugs;
      port_is_serviced = e.becomes;
      shown_disk_was_in_or_came = inr (e.had m is d.steps d.backed);
      same_disk_or_none_unanswered = d.keeps;
      issues_due = d.issues;
      is_evidenced = e.evidenced (ask_of_turn turn) m;
      faults_are_told = e.faults;
      finds_done = λ _ x issued. found_by_masks laws port replies old new k ready r looks kept e m reached is d;
      turn_corresponds = ties;
    }

  has_part : (turn : Turn) → ((m : Machine) → IsReachable m → MachineRelation old m → SimulatesTurn turn port replies e.accesses old new m) → IsPortTurn turn port replies old new
  has_part turn made = record {
    accesses = e.accesses;
    accesses_are_done = e.does;
    accesses_are_of_port = e.of;
    accesses_are_drivers_own = e.own;
    leaves_others = e.others;
    others_get_no_log_unless_dead = e.silent;
    simulates_turn = made;
  }

  pub recovered : r.has_resolved.error_handled.port_error ≢ TimedOut → ServicesPort port replies old new
  recovered unhung = record {
    does_turn = inr (r, unhung);
    is_port_turn = has_part ServingReady (λ m reached is.
        let its = d m reached is in
        makes m reached is ServingReady its.belong (its.grounded unhung) (ties_recovered laws port replies old new k ready r looks kept e m reached is its unhung));
  }

  pub restarted : r.has_resolved.error_handled.port_error ≡ TimedOut → IsPortTurn InRestart port replies old new
  restarted hung = has_part InRestart (λ m reached is.
      let its = d m reached is in
      makes m reached is InRestart (belongs laws port replies old new k ready r looks kept e m reached is its hung) (owes laws port replies old new k ready r looks kept e m reached is its hung)
      (heeds_trouble laws port replies old new k ready r looks kept e m reached is its))

  -- nothing is due on another port, as before
  none_other : (other : Port) → other ≢ port → NoneDue (mode_in r.server_after_resolving other) (unanswered_of r.server_after_resolving.book) other
  none_other other ne u its due =
      let ids = due_ids (mode_in r.server_after_resolving port) port (unanswered_of r.server_after_resolving.book) in
      let number : other.0 ≢ port.0 = λ same. ne (ap (λ (n : ℕ). record { 0 = n }) same) in
      let mode_is : mode_in r.server_after_resolving other ≡ mode_in old other = sym (ap (λ (n : ServerState). mode_in n other) (each_settings laws port ids r.server_after_resolving new r.issued)) ∙ e.others.other_modes_are_same other.0 number in
      let book_is : requests_of_port other (unanswered_of r.server_after_resolving.book) ≡ requests_of_port other (unanswered_of old.book) = sym (each_apart laws port ids r.server_after_resolving new kept.book_is_well_formed r.issued other ne) ∙ e.others.others_requests_are_same other ne in
      t.none_is_due other u its ((laws.due_depends_on_own_port (mode_in old other) other (unanswered_of r.server_after_resolving.book) (unanswered_of old.book) u book_is its).0 (subst (λ (mode : QueueMode). IsDue mode (unanswered_of r.server_after_resolving.book) u) mode_is due))

  pub settles : InvariantWithNoneDue new
  settles = settled laws port r.server_after_resolving new kept none_other r.issued
